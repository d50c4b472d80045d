-- What is claimed of a report on lists w and m, in words that have nothing of the walk.
use Rattle.std.specs.Prelude.{ℕ, ◌≤◌, ◌<◌, ◌≡◌, List, [], ◌∷◌, length, get_or}
use Rattle.laps.specs.Times.{Rising, Near, Pairing, none, pair}
use Rattle.laps.specs.Walk.{Lists}

-- each pair has a watch time and a mat time, and "they are at most 50 apart"
abbrev pub Paired : Lists → Type 0
Paired r =
    (length r.paired_mat ≡ length r.paired_watch)
    × ((k : ℕ) → k < length r.paired_watch → Near (get_or r.paired_watch k 0) (get_or r.paired_mat k 0))

-- the times of a pairing's pairs
abbrev pub watch_times : {w m : List ℕ} {i j k : ℕ} → Pairing w m i j k → List ℕ
watch_times none = []
watch_times {w} (pair a b hi hw hj hm near p) = get_or w a 0 ∷ watch_times p

abbrev pub mat_times : {w m : List ℕ} {i j k : ℕ} → Pairing w m i j k → List ℕ
mat_times none = []
mat_times {w} {m} (pair a b hi hw hj hm near p) = get_or m b 0 ∷ mat_times p

-- "each is used once, and pairs keep their order": the times xs and ys are those of a pairing whose
-- places are i or later in w, and j or later in m
pub record PairsOf (w m : List ℕ) (i j : ℕ) (xs ys : List ℕ) : Type 0 where
  pub pairing : Pairing w m i j (length xs)
  pub watch_times_lem : watch_times pairing ≡ xs
  pub mat_times_lem : mat_times pairing ≡ ys

-- "each in rising order"
abbrev pub InOrder : Lists → Type 0
InOrder r = Rising r.paired_watch × Rising r.paired_mat × Rising r.alone_watch × Rising r.alone_mat

-- "the largest that any such pairing has"
abbrev pub Largest : List ℕ → List ℕ → ℕ → Type 0
Largest w m n = Pairing w m 0 0 n × ((k : ℕ) → Pairing w m 0 0 k → k ≤ n)

-- a list parted in two: each of its times goes to one of them, in order
pub data Parted : List ℕ → List ℕ → List ℕ → Type 0 where
  nothing : Parted [] [] []
  one : {l xs ys : List ℕ} (x : ℕ) → Parted l xs ys → Parted (x ∷ l) (x ∷ xs) ys
  other : {l xs ys : List ℕ} (x : ℕ) → Parted l xs ys → Parted (x ∷ l) xs (x ∷ ys)

-- "every time is reported in one place", and nothing else is
abbrev pub OnePlace : List ℕ → List ℕ → Lists → Type 0
OnePlace w m r = Parted w r.paired_watch r.alone_watch × Parted m r.paired_mat r.alone_mat

pub record Reported (w m : List ℕ) (r : Lists) : Type 0 where
  pub paired : Paired r
  pub pairs : PairsOf w m 0 0 r.paired_watch r.paired_mat
  pub rise : InOrder r
  -- "The number of pairs must be the largest that any such pairing has"
  pub largest : Largest w m (length r.paired_watch)
  pub one_place : OnePlace w m r
