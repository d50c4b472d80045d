-- Every time is reported in one place, and the times of a pair are near: on any lists. On rising lists
-- the report is what is claimed of one.
use Prim.Native.Nat.{ℕ, zero, suc, ◌+◌, ◌≤◌, ◌<◌}
use mathlib.Core.Path.{◌≡◌, refl, ap, ◌∙◌}
use mathlib.Core.List.{List, [], ◌∷◌}
use native.Mathlib.Omega.{arith}
use lib.ListN.{length, get_or}
use Rattle.laps.specs.Times.{Near, Rising, Pairing, none, pair}
use Rattle.laps.specs.Walk.{report}
use Rattle.laps.specs.Reported.{Paired, watch_times, mat_times, PairsOf, Parted, nothing, one, other, OnePlace, Reported}
use Rattle.laps.proofs.WalkLaws.{Turns, by_turns}
use Rattle.laps.proofs.PairingLaws.{report_largest}
use Rattle.laps.proofs.RisingLaws.{parted_rising}

-- ---- every time in one place
all_other : (l : List ℕ) → Parted l [] l
all_other [] = nothing
all_other (x ∷ l) = other x (all_other l)

once_turns : Turns OnePlace
once_turns = record {
  no_watch = λ m. (nothing, all_other m);
  no_mat = λ w. (all_other w, nothing);
  early = λ a b w m far h. (other a h.0, h.1);
  late = λ a b w m far h. (h.0, other b h.1);
  near = λ a b w m close h. (one a h.0, one b h.1);
}

pub report_once : (w m : List ℕ) → OnePlace w m (report w m)
report_once w m = by_turns OnePlace once_turns w m

-- ---- the times of a pair are near
abbrev Close : List ℕ → List ℕ → Type 0
Close xs ys = (length ys ≡ length xs) × ((k : ℕ) → k < length xs → Near (get_or xs k 0) (get_or ys k 0))

close_none : Close [] []
close_none = (refl, λ k lt. absurd (omega arith))

close_more : (a b : ℕ) (xs ys : List ℕ) → Near a b → Close xs ys → Close (a ∷ xs) (b ∷ ys)
close_more a b xs ys n h = (ap suc h.0, each)
  where
    each : (k : ℕ) → k < length (a ∷ xs) → Near (get_or (a ∷ xs) k 0) (get_or (b ∷ ys) k 0)
    each zero lt = n
    each (suc k) lt = h.1 k (omega arith)

paired_turns : Turns (λ w m r. Paired r)
paired_turns = record {
  no_watch = λ m. close_none;
  no_mat = λ w. close_none;
  early = λ a b w m far h. h;
  late = λ a b w m far h. h;
  near = λ a b w m close h. close_more a b (report w m).paired_watch (report w m).paired_mat close h;
}

pub report_paired : (w m : List ℕ) → Paired (report w m)
report_paired w m = by_turns (λ w m r. Paired r) paired_turns w m

-- ---- the pairs are a pairing's. A pairing of lists is one of the same with a time more in front, a
-- place later
up : (x : ℕ) → suc x + 1 ≤ x + 1 + 1
up x = omega arith

after_watch : {w m : List ℕ} {i j k : ℕ} (a i₀ : ℕ) → i₀ ≤ i + 1 → Pairing w m i j k → Pairing (a ∷ w) m i₀ j k
after_watch a i₀ h none = none
after_watch a i₀ h (pair x y hx hx' hy hy' n p) = pair {i = i₀} (suc x) y (omega arith) (omega arith) hy hy' n (after_watch a (suc x + 1) (up x) p)

after_mat : {w m : List ℕ} {i j k : ℕ} (b j₀ : ℕ) → j₀ ≤ j + 1 → Pairing w m i j k → Pairing w (b ∷ m) i j₀ k
after_mat b j₀ h none = none
after_mat b j₀ h (pair x y hx hx' hy hy' n p) = pair {j = j₀} x (suc y) hx hx' (omega arith) (omega arith) n (after_mat b (suc y + 1) (up y) p)

-- with the same times
watch_same : {w m : List ℕ} {i j k : ℕ} (a i₀ : ℕ) (h : i₀ ≤ i + 1) (p : Pairing w m i j k)
    → (watch_times (after_watch a i₀ h p) ≡ watch_times p) × (mat_times (after_watch a i₀ h p) ≡ mat_times p)
unfolding after_watch
watch_same a i₀ h none = (refl, refl)
watch_same {w} {m} a i₀ h (pair x y hx hx' hy hy' n p) =
    let e = watch_same a (suc x + 1) (up x) p in (ap (get_or w x 0 ∷◌) e.0, ap (get_or m y 0 ∷◌) e.1)

mat_same : {w m : List ℕ} {i j k : ℕ} (b j₀ : ℕ) (h : j₀ ≤ j + 1) (p : Pairing w m i j k)
    → (watch_times (after_mat b j₀ h p) ≡ watch_times p) × (mat_times (after_mat b j₀ h p) ≡ mat_times p)
unfolding after_mat
mat_same b j₀ h none = (refl, refl)
mat_same {w} {m} b j₀ h (pair x y hx hx' hy hy' n p) =
    let e = mat_same b (suc y + 1) (up y) p in (ap (get_or w x 0 ∷◌) e.0, ap (get_or m y 0 ∷◌) e.1)

pairs_none : (w m : List ℕ) → PairsOf w m 0 0 [] []
pairs_none w m = record { pairing = none; watch_times_lem = refl; mat_times_lem = refl }

module _ {w m : List ℕ} {i j : ℕ} {xs ys : List ℕ} where
  pairs_watch : (a i₀ : ℕ) → i₀ ≤ i + 1 → PairsOf w m i j xs ys → PairsOf (a ∷ w) m i₀ j xs ys
  pairs_watch a i₀ h p =
      let e = watch_same a i₀ h p.pairing in
      record { pairing = after_watch a i₀ h p.pairing; watch_times_lem = e.0 ∙ p.watch_times_lem; mat_times_lem = e.1 ∙ p.mat_times_lem }

  pairs_mat : (b j₀ : ℕ) → j₀ ≤ j + 1 → PairsOf w m i j xs ys → PairsOf w (b ∷ m) i j₀ xs ys
  pairs_mat b j₀ h p =
      let e = mat_same b j₀ h p.pairing in
      record { pairing = after_mat b j₀ h p.pairing; watch_times_lem = e.0 ∙ p.watch_times_lem; mat_times_lem = e.1 ∙ p.mat_times_lem }

pairs_more : (a b : ℕ) (w m xs ys : List ℕ) → Near a b → PairsOf w m 0 0 xs ys → PairsOf (a ∷ w) (b ∷ m) 0 0 (a ∷ xs) (b ∷ ys)
pairs_more a b w m xs ys n p =
    let q = pairs_mat b (0 + 1) (omega arith) (pairs_watch a (0 + 1) (omega arith) p) in
    record {
      pairing = pair {i = 0} {j = 0} 0 0 (omega arith) (omega arith) (omega arith) (omega arith) n q.pairing;
      watch_times_lem = ap (a ∷◌) q.watch_times_lem;
      mat_times_lem = ap (b ∷◌) q.mat_times_lem;
    }

pairs_turns : Turns (λ w m r. PairsOf w m 0 0 r.paired_watch r.paired_mat)
pairs_turns = record {
  no_watch = λ m. pairs_none [] m;
  no_mat = λ w. pairs_none w [];
  early = λ a b w m far h. pairs_watch a 0 (omega arith) h;
  late = λ a b w m far h. pairs_mat b 0 (omega arith) h;
  near = λ a b w m close h. pairs_more a b w m (report w m).paired_watch (report w m).paired_mat close h;
}

pub report_pairs : (w m : List ℕ) → PairsOf w m 0 0 (report w m).paired_watch (report w m).paired_mat
report_pairs w m = by_turns (λ w m r. PairsOf w m 0 0 r.paired_watch r.paired_mat) pairs_turns w m

-- ---- all that is claimed
pub reported : (w m : List ℕ) → Rising w → Rising m → Reported w m (report w m)
reported w m hw hm =
    let once = report_once w m in
    let watch = parted_rising once.0 hw in
    let mat = parted_rising once.1 hm in
    record {
      paired = report_paired w m;
      pairs = report_pairs w m;
      rise = (watch.0, mat.0, watch.1, mat.1);
      largest = report_largest w m hw hm;
      one_place = once;
    }
