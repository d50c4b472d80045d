-- "Walk both from the front, pair what may be paired, else set the smaller aside as unmatched. Report
-- the pairs, the unmatched watch times and the unmatched mat times"
use Rattle.std.specs.Prelude.{ℕ, List, [], ◌∷◌, ltb}
use Rattle.bounded.specs.Search.{pick}
use Rattle.laps.specs.Times.{near}

-- four lists: the pairs as two, watch times and mat times, and the unmatched times
pub record Lists : Type 0 where
  pub paired_watch : List ℕ
  pub paired_mat : List ℕ
  pub alone_watch : List ℕ
  pub alone_mat : List ℕ

abbrev pub lists : List ℕ → List ℕ → List ℕ → List ℕ → Lists
lists pw pm aw am = record { paired_watch = pw; paired_mat = pm; alone_watch = aw; alone_mat = am }

-- a pair or a time more, before all others
abbrev pub paired : ℕ → ℕ → Lists → Lists
paired a b r = lists (a ∷ r.paired_watch) (b ∷ r.paired_mat) r.alone_watch r.alone_mat

abbrev pub watch_aside : ℕ → Lists → Lists
watch_aside a r = lists r.paired_watch r.paired_mat (a ∷ r.alone_watch) r.alone_mat

abbrev pub mat_aside : ℕ → Lists → Lists
mat_aside b r = lists r.paired_watch r.paired_mat r.alone_watch (b ∷ r.alone_mat)

-- watch time a is the foremost; `later` is the walk of the watch times after it
unfoldable pub walk_from : ℕ → (List ℕ → Lists) → List ℕ → Lists
walk_from a later [] = watch_aside a (later [])
walk_from a later (b ∷ m) =
    pick (near a b) (paired a b (later m))
    (pick (ltb a b) (watch_aside a (later (b ∷ m))) (mat_aside b (walk_from a later m)))

unfoldable pub report : List ℕ → List ℕ → Lists
report [] m = lists [] [] [] m
report (a ∷ w) m = walk_from a (report w) m
