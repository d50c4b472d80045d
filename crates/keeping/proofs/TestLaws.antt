-- The tests of a term and of a copy, by what the code found.
use Prim.Native.Nat.{ℕ, ◌+◌, ◌≤◌, ◌<◌, min}
use mathlib.Core.Path.{◌≡◌}
use mathlib.Core.Bool.{Bool, true, false, not}
use mathlib.Core.List.{List}
use native.Mathlib.Decide.{dec_lt}
use native.Mathlib.Omega.{arith}
use borrow.Author.Tests.{lt-ltb, le-ltb, le-leb, lt-leb, eq-eqb, ne_eqb}
use lib.Dec.{leb, ltb}
use lib.ListN.{get_or}
use Rattle.bounded.specs.Below.{some_below}
use Rattle.calendar.specs.Date.{sunday}
use Rattle.keeping.specs.Keeping.{term_count, first_day, last_day, young_days}
use Rattle.keeping.specs.Days.{term_test, copy_test}

-- no later than Sunday, nor than the term's end
pub week_ends : (d last : ℕ) → d ≤ last → d ≤ min (sunday d) last
week_ends d last h = omega arith

module _ (looked : ℕ) (map ts latest : List ℕ) (today d : ℕ) where
  -- the terms' part of it
  abbrev pub by_term : ℕ → Bool
  by_term t = term_test map (first_day ts t) (last_day ts t) (get_or latest t 0) today d

  pub not_looked : (looked ≡ 1 → ⊥) → false ≡ copy_test looked map ts latest today d
  unfolding copy_test
  not_looked h = rw (ne_eqb looked 1 h)

  pub is_young : looked ≡ 1 → today ≤ d + young_days → true ≡ copy_test looked map ts latest today d
  unfolding copy_test
  is_young e h = rw (eq-eqb looked 1 e, le-leb today (d + young_days) h)

  pub by_terms : (b : Bool) → looked ≡ 1 → d + young_days < today → b ≡ some_below by_term (term_count ts) → b ≡ copy_test looked map ts latest today d
  unfolding copy_test
  by_terms b e h t = rw (eq-eqb looked 1 e, lt-leb today (d + young_days) h) t

-- ---- the lengths
pub no_more : (a b : ℕ) → leb a b ≡ not (ltb b a)
no_more a b = elim (dec_lt b a) as (λ _. leb a b ≡ not (ltb b a)) [
  | yes l ↦ rw (lt-leb a b l, lt-ltb b a l)
  | no l ↦ rw (le-leb a b (omega arith), le-ltb b a (omega arith))
]
