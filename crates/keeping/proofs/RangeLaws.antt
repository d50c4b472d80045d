-- "The last of its week" and "the last of a term" by ranges of days: whether any copy, looked at or not,
-- is dated there. So the code can keep a bit for each day.
use Prim.Native.Nat.{ℕ, zero, suc, ◌+◌, ◌≤◌, ◌<◌, min}
use mathlib.Core.Path.{◌≡◌, refl, ap, ◌∙◌}
use mathlib.Core.Bool.{Bool, true, false, not, ◌&&◌}
use mathlib.Core.List.{List}
use mathlib.Core.Logic.{⊎_elim}
use native.Mathlib.Omega.{arith}
use borrow.Author.Tests.{le-leb, lt-ltb, eq-eqb, leb-true, ltb-true, eqb-true}
use lib.Dec.{eqb, leb, ltb}
use Rattle.bounded.specs.Below.{some_below}
use Rattle.bounded.proofs.BelowLaws.{some_of, some_at}
use Rattle.bounded.proofs.BoolLaws.{same_test, and-true, and_left, and_right, holds_or_fails}
use Rattle.calendar.specs.Date.{within, week, sunday}
use Rattle.keeping.specs.Keeping.{day_of, copy_count, first_day, last_day, looked_at, lies_in, later_in, last_of_week, last_of_term}

module _ (cs ts : List ℕ) where
  -- some copy is dated a to b
  abbrev pub copy_in : ℕ → ℕ → Bool
  copy_in a b = some_below (λ j. within a (day_of cs j) b) (copy_count cs)

  -- every date that a copy has, a copy that is looked at has
  pub looked : (m j : ℕ) → copy_count cs ≤ j + m → j < copy_count cs → (k : ℕ) × (k < copy_count cs) × (looked_at cs k ≡ true) × (day_of cs k ≡ day_of cs j)
  looked zero j h l = absurd (omega arith)
  looked (suc m) j h l =
      ⊎_elim
      (λ (e : later ≡ true).
      let w = some_at (λ k. ltb j k && eqb (day_of cs k) (day_of cs j)) (copy_count cs) e in
      let a = ltb-true j w.0 (and_left _ _ w.2) in
      let r = looked m w.0 (omega arith) w.1 in
      (r.0, r.1, r.2, r.3 ∙ eqb-true _ _ (and_right (ltb j w.0) _ w.2)))
      (λ (e : later ≡ false). (j, l, ap not e, refl))
      (holds_or_fails later)
    where
      later : Bool
      later = some_below (λ k. ltb j k && eqb (day_of cs k) (day_of cs j)) (copy_count cs)

  in_range : (a d b : ℕ) → a ≤ d → d ≤ b → within a d b ≡ true
  in_range a d b h k = and-true _ _ (le-leb a d h) (le-leb d b k)

  from_range : (a d b : ℕ) → within a d b ≡ true → (a ≤ d) × (d ≤ b)
  from_range a d b e = (leb-true a d (and_left _ _ e), leb-true d b (and_right (leb a d) _ e))

  -- what is later in the term, looked at or not
  later_looked : (t i j : ℕ) → lies_in cs ts i t ≡ true → j < copy_count cs → day_of cs i < day_of cs j → day_of cs j ≤ last_day ts t → (k : ℕ) × (k < copy_count cs) × (later_in cs ts t i k ≡ true) × (day_of cs k ≡ day_of cs j)
  later_looked t i j h l p q =
      let r = looked (copy_count cs) j (omega arith) l in
      let w = from_range (first_day ts t) (day_of cs i) (last_day ts t) h in
      let e = r.3 in
      (r.0, r.1, and-true _ _ r.2 (and-true _ _ (in_range (first_day ts t) (day_of cs r.0) (last_day ts t) (omega arith) (omega arith)) (lt-ltb (day_of cs i) (day_of cs r.0) (omega arith))), e)

  later_day : (t i j : ℕ) → later_in cs ts t i j ≡ true → (day_of cs i < day_of cs j) × (day_of cs j ≤ last_day ts t)
  later_day t i j e =
      let r = and_right (looked_at cs j) _ e in
      (ltb-true _ _ (and_right (lies_in cs ts j t) _ r), (from_range (first_day ts t) _ _ (and_left (lies_in cs ts j t) _ r)).1)

  pub last_of_term_lem : (t i : ℕ) → lies_in cs ts i t ≡ true → last_of_term cs ts t i ≡ not (copy_in (day_of cs i + 1) (last_day ts t))
  unfolding last_of_term
  last_of_term_lem t i h = ap not (same_test _ _ to from)
    where
      to : some_below (later_in cs ts t i) (copy_count cs) ≡ true → copy_in (day_of cs i + 1) (last_day ts t) ≡ true
      to e =
          let w = some_at (later_in cs ts t i) (copy_count cs) e in
          let d = later_day t i w.0 w.2 in
          some_of (λ j. within (day_of cs i + 1) (day_of cs j) (last_day ts t)) (copy_count cs) w.0 w.1 (in_range (day_of cs i + 1) (day_of cs w.0) (last_day ts t) (omega arith) d.1)

      from : copy_in (day_of cs i + 1) (last_day ts t) ≡ true → some_below (later_in cs ts t i) (copy_count cs) ≡ true
      from e =
          let w = some_at (λ j. within (day_of cs i + 1) (day_of cs j) (last_day ts t)) (copy_count cs) e in
          let d = from_range (day_of cs i + 1) (day_of cs w.0) (last_day ts t) w.2 in
          let k = later_looked t i w.0 h w.1 (omega arith) d.1 in
          some_of (later_in cs ts t i) (copy_count cs) k.0 k.1 k.2

  pub last_of_week_lem : (t i : ℕ) → lies_in cs ts i t ≡ true → last_of_week cs ts t i ≡ not (copy_in (day_of cs i + 1) (min (sunday (day_of cs i)) (last_day ts t)))
  unfolding last_of_week
  last_of_week_lem t i h = ap not (same_test _ _ to from)
    where
      to : some_below (λ j. later_in cs ts t i j && eqb (week (day_of cs j)) (week (day_of cs i))) (copy_count cs) ≡ true → copy_in (day_of cs i + 1) (min (sunday (day_of cs i)) (last_day ts t)) ≡ true
      to e =
          let w = some_at (λ j. later_in cs ts t i j && eqb (week (day_of cs j)) (week (day_of cs i))) (copy_count cs) e in
          let d = later_day t i w.0 (and_left (later_in cs ts t i w.0) _ w.2) in
          let q = eqb-true (week (day_of cs w.0)) (week (day_of cs i)) (and_right (later_in cs ts t i w.0) _ w.2) in
          some_of (λ j. within (day_of cs i + 1) (day_of cs j) (min (sunday (day_of cs i)) (last_day ts t))) (copy_count cs) w.0 w.1 (in_range (day_of cs i + 1) (day_of cs w.0) (min (sunday (day_of cs i)) (last_day ts t)) (omega arith) (omega arith))

      from : copy_in (day_of cs i + 1) (min (sunday (day_of cs i)) (last_day ts t)) ≡ true → some_below (λ j. later_in cs ts t i j && eqb (week (day_of cs j)) (week (day_of cs i))) (copy_count cs) ≡ true
      from e =
          let w = some_at (λ j. within (day_of cs i + 1) (day_of cs j) (min (sunday (day_of cs i)) (last_day ts t))) (copy_count cs) e in
          let d = from_range (day_of cs i + 1) (day_of cs w.0) (min (sunday (day_of cs i)) (last_day ts t)) w.2 in
          let k = later_looked t i w.0 h w.1 (omega arith) (omega arith) in
          let z = k.3 in
          let q : week (day_of cs k.0) ≡ week (day_of cs i) = omega arith in
          some_of _ (copy_count cs) k.0 k.1 (and-true _ _ k.2 (eq-eqb _ _ q))
