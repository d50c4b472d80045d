-- The lengths of months, and where months begin.
use Prim.Native.Nat.{ℕ, zero, suc, ◌+◌, ◌*◌, ◌%◌, ◌≤◌, ◌<◌}
use mathlib.Core.Path.{◌≡◌, refl, sym, ap, ◌∙◌}
use mathlib.Core.Bool.{Bool, true, false, ◌||◌, ◌&&◌}
use native.Mathlib.Nat.{eq-or-lt_of_le}
use native.Mathlib.Numerals.{add-one}
use native.Mathlib.Omega.{arith}
use mathlib.Core.Logic.{⊎_elim}
use borrow.Author.Tests.{eq-eqb, ne_eqb}
use lib.Dec.{eqb}
use mathlib.Core.List.{[], ◌∷◌}
use Rattle.bounded.specs.Table.{table}
use Rattle.bounded.specs.Sum.{sum}
use Rattle.bounded.proofs.SearchLaws.{by_pick}
use Rattle.bounded.proofs.SumLaws.{sum_most}
use Rattle.calendar.specs.Gregorian.{is_leap, has_thirty, month_length, length_of, month_start}

-- ---- the rule, pinned at three centuries
pub common_1900 : is_leap 1900 ≡ false
common_1900 = refl

pub leap_2000 : is_leap 2000 ≡ true
leap_2000 = refl

pub common_2100 : is_leap 2100 ≡ false
common_2100 = refl

-- ---- and the lengths of months: of a common year, and of February in a leap year
pub lengths_2023 : table (λ k. month_length 2023 (k + 1)) 12 ≡ 31 ∷ 28 ∷ 31 ∷ 30 ∷ 31 ∷ 30 ∷ 31 ∷ 31 ∷ 30 ∷ 31 ∷ 30 ∷ 31 ∷ []
unfolding table month_length
lengths_2023 = refl

pub february_2024 : month_length 2024 2 ≡ 29
unfolding month_length
february_2024 = refl

-- ---- at most 31 days
abbrev AtMost31 : ℕ → Type 0
AtMost31 n = n ≤ 31

pub length_most : (y m : ℕ) → month_length y m ≤ 31
unfolding month_length
length_most y m =
    by_pick AtMost31 (eqb m 2) (by_pick AtMost31 (is_leap y) {x = 29} {y = 28} (omega arith) (omega arith))
    (by_pick AtMost31 (has_thirty m) {x = 30} {y = 31} (omega arith) (omega arith))

pub start_most : (k : ℕ) → month_start k ≤ 31 * k
start_most k = sum_most length_of 31 k (λ j h. length_most _ _)

-- ---- month by month
pub start_first : 0 ≡ month_start 0
unfolding sum
start_first = refl

pub start_next : (k : ℕ) → month_start (k + 1) ≡ month_start k + length_of k
unfolding sum
start_next k = rw add-one

-- a later month begins after the last day of an earlier one
pub start_later : (i k : ℕ) → i < k → month_start i + length_of i ≤ month_start k
start_later i zero h = absurd (omega arith)
start_later i (suc k) h =
    ⊎_elim
    (λ (e : i ≡ k). let a = ap month_start e in let b = ap length_of e in let s = next k in omega arith)
    (λ (l : i < k). let a = start_later i k l in let s = next k in omega arith)
    (eq-or-lt_of_le (let l : i ≤ k = omega arith in l))
  where
    next : (k : ℕ) → month_start (suc k) ≡ month_start k + length_of k
    next k = ap month_start (sym (add-one k)) ∙ start_next k

-- ---- the rule by centuries and other years
pub leap_century : (y : ℕ) → y % 100 ≡ 0 → eqb (y % 400) 0 ≡ is_leap y
leap_century y h =
    rw (eq-eqb (y % 100) 0 h) (go (eqb (y % 4) 0))
  where
    go : (b : Bool) → eqb (y % 400) 0 ≡ (b && false) || eqb (y % 400) 0
    go true = refl
    go false = refl

pub leap_year : (y : ℕ) → (y % 100 ≡ 0 → ⊥) → eqb (y % 4) 0 ≡ is_leap y
leap_year y h =
    rw (ne_eqb (y % 100) 0 h, ne_eqb (y % 400) 0 (λ e. h (omega arith))) (go (eqb (y % 4) 0))
  where
    go : (b : Bool) → b ≡ (b && true) || false
    go true = refl
    go false = refl
