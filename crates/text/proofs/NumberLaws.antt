-- Laws of decimal numbers.
use Rattle.std.specs.Prelude.{None, Some}
use Rattle.std.specs.Char.{is_ascii_digit}
use Prim.Native.Nat.{ℕ, ◌+◌, ◌-◌, ◌*◌, ◌≤◌, ◌<◌, min}
use mathlib.Core.Path.{◌≡◌, refl, sym, ap, ◌∙◌}
use mathlib.Core.Bool.{Bool, true, false}
use mathlib.Core.List.{List}
use native.Mathlib.Omega.{arith}
use native.Mathlib.Numerals.{add-one}
use borrow.Author.Tests.{le-leb, lt-leb}
use lib.Dec.{leb}
use lib.ListN.{length, get_or}
use Rattle.bounded.specs.Below.{all_below}
use Rattle.bounded.proofs.BoolLaws.{and-true, and_false_l, and_false_r}
use Rattle.bounded.proofs.BelowLaws.{all_stop}
use Rattle.text.specs.Number.{largest, is_digit, decimal, number_of}

-- ---- one digit more
more : (a d : ℕ) → min (10 * min a largest + d) largest ≡ min (10 * a + d) largest
more a d = omega arith

pub decimal_more : (s : List ℕ) (k v w : ℕ) → v ≡ min (decimal s k) largest → w ≡ min (10 * v + (get_or s k 0 - 48)) largest → w ≡ min (decimal s (k + 1)) largest
unfolding decimal
decimal_more s k v w e h = h ∙ rw (e, add-one) (more (decimal s k) (get_or s k 0 - 48))

pub digit_is : (s : List ℕ) (k : ℕ) (b : Bool) → b ≡ is_ascii_digit (get_or s k 0) → is_digit s k ≡ b
unfolding is_digit
digit_is s k b e = sym e

-- ---- the answers
pub none_empty : (s : List ℕ) → length s ≡ 0 → None ≡ number_of s
unfolding number_of
none_empty s e = rw (and_false_l (leb 1 (length s)) (all_below (is_digit s) (length s)) (lt-leb 1 (length s) (omega arith))) refl

pub none_stopped : (s : List ℕ) (k : ℕ) → k < length s → is_digit s k ≡ false → None ≡ number_of s
unfolding number_of
none_stopped s k l h = rw (and_false_r (leb 1 (length s)) (all_below (is_digit s) (length s)) (all_stop (is_digit s) (length s) k l h)) refl

pub value_done : (s : List ℕ) (k v : ℕ) → 1 ≤ length s → k ≡ length s → all_below (is_digit s) k ≡ true → v ≡ min (decimal s k) largest → Some v ≡ number_of s
unfolding number_of
value_done s k v l e a q =
    let b : all_below (is_digit s) (length s) ≡ true = rw e at a in
    let w : v ≡ min (decimal s (length s)) largest = rw e at q in
    rw (and-true (leb 1 (length s)) (all_below (is_digit s) (length s)) (le-leb 1 (length s) l) b) (ap Some w)
