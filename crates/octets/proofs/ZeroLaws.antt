-- Zero bytes, tested as numbers of any width.
use Prim.Native.Nat.{ℕ, zero, suc, ◌+◌, ◌*◌, ◌-◌, ◌/◌, ◌%◌, ◌≤◌}
use mathlib.Core.Path.{◌≡◌, refl, sym, ap, ◌∙◌}
use mathlib.Core.Bool.{Bool, ◌&&◌}
use mathlib.Core.List.{List}
use native.Mathlib.Omega.{arith}
use borrow.Author.Tests.{eq-eqb, eqb-true}
use lib.Dec.{eqb}
use lib.ListN.{get_or, length, replicate}
use Rattle.bounded.specs.Below.{all_below}
use Rattle.bounded.proofs.BoolLaws.{same_test}
use Rattle.bounded.proofs.BelowLaws.{all_at, all_of, all_ext, all_split, all_chunk}
use Rattle.octets.specs.Octets.{splice, num_at}
use Rattle.octets.proofs.PartLaws.{is_inside, splice_out, splice_in}
use Rattle.octets.proofs.NumLaws.{num_zero, zero_num}

abbrev zero_at : List ℕ → ℕ → ℕ → Bool
zero_at s o j = eqb (get_or s (o + j) 0) 0

from_start : (s : List ℕ) (o a j : ℕ) → zero_at s (o + a) j ≡ zero_at s o (a + j)
from_start s o a j = let e : o + a + j ≡ o + (a + j) = omega arith in ap (λ (x : ℕ). eqb (get_or s x 0) 0) e

-- a number of w bytes, and m of them
pub number_zero : (w : ℕ) (s : List ℕ) (o : ℕ) → eqb (num_at w s o) 0 ≡ all_below (λ j. eqb (get_or s (o + j) 0) 0) w
number_zero w s o =
    same_test (eqb (num_at w s o) 0) (all_below (zero_at s o) w)
    (λ t. all_of (zero_at s o) w (λ j l. eq-eqb (get_or s (o + j) 0) 0 (num_zero w s o (eqb-true (num_at w s o) 0 t) j l)))
    (λ t. eq-eqb (num_at w s o) 0 (zero_num w s o (λ j l. eqb-true (get_or s (o + j) 0) 0 (all_at (zero_at s o) w t j l))))

pub numbers_zero : (w : ℕ) (s : List ℕ) (o m : ℕ) → all_below (λ j. eqb (num_at w s (o + w * j)) 0) m ≡ all_below (λ j. eqb (get_or s (o + j) 0) 0) (w * m)
numbers_zero w s o m =
    all_ext (λ j. eqb (num_at w s (o + w * j)) 0) (λ j. all_below (λ k. zero_at s o (w * j + k)) w) m
    (λ j l. number_zero w s (o + w * j) ∙ all_ext (zero_at s (o + w * j)) (λ k. zero_at s o (w * j + k)) w (λ k h. from_start s o (w * j) k))
    ∙ sym (all_chunk (zero_at s o) w m)

-- k bytes are the words of eight and what is left
pub bytes_zero : (s : List ℕ) (o k : ℕ) →
    all_below (λ j. eqb (get_or s (o + j) 0) 0) k ≡ all_below (λ j. eqb (get_or s (o + j) 0) 0) (8 * (k / 8)) && all_below (λ j. eqb (get_or s (o + 8 * (k / 8) + j) 0) 0) (k % 8)
bytes_zero s o k =
    let e : k ≡ 8 * (k / 8) + k % 8 = omega arith in
    ap (all_below (zero_at s o)) e ∙ all_split (zero_at s o) (8 * (k / 8)) (k % 8)
    ∙ ap (λ (x : Bool). all_below (zero_at s o) (8 * (k / 8)) && x)
    (all_ext (λ j. zero_at s o (8 * (k / 8) + j)) (zero_at s (o + 8 * (k / 8))) (k % 8) (λ j h. sym (from_start s o (8 * (k / 8)) j)))

-- ---- lists of zeros
pub byte_zeros : (m i : ℕ) → get_or {A = ℕ} (replicate m 0) i 0 ≡ 0
byte_zeros zero i = refl
byte_zeros (suc m) zero = refl
byte_zeros (suc m) (suc i) = byte_zeros m i

pub num_zeros : (k m o : ℕ) → num_at k (replicate m 0) o ≡ 0
num_zeros k m o = zero_num k (replicate m 0) o (λ j l. byte_zeros m (o + j))

-- a zero byte stays zero where the bytes laid over it are zero
pub zero_over : (s : List ℕ) (o : ℕ) (xs : List ℕ) (x : ℕ) → o + length xs ≤ length s → get_or s x 0 ≡ 0 → ((j : ℕ) → o + j ≡ x → get_or xs j 0 ≡ 0) → get_or (splice s o xs) x 0 ≡ 0
zero_over s o xs x f z h =
    is_inside o (length xs) x
    (λ l m. let e : x ≡ o + (x - o) = omega arith in
    ap (λ (y : ℕ). get_or (splice s o xs) y 0) e ∙ splice_in s o xs (x - o) f (omega arith) ∙ h (x - o) (sym e))
    (λ a. splice_out s o xs x a ∙ z)
