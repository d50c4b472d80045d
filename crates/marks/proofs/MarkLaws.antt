-- Set and cleared, at the same slot and at another: the four laws, once over the slot.
use mathlib.Core.Path.{◌≡◌, refl, sym, ap, ◌∙◌}
use mathlib.Core.Bool.{true, false}
use mathlib.Core.Logic.{◌≢◌}
use Prim.Native.Nat.{ℕ, zero, suc, ◌+◌, ◌-◌, ◌*◌, ◌/◌, ◌%◌, ◌^◌, ◌<◌}
use native.Mathlib.Nat.{zero-div, div_self, div-eq_of_lt, mod-lt, mod-eq_of_lt, mul-mod_left, mul-div_cancel, one-mul}
use native.Mathlib.Decide.{dec_lt}
use native.Mathlib.Omega.{arith}
use lib.Dec.{eqb, lit<}
use lib.Arith.{digits_div}
use lib.Pow.{shl_exact, pow_pos, pow-lt, pow-add, ones_split, ones_lt}
use lib.Bits.{bit_and, bit_or, bit_xor, and_shr, or_shr, xor_shr, and_mod, or_mod, xor_mod, and_mask, and_comm, or_zero_r, xor_add_and}
use Rattle.marks.specs.Mark.{digit, marked, with_mark, without_mark}

-- ---- the digits of each operation are its digits' operation
or_digit : (a b s : ℕ) → digit (bit_or a b) s ≡ bit_or (digit a s) (digit b s)
unfolding digit
or_digit a b s = ap (λ (x : ℕ). x % 2) (or_shr a b s) ∙ or_mod (a / 2 ^ s) (b / 2 ^ s) 1

and_digit : (a b s : ℕ) → digit (bit_and a b) s ≡ bit_and (digit a s) (digit b s)
unfolding digit
and_digit a b s = ap (λ (x : ℕ). x % 2) (and_shr a b s) ∙ and_mod (a / 2 ^ s) (b / 2 ^ s) 1

xor_digit : (a b s : ℕ) → digit (bit_xor a b) s ≡ bit_xor (digit a s) (digit b s)
unfolding digit
xor_digit a b s = ap (λ (x : ℕ). x % 2) (xor_shr a b s) ∙ xor_mod (a / 2 ^ s) (b / 2 ^ s) 1

pub digit_lt : (w s : ℕ) → digit w s < 2
unfolding digit
digit_lt w s = mod-lt (w / 2 ^ s) (lit< tt)

-- `1u64 << s`, as the code leaves it
pub one_shl : (s : ℕ) → s < 64 → 1 * 2 ^ s % 2 ^ 64 ≡ 2 ^ s
one_shl s h = shl_exact 1 s 64 (lit< tt) (omega arith) ∙ one-mul (2 ^ s)

-- ---- the digits of a power
one_same : (s : ℕ) → digit (2 ^ s) s ≡ 1
unfolding digit
one_same s = ap (λ (x : ℕ). x % 2) (div_self (pow_pos s))

-- above: 2 ^ s is a multiple of 2 ^ (t + 1)
one_above : (s t : ℕ) → t < s → digit (2 ^ s) t ≡ 0
unfolding digit
one_above s t h =
    let e : (s - suc t) + 1 + t ≡ s = omega arith in
    ap (λ (k : ℕ). 2 ^ k / 2 ^ t % 2) (sym e)
    ∙ ap (λ (x : ℕ). x / 2 ^ t % 2) (pow-add 2 ((s - suc t) + 1) t)
    ∙ ap (λ (x : ℕ). x % 2) (mul-div_cancel (2 ^ ((s - suc t) + 1)) (pow_pos t))
    ∙ ap (λ (x : ℕ). x % 2) (pow-add 2 (s - suc t) 1)
    ∙ mul-mod_left (2 ^ (s - suc t)) 2

one_below : (s t : ℕ) → s < t → digit (2 ^ s) t ≡ 0
unfolding digit
one_below s t h = ap (λ (x : ℕ). x % 2) (div-eq_of_lt (pow-lt h))

one_other : (s t : ℕ) → t ≢ s → digit (2 ^ s) t ≡ 0
one_other s t h = go (dec_lt t s)
  where
    go : Dec (t < s) → digit (2 ^ s) t ≡ 0
    go (yes l) = one_above s t l
    go (no n) = one_below s t (omega arith)

-- ---- the complement, as an exclusive or with all ones
sub_by : (x y m a : ℕ) → x + y * 2 ≡ m + a → y ≡ a → m - a ≡ x
sub_by x y m a e q = omega arith

complement : (a : ℕ) → a < 2 ^ 64 → 2 ^ 64 - 1 - a ≡ bit_xor (2 ^ 64 - 1) a
complement a h =
    sub_by (bit_xor (2 ^ 64 - 1) a) (bit_and (2 ^ 64 - 1) a) (2 ^ 64 - 1) a (xor_add_and (2 ^ 64 - 1) a)
    (and_comm (2 ^ 64 - 1) a ∙ and_mask a 64 ∙ mod-eq_of_lt h)

ones_digit : (t : ℕ) → t < 64 → digit (2 ^ 64 - 1) t ≡ 1
unfolding digit
ones_digit t h =
    let e : (63 - t) + 1 + t ≡ 64 = omega arith in
    ap (λ (k : ℕ). (2 ^ k - 1) / 2 ^ t % 2) (sym e)
    ∙ ap (λ (x : ℕ). x / 2 ^ t % 2) (ones_split ((63 - t) + 1) t)
    ∙ ap (λ (x : ℕ). x % 2) (digits_div (2 ^ ((63 - t) + 1) - 1) (ones_lt t))
    ∙ ap (λ (x : ℕ). x % 2) (ones_split (63 - t) 1)
    ∙ omega arith

-- ---- on single digits
or_one : (x : ℕ) → x < 2 → bit_or x 1 ≡ 1
or_one zero h = refl
or_one (suc zero) h = refl
or_one (suc (suc x)) h = absurd (omega arith)

and_one : (x : ℕ) → x < 2 → bit_and x 1 ≡ x
and_one zero h = refl
and_one (suc zero) h = refl
and_one (suc (suc x)) h = absurd (omega arith)

-- ---- the laws
pub with_same : (w s : ℕ) → marked (with_mark w s) s ≡ true
unfolding marked with_mark
with_same w s = ap (λ (d : ℕ). eqb d 1) (or_digit w (2 ^ s) s ∙ ap (bit_or (digit w s)) (one_same s) ∙ or_one (digit w s) (digit_lt w s))

pub with_other : (w s t : ℕ) → t ≢ s → marked (with_mark w s) t ≡ marked w t
unfolding marked with_mark
with_other w s t h = ap (λ (d : ℕ). eqb d 1) (or_digit w (2 ^ s) t ∙ ap (bit_or (digit w t)) (one_other s t h) ∙ or_zero_r (digit w t))

-- the mask's digits: all set but s
mask_digit : (s t : ℕ) → s < 64 → t < 64 → digit (2 ^ 64 - 1 - 2 ^ s) t ≡ bit_xor 1 (digit (2 ^ s) t)
mask_digit s t hs ht =
    ap (λ (x : ℕ). digit x t) (complement (2 ^ s) (pow-lt hs)) ∙ xor_digit (2 ^ 64 - 1) (2 ^ s) t
    ∙ ap (λ (x : ℕ). bit_xor x (digit (2 ^ s) t)) (ones_digit t ht)

pub without_other : (w s t : ℕ) → s < 64 → t < 64 → t ≢ s → marked (without_mark w s) t ≡ marked w t
unfolding marked without_mark
without_other w s t hs ht h =
    ap (λ (d : ℕ). eqb d 1)
    (and_digit w (2 ^ 64 - 1 - 2 ^ s) t ∙ ap (bit_and (digit w t)) (mask_digit s t hs ht ∙ ap (bit_xor 1) (one_other s t h))
    ∙ and_one (digit w t) (digit_lt w t))

-- no bit of 0 is set
pub mark_none : (s : ℕ) → marked 0 s ≡ false
unfolding marked digit
mark_none s = ap (λ (x : ℕ). eqb (x % 2) 1) (zero-div (2 ^ s))
