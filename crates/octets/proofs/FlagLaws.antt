-- Bytes of a number tested at once: by the bits of its words, once over the width.
use Prim.Native.Nat.{ℕ, zero, suc, ◌+◌, ◌*◌, ◌/◌, ◌%◌, ◌^◌, ◌≤◌, ◌<◌}
use mathlib.Core.Path.{◌≡◌, refl, sym, ap, ap₂, ◌∙◌}
use mathlib.Core.Bool.{true, not, ◌||◌}
use mathlib.Core.List.{List}
use native.Mathlib.Omega.{arith}
use native.Mathlib.Nat.{add-zero}
use borrow.Author.Tests.{eqb-true}
use lib.Dec.{eqb}
use lib.ListN.{get_or}
use lib.Bits.{bit_and, bit_or, bit_xor, and_block, or_block, xor_block, and_zero_r, and_le_l, and_le_r, or_lt, xor_lt, xor_self, xor_add_and}
use Rattle.bounded.specs.Below.{all_below}
use Rattle.bounded.proofs.CaseLaws.{each_suc}
use Rattle.bounded.proofs.BelowLaws.{all_at}
use Rattle.bounded.proofs.ReflectLaws.{r_eq, r_not, r_imp, r_all, r_says, reflects_ext}
use Rattle.octets.specs.Octets.{Octets, num_at}
use Rattle.octets.specs.Flags.{flag, flags}
use Rattle.octets.proofs.NumLaws.{num_suc}

-- k bytes, each x
abbrev pub every : ℕ → ℕ → ℕ
every x zero = 0
every x (suc k) = x + 256 * every x k

-- as a product, and as the code's largest sum
pub every_ones : (x : ℕ) → 72340172838076673 * x ≡ every x 8
every_ones x = omega arith

pub sum_fits : (a : ℕ) → a ≤ every 127 8 → a + every 127 8 < 2 ^ 64
sum_fits a h = omega arith

-- ---- the low byte and the rest
-- two numbers with equal low bytes and equal rests
pub same_split : (a b c d : ℕ) → a < 256 → c < 256 → a + 256 * b ≡ c + 256 * d → (a ≡ c) × (b ≡ d)
same_split a b c d h g e = (omega arith, omega arith)

turn : (a b : ℕ) → a + 256 * b ≡ b * 2 ^ 8 + a
turn a b = omega arith

back : (a b : ℕ) → b * 2 ^ 8 + a ≡ a + 256 * b
back a b = omega arith

pub and_split : (a b c d : ℕ) → a < 256 → c < 256 → bit_and (a + 256 * b) (c + 256 * d) ≡ bit_and a c + 256 * bit_and b d
and_split a b c d h g = ap₂ bit_and (turn a b) (turn c d) ∙ and_block 8 b d a c h g ∙ back (bit_and a c) (bit_and b d)

pub or_split : (a b c d : ℕ) → a < 256 → c < 256 → bit_or (a + 256 * b) (c + 256 * d) ≡ bit_or a c + 256 * bit_or b d
or_split a b c d h g = ap₂ bit_or (turn a b) (turn c d) ∙ or_block 8 b d a c h g ∙ back (bit_or a c) (bit_or b d)

pub xor_split : (a b c d : ℕ) → a < 256 → c < 256 → bit_xor (a + 256 * b) (c + 256 * d) ≡ bit_xor a c + 256 * bit_xor b d
xor_split a b c d h g = ap₂ bit_xor (turn a b) (turn c d) ∙ xor_block 8 b d a c h g ∙ back (bit_xor a c) (bit_xor b d)

-- ---- what the code computes: w's low bits and m, then w's bits, then those of h
abbrev marked : ℕ → ℕ → ℕ → ℕ
marked m h w = bit_and (bit_or (bit_and w m + m) w) h

-- of one byte: a table of 256
byte_table : all_below (λ b. eqb (marked 127 128 b) (flag b)) 256 ≡ true
unfolding all_below
byte_table = refl

byte_marked : (b : ℕ) → b < 256 → marked 127 128 b ≡ flag b
byte_marked b l = eqb-true (marked 127 128 b) (flag b) (all_at (λ b. eqb (marked 127 128 b) (flag b)) 256 byte_table b l)

sum_split : (a b m : ℕ) → a + 256 * b + (127 + 256 * m) ≡ (a + 127) + 256 * (b + m)
sum_split a b m = omega arith

low_sum : (a : ℕ) → a ≤ 127 → a + 127 < 256
low_sum a h = omega arith

-- no byte's sum reaches the next
marked_split : (m h b w : ℕ) → b < 256 → marked (127 + 256 * m) (128 + 256 * h) (b + 256 * w) ≡ marked 127 128 b + 256 * marked m h w
marked_split m h b w l =
    let c = bit_and b 127 in
    let e : bit_and (b + 256 * w) (127 + 256 * m) ≡ c + 256 * bit_and w m = and_split b w 127 m l (omega arith) in
    let k : c + 127 < 256 = low_sum c (and_le_r b 127) in
    ap (λ (x : ℕ). bit_and (bit_or (x + (127 + 256 * m)) (b + 256 * w)) (128 + 256 * h)) e
    ∙ ap (λ (x : ℕ). bit_and (bit_or x (b + 256 * w)) (128 + 256 * h)) (sum_split c (bit_and w m) m)
    ∙ ap (λ (x : ℕ). bit_and x (128 + 256 * h)) (or_split (c + 127) (bit_and w m + m) b w k l)
    ∙ and_split (bit_or (c + 127) b) (bit_or (bit_and w m + m) w) 128 h (or_lt 8 (c + 127) b k l) (omega arith)

pub low_byte : (w : ℕ) → w % 256 < 256
low_byte w = omega arith

pub parts : (w : ℕ) → w ≡ w % 256 + 256 * (w / 256)
parts w = omega arith

pub flags_are : (k w : ℕ) → marked (every 127 k) (every 128 k) w ≡ flags k w
unfolding flags
flags_are zero w = and_zero_r (bit_or (bit_and w 0 + 0) w)
flags_are (suc k) w =
    ap (marked (127 + 256 * every 127 k) (128 + 256 * every 128 k)) (parts w)
    ∙ marked_split (every 127 k) (every 128 k) (w % 256) (w / 256) (low_byte w)
    ∙ ap₂ (λ (x y : ℕ). x + 256 * y) (byte_marked (w % 256) (low_byte w)) (flags_are k (w / 256))

-- ---- flags of a byte and the rest
flag_small : (b : ℕ) → flag b < 256
flag_small zero = omega arith
flag_small (suc b) = omega arith

pub mod_of : (b w : ℕ) → b < 256 → (b + 256 * w) % 256 ≡ b
mod_of b w h = omega arith

pub div_of : (b w : ℕ) → b < 256 → (b + 256 * w) / 256 ≡ w
div_of b w h = omega arith

flags_split : (k b w : ℕ) → b < 256 → flags (suc k) (b + 256 * w) ≡ flag b + 256 * flags k w
unfolding flags
flags_split k b w h = ap₂ (λ (x y : ℕ). flag x + 256 * flags k y) (mod_of b w h) (div_of b w h)

-- ---- none is x
xor_none : (d c a x : ℕ) → d + c * 2 ≡ a + x → c ≤ a → c ≤ x → d ≡ 0 → a ≡ x
xor_none d c a x e h g z = omega arith

xor_zero : (a x : ℕ) → bit_xor a x ≡ 0 → a ≡ x
xor_zero a x z = xor_none (bit_xor a x) (bit_and a x) a x (xor_add_and a x) (and_le_l a x) (and_le_r a x) z

flag_set : (d : ℕ) → flag d ≡ 128 → d ≡ 0 → ⊥
flag_set zero e z = omega arith
flag_set (suc d) e z = omega arith

set_flag : (d : ℕ) → (d ≡ 0 → ⊥) → flag d ≡ 128
set_flag zero h = absurd (h refl)
set_flag (suc d) h = refl

module _ (s : List ℕ) (x : ℕ) (hs : Octets s) (hx : x < 256) where
  -- byte and rest of the number that is looked at
  without_split : (k o : ℕ) → flags (suc k) (bit_xor (num_at (suc k) s o) (every x (suc k))) ≡ flag (bit_xor (get_or s o 0) x) + 256 * flags k (bit_xor (num_at k s (o + 1)) (every x k))
  without_split k o =
      ap (λ (w : ℕ). flags (suc k) (bit_xor w (x + 256 * every x k))) (num_suc k s o)
      ∙ ap (flags (suc k)) (xor_split (get_or s o 0) (num_at k s (o + 1)) x (every x k) (hs o) hx)
      ∙ flags_split k (bit_xor (get_or s o 0) x) (bit_xor (num_at k s (o + 1)) (every x k)) (xor_lt 8 (get_or s o 0) x (hs o) hx)

  without_to : (k o : ℕ) → flags k (bit_xor (num_at k s o) (every x k)) ≡ every 128 k → (j : ℕ) → j < k → get_or s (o + j) 0 ≡ x → ⊥
  without_to zero o e = λ j l. absurd (omega arith)
  without_to (suc k) o e =
      let p = same_split (flag (bit_xor (get_or s o 0) x)) (flags k (bit_xor (num_at k s (o + 1)) (every x k))) 128 (every 128 k)
      (flag_small (bit_xor (get_or s o 0) x)) (omega arith) (sym (without_split k o) ∙ e) in
      each_suc (λ j. get_or s (o + j) 0 ≡ x → ⊥) k
      (λ q. flag_set (bit_xor (get_or s o 0) x) p.0 (ap (λ (y : ℕ). bit_xor y x) (ap (λ (i : ℕ). get_or s i 0) (sym (add-zero o)) ∙ q) ∙ xor_self x))
      (λ j l q.
      let i : o + 1 + j ≡ o + suc j = omega arith in
      without_to k (o + 1) p.1 j l (ap (λ (y : ℕ). get_or s y 0) i ∙ q))

  without_from : (k o : ℕ) → ((j : ℕ) → j < k → get_or s (o + j) 0 ≡ x → ⊥) → flags k (bit_xor (num_at k s o) (every x k)) ≡ every 128 k
  without_from zero o h = unfold flags in refl
  without_from (suc k) o h =
      without_split k o
      ∙ ap₂ (λ (a b : ℕ). a + 256 * b)
      (set_flag (bit_xor (get_or s o 0) x) (λ z. h 0 (omega arith) (ap (λ (i : ℕ). get_or s i 0) (add-zero o) ∙ xor_zero (get_or s o 0) x z)))
      (without_from k (o + 1) (λ j l q.
      let i : o + 1 + j ≡ o + suc j = omega arith in
      h (suc j) (omega arith) (ap (λ (y : ℕ). get_or s y 0) (sym i) ∙ q)))

  pub without_is : (k o : ℕ) → eqb (flags k (bit_xor (num_at k s o) (every x k))) (every 128 k) ≡ all_below (λ j. not (eqb (get_or s (o + j) 0) x)) k
  without_is k o =
      reflects_ext (r_says (without_to k o) (without_from k o) (r_eq (flags k (bit_xor (num_at k s o) (every x k))) (every 128 k)))
      (r_all k (λ j. r_not (r_eq (get_or s (o + j) 0) x)))

-- ---- zero where another is
or_flag : (b c : ℕ) → bit_or (flag b) (flag c) ≡ flag b → b ≡ 0 → c ≡ 0
or_flag zero zero e z = refl
or_flag zero (suc c) e z = absurd (omega arith)
or_flag (suc b) c e z = absurd (omega arith)

flag_or : (b c : ℕ) → (b ≡ 0 → c ≡ 0) → bit_or (flag b) (flag c) ≡ flag b
flag_or zero zero h = refl
flag_or zero (suc c) h = absurd (let z = h refl in omega arith)
flag_or (suc b) zero h = refl
flag_or (suc b) (suc c) h = refl

module _ (s : List ℕ) (hs : Octets s) where
  flags_at : (k o : ℕ) → flags (suc k) (num_at (suc k) s o) ≡ flag (get_or s o 0) + 256 * flags k (num_at k s (o + 1))
  flags_at k o = ap (flags (suc k)) (num_suc k s o) ∙ flags_split k (get_or s o 0) (num_at k s (o + 1)) (hs o)

  or_at : (k o p : ℕ) → bit_or (flags (suc k) (num_at (suc k) s o)) (flags (suc k) (num_at (suc k) s p))
      ≡ bit_or (flag (get_or s o 0)) (flag (get_or s p 0)) + 256 * bit_or (flags k (num_at k s (o + 1))) (flags k (num_at k s (p + 1)))
  or_at k o p =
      ap₂ bit_or (flags_at k o) (flags_at k p)
      ∙ or_split (flag (get_or s o 0)) (flags k (num_at k s (o + 1))) (flag (get_or s p 0)) (flags k (num_at k s (p + 1))) (flag_small (get_or s o 0)) (flag_small (get_or s p 0))

  zeros_to : (k o p : ℕ) → bit_or (flags k (num_at k s o)) (flags k (num_at k s p)) ≡ flags k (num_at k s o) → (j : ℕ) → j < k → get_or s (o + j) 0 ≡ 0 → get_or s (p + j) 0 ≡ 0
  zeros_to zero o p e = λ j l. absurd (omega arith)
  zeros_to (suc k) o p e =
      let q = same_split (bit_or (flag (get_or s o 0)) (flag (get_or s p 0))) (bit_or (flags k (num_at k s (o + 1))) (flags k (num_at k s (p + 1)))) (flag (get_or s o 0)) (flags k (num_at k s (o + 1)))
      (or_lt 8 (flag (get_or s o 0)) (flag (get_or s p 0)) (flag_small (get_or s o 0)) (flag_small (get_or s p 0))) (flag_small (get_or s o 0))
      (sym (or_at k o p) ∙ e ∙ flags_at k o) in
      each_suc (λ j. get_or s (o + j) 0 ≡ 0 → get_or s (p + j) 0 ≡ 0) k
      (λ z. ap (λ (i : ℕ). get_or s i 0) (add-zero p) ∙ or_flag (get_or s o 0) (get_or s p 0) q.0 (ap (λ (i : ℕ). get_or s i 0) (sym (add-zero o)) ∙ z))
      (λ j l z.
      let a : o + 1 + j ≡ o + suc j = omega arith in
      let b : p + 1 + j ≡ p + suc j = omega arith in
      ap (λ (i : ℕ). get_or s i 0) (sym b) ∙ zeros_to k (o + 1) (p + 1) q.1 j l (ap (λ (i : ℕ). get_or s i 0) a ∙ z))

  zeros_from : (k o p : ℕ) → ((j : ℕ) → j < k → get_or s (o + j) 0 ≡ 0 → get_or s (p + j) 0 ≡ 0) → bit_or (flags k (num_at k s o)) (flags k (num_at k s p)) ≡ flags k (num_at k s o)
  zeros_from zero o p h = unfold flags in refl
  zeros_from (suc k) o p h =
      or_at k o p
      ∙ ap₂ (λ (a b : ℕ). a + 256 * b)
      (flag_or (get_or s o 0) (get_or s p 0) (λ z. ap (λ (i : ℕ). get_or s i 0) (sym (add-zero p)) ∙ h 0 (omega arith) (ap (λ (i : ℕ). get_or s i 0) (add-zero o) ∙ z)))
      (zeros_from k (o + 1) (p + 1) (λ j l z.
      let a : o + 1 + j ≡ o + suc j = omega arith in
      let b : p + 1 + j ≡ p + suc j = omega arith in
      ap (λ (i : ℕ). get_or s i 0) b ∙ h (suc j) (omega arith) (ap (λ (i : ℕ). get_or s i 0) (sym a) ∙ z)))
      ∙ sym (flags_at k o)

  pub zeros_are : (k o p : ℕ) → eqb (bit_or (flags k (num_at k s o)) (flags k (num_at k s p))) (flags k (num_at k s o)) ≡ all_below (λ j. not (eqb (get_or s (o + j) 0) 0) || eqb (get_or s (p + j) 0) 0) k
  zeros_are k o p =
      reflects_ext (r_says (zeros_to k o p) (zeros_from k o p) (r_eq (bit_or (flags k (num_at k s o)) (flags k (num_at k s p))) (flags k (num_at k s o))))
      (r_all k (λ j. r_imp (r_eq (get_or s (o + j) 0) 0) (r_eq (get_or s (p + j) 0) 0)))
