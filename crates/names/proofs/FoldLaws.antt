-- Folding eight bytes at once, by the bits of a word, once over the width.
use Prim.Native.Nat.{ℕ, zero, suc, ◌+◌, ◌*◌, ◌/◌, ◌%◌, ◌^◌, ◌≤◌, ◌<◌}
use mathlib.Core.Path.{◌≡◌, refl, sym, ap, ap₂, ◌∙◌}
use mathlib.Core.Bool.{Bool, true, false, ◌&&◌}
use mathlib.Core.List.{List}
use native.Mathlib.Omega.{arith}
use native.Mathlib.Nat.{add-zero}
use borrow.Author.Tests.{eqb-true, leb-true}
use lib.Dec.{eqb, leb}
use lib.ListN.{get_or}
use lib.Bits.{bit_and, bit_xor, and_zero_r, and_le_l, and_le_r, xor_lt}
use Rattle.bounded.specs.Below.{all_below}
use Rattle.bounded.specs.Search.{pick}
use Rattle.bounded.proofs.BoolLaws.{and_right}
use Rattle.bounded.proofs.CaseLaws.{each_suc}
use Rattle.bounded.proofs.BelowLaws.{all_at}
use Rattle.octets.specs.Octets.{Octets, num_at}
use Rattle.octets.proofs.NumLaws.{num_suc}
use Rattle.octets.proofs.FlagLaws.{every, same_split, and_split, xor_split, low_byte, parts, mod_of, div_of}
use Rattle.names.specs.Name.{folded}
use Rattle.names.specs.Words.{folds}

-- ---- which bytes are capital letters
-- 1 for one, 0 for any other
abbrev capital : ℕ → ℕ
capital b = pick (leb 65 b && leb b 90) 1 0

unfoldable capitals : ℕ → ℕ → ℕ
capitals zero w = 0
capitals (suc k) w = capital (w % 256) + 256 * capitals k (w / 256)

folded_by : (b : ℕ) → folded b ≡ b + 32 * capital b
unfolding folded
folded_by b = go (leb 65 b && leb b 90)
  where
    go : (x : Bool) → pick x (b + 32) b ≡ b + 32 * pick x 1 0
    go true = refl
    go false = omega arith

-- what the code computes: m, f, p and h are each a byte as often as there are bytes
abbrev pub flagged : ℕ → ℕ → ℕ → ℕ → ℕ → ℕ
flagged m f p h w = bit_and (bit_and (bit_xor (bit_and w m + f) (bit_and w m + p)) (bit_xor w h)) h

-- of one byte: a table of 256
byte_table : all_below (λ b. eqb (flagged 127 63 37 128 b) (128 * capital b)) 256 ≡ true
unfolding all_below
byte_table = refl

byte_flagged : (b : ℕ) → b < 256 → flagged 127 63 37 128 b ≡ 128 * capital b
byte_flagged b l = eqb-true (flagged 127 63 37 128 b) (128 * capital b) (all_at (λ b. eqb (flagged 127 63 37 128 b) (128 * capital b)) 256 byte_table b l)

sum_split : (a b x m : ℕ) → a + 256 * b + (x + 256 * m) ≡ (a + x) + 256 * (b + m)
sum_split a b x m = omega arith

low_sum : (a x : ℕ) → a ≤ 127 → x < 128 → a + x < 256
low_sum a x h l = omega arith

below_byte : (a b : ℕ) → a ≤ b → b < 256 → a < 256
below_byte a b h l = omega arith

-- no byte's sum reaches the next
flagged_split : (m f p h b w : ℕ) → b < 256 → flagged (127 + 256 * m) (63 + 256 * f) (37 + 256 * p) (128 + 256 * h) (b + 256 * w) ≡ flagged 127 63 37 128 b + 256 * flagged m f p h w
flagged_split m f p h b w l =
    let c = bit_and b 127 in
    let r = bit_and w m in
    let e : bit_and (b + 256 * w) (127 + 256 * m) ≡ c + 256 * r = and_split b w 127 m l (omega arith) in
    let k : c + 63 < 256 = low_sum c 63 (and_le_r b 127) (omega arith) in
    let j : c + 37 < 256 = low_sum c 37 (and_le_r b 127) (omega arith) in
    let x : bit_xor (c + 63) (c + 37) < 256 = xor_lt 8 (c + 63) (c + 37) k j in
    let y : bit_xor b 128 < 256 = xor_lt 8 b 128 l (omega arith) in
    let v : bit_and (bit_xor (c + 63) (c + 37)) (bit_xor b 128) < 256 = below_byte (bit_and (bit_xor (c + 63) (c + 37)) (bit_xor b 128)) (bit_xor (c + 63) (c + 37)) (and_le_l (bit_xor (c + 63) (c + 37)) (bit_xor b 128)) x in
    ap (λ (z : ℕ). bit_and (bit_and (bit_xor (z + (63 + 256 * f)) (z + (37 + 256 * p))) (bit_xor (b + 256 * w) (128 + 256 * h))) (128 + 256 * h)) e
    ∙ ap₂ (λ (z u : ℕ). bit_and (bit_and (bit_xor z u) (bit_xor (b + 256 * w) (128 + 256 * h))) (128 + 256 * h)) (sum_split c r 63 f) (sum_split c r 37 p)
    ∙ ap₂ (λ (z u : ℕ). bit_and (bit_and z u) (128 + 256 * h)) (xor_split (c + 63) (r + f) (c + 37) (r + p) k j) (xor_split b w 128 h l (omega arith))
    ∙ ap (λ (z : ℕ). bit_and z (128 + 256 * h)) (and_split (bit_xor (c + 63) (c + 37)) (bit_xor (r + f) (r + p)) (bit_xor b 128) (bit_xor w h) x y)
    ∙ and_split (bit_and (bit_xor (c + 63) (c + 37)) (bit_xor b 128)) (bit_and (bit_xor (r + f) (r + p)) (bit_xor w h)) 128 h v (omega arith)

join : (a b x y : ℕ) → a ≡ 128 * x → b ≡ 128 * y → a + 256 * b ≡ 128 * (x + 256 * y)
join a b x y e f = omega arith

flagged_are : (k w : ℕ) → flagged (every 127 k) (every 63 k) (every 37 k) (every 128 k) w ≡ 128 * capitals k w
unfolding capitals
flagged_are zero w = and_zero_r (bit_and (bit_xor (bit_and w 0 + 0) (bit_and w 0 + 0)) (bit_xor w 0))
flagged_are (suc k) w =
    ap (flagged (127 + 256 * every 127 k) (63 + 256 * every 63 k) (37 + 256 * every 37 k) (128 + 256 * every 128 k)) (parts w)
    ∙ flagged_split (every 127 k) (every 63 k) (every 37 k) (every 128 k) (w % 256) (w / 256) (low_byte w)
    ∙ join (flagged 127 63 37 128 (w % 256)) (flagged (every 127 k) (every 63 k) (every 37 k) (every 128 k) (w / 256)) (capital (w % 256)) (capitals k (w / 256)) (byte_flagged (w % 256) (low_byte w)) (flagged_are k (w / 256))

-- ---- each capital letter as the small one
sum_by : (b w c d x y : ℕ) → x ≡ b + 32 * c → y ≡ w + 32 * d → b + 256 * w + 32 * (c + 256 * d) ≡ x + 256 * y
sum_by b w c d x y e f = omega arith

div_most : (w m : ℕ) → w ≤ 255 + 256 * m → w / 256 ≤ m
div_most w m h = omega arith

folds_sum : (k w : ℕ) → w ≤ every 255 k → w + 32 * capitals k w ≡ folds k w
unfolding folds capitals
folds_sum zero w h = omega arith
folds_sum (suc k) w h =
    ap (λ (z : ℕ). z + 32 * (capital (w % 256) + 256 * capitals k (w / 256))) (parts w)
    ∙ sum_by (w % 256) (w / 256) (capital (w % 256)) (capitals k (w / 256)) (folded (w % 256)) (folds k (w / 256)) (folded_by (w % 256)) (sym (folds_sum k (w / 256) (div_most w (every 255 k) h)))

-- a folded byte is one
pub folded_small : (b : ℕ) → b < 256 → folded b < 256
unfolding folded
folded_small b l = go (leb 65 b && leb b 90) refl
  where
    go : (x : Bool) → leb 65 b && leb b 90 ≡ x → pick x (b + 32) b < 256
    go true e = let h = leb-true b 90 (and_right (leb 65 b) (leb b 90) e) in omega arith
    go false e = l

folds_most : (k w : ℕ) → folds k w ≤ every 255 k
unfolding folds
folds_most zero w = omega arith
folds_most (suc k) w =
    let a = folded_small (w % 256) (low_byte w) in
    let b = folds_most k (w / 256) in
    omega arith

-- ---- what the code adds up
pub low_fits : (a x : ℕ) → a ≤ every 127 8 → x ≤ every 127 8 → a + x < 2 ^ 64
low_fits a x h l = omega arith

module _ (w : ℕ) (l : w < 2 ^ 64) where
  word_small : w ≤ every 255 8
  word_small = omega arith

  pub capitals_at : (x : ℕ) → x ≡ flagged (every 127 8) (every 63 8) (every 37 8) (every 128 8) w → w + x / 4 ≡ folds 8 w
  capitals_at x e =
      let a = flagged_are 8 w in
      let b = folds_sum 8 w word_small in
      quarter x (capitals 8 w) (folds 8 w) (e ∙ a) b
    where
      quarter : (x c f : ℕ) → x ≡ 128 * c → w + 32 * c ≡ f → w + x / 4 ≡ f
      quarter x c f e h = omega arith

  pub capitals_fit : (x : ℕ) → x ≡ flagged (every 127 8) (every 63 8) (every 37 8) (every 128 8) w → w + x / 4 < 2 ^ 64
  capitals_fit x e = let a = capitals_at x e in let b = folds_most 8 w in omega arith

-- ---- the numbers of folded bytes
module _ (s : List ℕ) (hs : Octets s) where
  folds_num : (k o : ℕ) → folds (suc k) (num_at (suc k) s o) ≡ folded (get_or s o 0) + 256 * folds k (num_at k s (o + 1))
  unfolding folds
  folds_num k o =
      ap (λ (w : ℕ). folded (w % 256) + 256 * folds k (w / 256)) (num_suc k s o)
      ∙ ap₂ (λ (x y : ℕ). folded x + 256 * folds k y) (mod_of (get_or s o 0) (num_at k s (o + 1)) (hs o)) (div_of (get_or s o 0) (num_at k s (o + 1)) (hs o))

  num_most : (k o : ℕ) → num_at k s o ≤ every 255 k
  num_most zero o = unfold num_at in omega arith
  num_most (suc k) o = let a = num_suc k s o in let b = num_most k (o + 1) in let c = hs o in omega arith

-- two bytes more, which are 0, change nothing
folds_more : (k w : ℕ) → w ≤ every 255 k → folds (suc (suc k)) w ≡ folds k w
unfolding folds folded
folds_more zero w h = let e : w ≡ 0 = omega arith in rw e refl
folds_more (suc k) w h = ap (λ (x : ℕ). folded (w % 256) + 256 * x) (folds_more k (w / 256) (div_most w (every 255 k) h))

module _ (s t : List ℕ) (hs : Octets s) (ht : Octets t) where
  folds_ext : (k o p : ℕ) → ((j : ℕ) → j < k → folded (get_or s (o + j) 0) ≡ folded (get_or t (p + j) 0)) → folds k (num_at k s o) ≡ folds k (num_at k t p)
  folds_ext zero o p h = unfold folds in refl
  folds_ext (suc k) o p h =
      folds_num s hs k o
      ∙ ap₂ (λ (x y : ℕ). x + 256 * y)
      (ap (λ (i : ℕ). folded (get_or s i 0)) (sym (add-zero o)) ∙ h 0 (omega arith) ∙ ap (λ (i : ℕ). folded (get_or t i 0)) (add-zero p))
      (folds_ext k (o + 1) (p + 1) (λ j l.
      let a : o + 1 + j ≡ o + suc j = omega arith in
      let b : p + 1 + j ≡ p + suc j = omega arith in
      ap (λ (i : ℕ). folded (get_or s i 0)) a ∙ h (suc j) (omega arith) ∙ ap (λ (i : ℕ). folded (get_or t i 0)) (sym b)))
      ∙ sym (folds_num t ht k p)

  folds_inj : (k o p : ℕ) → folds k (num_at k s o) ≡ folds k (num_at k t p) → (j : ℕ) → j < k → folded (get_or s (o + j) 0) ≡ folded (get_or t (p + j) 0)
  folds_inj zero o p e = λ j l. absurd (omega arith)
  folds_inj (suc k) o p e =
      let q = same_split (folded (get_or s o 0)) (folds k (num_at k s (o + 1))) (folded (get_or t p 0)) (folds k (num_at k t (p + 1)))
      (folded_small (get_or s o 0) (hs o)) (folded_small (get_or t p 0) (ht p)) (sym (folds_num s hs k o) ∙ e ∙ folds_num t ht k p) in
      each_suc (λ j. folded (get_or s (o + j) 0) ≡ folded (get_or t (p + j) 0)) k
      (ap (λ (i : ℕ). folded (get_or s i 0)) (add-zero o) ∙ q.0 ∙ ap (λ (i : ℕ). folded (get_or t i 0)) (sym (add-zero p)))
      (λ j l.
      let a : o + 1 + j ≡ o + suc j = omega arith in
      let b : p + 1 + j ≡ p + suc j = omega arith in
      ap (λ (i : ℕ). folded (get_or s i 0)) (sym a) ∙ folds_inj k (o + 1) (p + 1) q.1 j l ∙ ap (λ (i : ℕ). folded (get_or t i 0)) b)

  -- the words of eight and of six bytes
  pub folds_8 : (o p : ℕ) → ((j : ℕ) → j < 8 → folded (get_or s (o + j) 0) ≡ folded (get_or t (p + j) 0)) → folds 8 (num_at 8 s o) ≡ folds 8 (num_at 8 t p)
  folds_8 o p h = folds_ext 8 o p h

  pub folds_6 : (o p : ℕ) → ((j : ℕ) → j < 6 → folded (get_or s (o + j) 0) ≡ folded (get_or t (p + j) 0)) → folds 8 (num_at 6 s o) ≡ folds 8 (num_at 6 t p)
  folds_6 o p h = folds_more 6 (num_at 6 s o) (num_most s hs 6 o) ∙ folds_ext 6 o p h ∙ sym (folds_more 6 (num_at 6 t p) (num_most t ht 6 p))

  pub same_8 : (o p : ℕ) → folds 8 (num_at 8 s o) ≡ folds 8 (num_at 8 t p) → (j : ℕ) → j < 8 → folded (get_or s (o + j) 0) ≡ folded (get_or t (p + j) 0)
  same_8 o p e = folds_inj 8 o p e

  pub same_6 : (o p : ℕ) → folds 8 (num_at 6 s o) ≡ folds 8 (num_at 6 t p) → (j : ℕ) → j < 6 → folded (get_or s (o + j) 0) ≡ folded (get_or t (p + j) 0)
  same_6 o p e = folds_inj 6 o p (sym (folds_more 6 (num_at 6 s o) (num_most s hs 6 o)) ∙ e ∙ folds_more 6 (num_at 6 t p) (num_most t ht 6 p))

-- only 0 folds to 0
pub folded_zero : (b : ℕ) → folded b ≡ folded 0 → b ≡ 0
unfolding folded
folded_zero b = go (leb 65 b && leb b 90)
  where
    go : (x : Bool) → pick x (b + 32) b ≡ 0 → b ≡ 0
    go true e = absurd (omega arith)
    go false e = e
