-- The k-th block of an inode, after writes to blocks and addresses. n is the inode count.
use Prim.Native.Nat.{ℕ, ◌+◌, ◌*◌, ◌-◌, ◌/◌, ◌%◌, ◌≤◌, ◌<◌}
use mathlib.Core.Path.{◌≡◌, refl, sym, ap, ap₂, ◌∙◌}
use mathlib.Core.Logic.{◌≢◌}
use mathlib.Core.Bool.{Bool, true, false}
use mathlib.Core.List.{List}
use native.Mathlib.Decide.{ℕ_discrete, dec_lt}
use native.Mathlib.Omega.{arith}
use borrow.Author.Tests.{eq-eqb, ne_eqb, lt-ltb, le-ltb}
use lib.Dec.{eqb}
use lib.ListN.{get_or}
use Rattle.bounded.specs.Below.{all_below}
use Rattle.bounded.proofs.BelowLaws.{all_ext}
use Rattle.octets.specs.Octets.{part, num_at}
use Rattle.octets.proofs.PartLaws.{get_d_part}
use Rattle.octets.proofs.NumLaws.{num_ext}
use Rattle.octets.proofs.ZeroLaws.{numbers_zero}
use Rattle.layout.specs.Sizes.{address_count, further_count, most_blocks}
use Rattle.layout.specs.Inode.{address_index, address_of}
use Rattle.blocks.specs.Block.{block_at, block_of, address_block, further_of, kth_by, row_by}

-- ---- where it stands
module _ (long : Bool) (s : List ℕ) (n i k : ℕ) where
  pub kth_direct : k < address_count → kth_by long s n i k ≡ address_of s n (address_index i k)
  unfolding kth_by
  kth_direct l = rw (lt-ltb k address_count l)

  pub kth_further : long ≡ true → address_count ≤ k → kth_by long s n i k ≡ further_of s n (address_block s n i) (k - address_count)
  unfolding kth_by
  kth_further e l = rw (le-ltb k address_count l, e)

  pub kth_none : long ≡ false → address_count ≤ k → kth_by long s n i k ≡ 0
  unfolding kth_by
  kth_none e l = rw (le-ltb k address_count l, e)

pub row_kth : (long : ℕ → Bool) (s : List ℕ) (n i k : ℕ) → 1 ≤ i → k < most_blocks → row_by long s n (most_blocks * (i - 1) + k) ≡ kth_by (long i) s n i k
unfolding row_by
row_kth long s n i k l m =
    let e : (44 * (i - 1) + k) / 44 + 1 ≡ i = omega arith in
    let f : (44 * (i - 1) + k) % 44 ≡ k = omega arith in
    ap₂ (λ (j u : ℕ). kth_by (long j) s n j u) e f

-- ---- further addresses
module _ (s : List ℕ) (n a j : ℕ) where
  pub further_zero : a ≡ 0 → further_of s n a j ≡ 0
  unfolding further_of
  further_zero e = rw (eq-eqb a 0 e)

  pub further_some : a ≢ 0 → further_of s n a j ≡ num_at 2 s (block_at n a + 2 * j)
  unfolding further_of
  further_some e = rw (ne_eqb a 0 e)

  -- they are the numbers in the bytes of the block
  pub further_bytes : a ≢ 0 → j < further_count → further_of s n a j ≡ num_at 2 (block_of s n a) (2 * j)
  unfolding block_of
  further_bytes e l =
      further_some e
      ∙ num_ext 2 s (block_at n a + 2 * j) (part s (block_at n a) 64) (2 * j)
      (λ x m. let q : block_at n a + 2 * j + x ≡ block_at n a + (2 * j + x) = omega arith in
      ap (λ (y : ℕ). get_or s y 0) q ∙ sym (get_d_part s (block_at n a) 64 (2 * j + x) (omega arith)))

-- the w of them from the j-th on are 0 if their bytes are; o is where the block starts
pub further_zeros : (s : List ℕ) (n a j w o : ℕ) → 1 ≤ a → o ≡ block_at n a → all_below (λ k. eqb (get_or s (o + 2 * j + k) 0) 0) (2 * w) ≡ all_below (λ k. eqb (further_of s n a (j + k)) 0) w
further_zeros s n a j w o l e =
    sym (numbers_zero 2 s (o + 2 * j) w)
    ∙ all_ext (λ k. eqb (num_at 2 s (o + 2 * j + 2 * k)) 0) (λ k. eqb (further_of s n a (j + k)) 0) w
    (λ k m.
    let g : o + 2 * j + 2 * k ≡ block_at n a + 2 * (j + k) = omega arith in
    ap (λ (y : ℕ). eqb y 0) (ap (num_at 2 s) g ∙ sym (further_some s n a (j + k) (λ z. omega arith))))

-- ---- the frame: what an inode's blocks depend on
-- its twelve addresses stay
abbrev pub SameDirect : List ℕ → List ℕ → ℕ → ℕ → Type 0
SameDirect s t n i = (k : ℕ) → k < address_count → address_of t n (address_index i k) ≡ address_of s n (address_index i k)

-- and so do the bytes of its address block, where it has one
abbrev pub SameFurther : Bool → List ℕ → List ℕ → ℕ → ℕ → Type 0
SameFurther long s t n i = long ≡ true → address_block s n i ≢ 0 → block_of t n (address_block s n i) ≡ block_of s n (address_block s n i)

pub further_same : (s t : List ℕ) (n a j : ℕ) → (a ≢ 0 → block_of t n a ≡ block_of s n a) → j < further_count → further_of t n a j ≡ further_of s n a j
further_same s t n a j h l = go (ℕ_discrete a 0)
  where
    go : Dec (a ≡ 0) → further_of t n a j ≡ further_of s n a j
    go (yes e) = further_zero t n a j e ∙ sym (further_zero s n a j e)
    go (no e) = further_bytes t n a j e l ∙ ap (λ (x : List ℕ). num_at 2 x (2 * j)) (h e) ∙ sym (further_bytes s n a j e l)

pub kth_at : (long : Bool) (s t : List ℕ) (n i k : ℕ) → (k < address_count → address_of t n (address_index i k) ≡ address_of s n (address_index i k)) → (address_count ≤ k → address_block t n i ≡ address_block s n i)
    → SameFurther long s t n i → k < most_blocks → kth_by long t n i k ≡ kth_by long s n i k
kth_at long s t n i k d g f m = go (dec_lt k address_count) long refl
  where
    go : Dec (k < address_count) → (b : Bool) → long ≡ b → kth_by long t n i k ≡ kth_by long s n i k
    go (yes l) b e = kth_direct long t n i k l ∙ d l ∙ sym (kth_direct long s n i k l)
    go (no l) true e =
        kth_further long t n i k e (omega arith)
        ∙ ap (λ (a : ℕ). further_of t n a (k - 12)) (g (omega arith))
        ∙ further_same s t n (address_block s n i) (k - 12) (f e) (omega arith)
        ∙ sym (kth_further long s n i k e (omega arith))
    go (no l) false e = kth_none long t n i k e (omega arith) ∙ sym (kth_none long s n i k e (omega arith))

pub kth_same : (long : Bool) (s t : List ℕ) (n i k : ℕ) → SameDirect s t n i → SameFurther long s t n i → k < most_blocks → kth_by long t n i k ≡ kth_by long s n i k
kth_same long s t n i k d f m = kth_at long s t n i k (d k) (λ _. d 11 (omega arith)) f m

-- an inode that has no address block: there is nothing behind its twelve, long or not
pub few_alike : (s : List ℕ) (n i u : ℕ) (x y : Bool) → address_block s n i ≡ 0 → u < most_blocks → kth_by x s n i u ≡ kth_by y s n i u
few_alike s n i u x y z l = go (dec_lt u address_count)
  where
    none : (x : Bool) → address_count ≤ u → kth_by x s n i u ≡ 0
    none true m = kth_further true s n i u refl m ∙ further_zero s n (address_block s n i) (u - 12) z
    none false m = kth_none false s n i u refl m

    go : Dec (u < address_count) → kth_by x s n i u ≡ kth_by y s n i u
    go (yes m) = kth_direct x s n i u m ∙ sym (kth_direct y s n i u m)
    go (no m) = none x (omega arith) ∙ sym (none y (omega arith))

-- behind twelve addresses with no address block
pub kth_bare : (long : Bool) (s : List ℕ) (n i u : ℕ) → address_block s n i ≡ 0 → address_count ≤ u → u < most_blocks → kth_by long s n i u ≡ 0
kth_bare long s n i u z l m = few_alike s n i u long false z m ∙ kth_none false s n i u refl l

-- behind an address block
pub kth_behind : (long : Bool) (s : List ℕ) (n i j : ℕ) → long ≡ true → kth_by long s n i (address_count + j) ≡ further_of s n (address_block s n i) j
kth_behind long s n i j e = let z : 12 + j - 12 ≡ j = omega arith in kth_further long s n i (12 + j) e (omega arith) ∙ ap (further_of s n (address_block s n i)) z

-- no address at all
pub bare_all : (long : Bool) (s : List ℕ) (n i : ℕ) → ((k : ℕ) → k < address_count → address_of s n (address_index i 0 + k) ≡ 0) → (u : ℕ) → u < most_blocks → kth_by long s n i u ≡ 0
bare_all long s n i h u m = go (dec_lt u address_count)
  where
    at : (k : ℕ) → k < address_count → address_of s n (address_index i k) ≡ 0
    at k l = let e : address_index i k ≡ address_index i 0 + k = omega arith in ap (address_of s n) e ∙ h k l

    go : Dec (u < address_count) → kth_by long s n i u ≡ 0
    go (yes l) = kth_direct long s n i u l ∙ at u l
    go (no l) = kth_bare long s n i u (at 11 (omega arith)) (omega arith) m

pub row_next : (long : ℕ → Bool) (s : List ℕ) (n i k : ℕ) → k < most_blocks → row_by long s n (most_blocks * i + k) ≡ kth_by (long (i + 1)) s n (i + 1) k
row_next long s n i k l = let e : 44 * i + k ≡ 44 * (i + 1 - 1) + k = omega arith in ap (row_by long s n) e ∙ row_kth long s n (i + 1) k (omega arith) l
