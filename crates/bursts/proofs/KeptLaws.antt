-- The map of named blocks that a burst keeps, as the code goes through it. s is the store, m the image, n and b the counts of inodes and image blocks; long tells which inodes have an address block.
use Rattle.std.specs.Prelude.{Option, Some}
use Prim.Native.Nat.{ℕ, ◌+◌, ◌*◌, ◌-◌, ◌/◌, ◌%◌, ◌≤◌, ◌<◌}
use mathlib.Core.Path.{◌≡◌, refl, sym, ap, ◌∙◌}
use mathlib.Core.Logic.{◌≢◌}
use mathlib.Core.Bool.{Bool, true, false, not, ◌&&◌}
use mathlib.Core.List.{List}
use native.Mathlib.Decide.{ℕ_discrete}
use native.Mathlib.Omega.{arith}
use borrow.Author.Tests.{leb-true, eqb-false, not-true}
use lib.Dec.{eqb, leb}
use Rattle.bounded.specs.Search.{first_from}
use Rattle.bounded.proofs.BoolLaws.{and_left, and_right}
use Rattle.bounded.proofs.SearchLaws.{first_ext}
use Rattle.layout.specs.Sizes.{address_count, address_place, most_blocks, most_image_blocks}
use Rattle.layout.specs.Inode.{kind_of, directory_kind}
use Rattle.blocks.specs.Block.{is_long, address_block, further_of, kth_by, kth_block, row_by}
use Rattle.blocks.specs.Free.{named_by, lowest_by, long_but}
use Rattle.blocks.specs.Fits.{RowsFit}
use Rattle.blocks.specs.Map.{lacks, Maps}
use Rattle.blocks.proofs.KthLaws.{kth_direct, kth_further, few_alike}
use Rattle.blocks.proofs.MapLaws.{map_ext, map_free}
use Rattle.blocks.proofs.LongLaws.{but_else}
use Rattle.checkpoint.specs.Copier.{target_block}
use Rattle.image.specs.Fit.{locked_long}
use Rattle.image.proofs.FitLaws.{told}
use Rattle.bursts.specs.Turn.{names_stay_b}
use Rattle.transfer.proofs.NamedLaws.{target_own, target_other}

-- ---- the place of a block by the map
module _ (map : List ℕ) (b c : ℕ) where
  module _ (few : b ≤ most_image_blocks) (long : ℕ → Bool) (m : List ℕ) (n : ℕ) (k : Maps long m n (most_blocks * n) map) where
    same_open : leb 1 c && (leb c b && lacks map c) ≡ leb 1 c && (leb c b && not (named_by long m n c))
    same_open = go (leb 1 c) (leb c b) refl refl
      where
        go : (x y : Bool) → leb 1 c ≡ x → leb c b ≡ y → x && (y && lacks map c) ≡ x && (y && not (named_by long m n c))
        go true true p q = let l = leb-true 1 c p in let h = leb-true c b q in map_free long m n map k c l (omega arith)
        go true false p q = refl
        go false y p q = refl

    pub place_own : (r : Bool) → r ≡ leb 1 c && (leb c b && lacks map c) → r ≡ true → Some c ≡ target_block long m n b c
    place_own r e q = target_own long m n c b r (e ∙ same_open) q

    pub place_lowest : (r : Bool) → r ≡ leb 1 c && (leb c b && lacks map c) → r ≡ false → (f : Option ℕ) → f ≡ first_from (lacks map) 1 b → f ≡ target_block long m n b c
    unfolding lowest_by
    place_lowest r e q f g = target_other long m n c b r (e ∙ same_open) f q (g ∙ first_ext _ _ 1 _ (λ j l u. map_free long m n map k j l (omega arith)))

-- ---- the same inodes are long
module _ (f g : ℕ → Bool) (m : List ℕ) (n : ℕ) (e : (i : ℕ) → 1 ≤ i → g i ≡ f i) where
  alike : (x : ℕ) → row_by g m n x ≡ row_by f m n x
  unfolding row_by
  alike x = ap (λ (y : Bool). kth_by y m n (x / 44 + 1) (x % 44)) (e (x / 44 + 1) (omega arith))

  pub rows_alike : RowsFit f m n → RowsFit g m n
  rows_alike h = record { few = h.few; area = h.area; most = λ x u. rw (alike x) (h.most x u); inside = λ i a b. rw (e i a) (h.inside i a b) }

  pub maps_alike : (map : List ℕ) → Maps f m n (most_blocks * n) map → Maps g m n (most_blocks * n) map
  maps_alike map h = map_ext (row_by f m n) (row_by g m n) (most_blocks * n) map h (λ x _. alike x)

-- the locked inode by the store, as the code has found it
pub locked_told : (s m : List ℕ) (l : ℕ) (x : Bool) → x ≡ locked_long s l → (i : ℕ) → 1 ≤ i → long_but m l x i ≡ long_but m l (is_long s l) i
locked_told s m l x e i h = ap (λ (y : Bool). long_but m l y i) e ∙ told s l m i h

-- ---- the k-th block of an inode, which is long if k is not below twelve
module _ (m : List ℕ) (n i : ℕ) where
  pub twelfth : kth_block m n i address_place ≡ address_block m n i
  twelfth = kth_direct (is_long m i) m n i 11 (omega arith)

  module _ (k r : ℕ) where
    pub stands_direct : k < address_count → r ≡ kth_block m n i k → r ≡ kth_by true m n i k
    stands_direct l e = e ∙ kth_direct (is_long m i) m n i k l ∙ sym (kth_direct true m n i k l)

    pub stands_further : address_count ≤ k → (a : ℕ) → a ≡ kth_block m n i address_place → r ≡ further_of m n a (k - address_count) → r ≡ kth_by true m n i k
    stands_further l a e g = g ∙ ap (λ (x : ℕ). further_of m n x (k - 12)) (e ∙ twelfth) ∙ sym (kth_further true m n i k refl l)

-- ---- an inode that is to be locked
module _ (s m : List ℕ) (n i : ℕ) where
  -- with no address block it changes nothing
  pub maps_bare : address_block m n i ≡ 0 → (map : List ℕ) → Maps (is_long m) m n (most_blocks * n) map → Maps (long_but m i (is_long s i)) m n (most_blocks * n) map
  unfolding row_by
  maps_bare z map h = map_ext (row_by (is_long m) m n) (row_by (long_but m i (is_long s i)) m n) (most_blocks * n) map h (λ x _. go x (ℕ_discrete (x / 44 + 1) i))
    where
      go : (x : ℕ) → Dec (x / 44 + 1 ≡ i) → kth_by (long_but m i (is_long s i) (x / 44 + 1)) m n (x / 44 + 1) (x % 44) ≡ kth_by (is_long m (x / 44 + 1)) m n (x / 44 + 1) (x % 44)
      go x (yes e) = few_alike m n (x / 44 + 1) (x % 44) (long_but m i (is_long s i) (x / 44 + 1)) (is_long m (x / 44 + 1)) (ap (address_block m n) e ∙ z) (omega arith)
      go x (no e) = ap (λ (y : Bool). kth_by y m n (x / 44 + 1) (x % 44)) (but_else m i (is_long s i) (x / 44 + 1) e)

-- ---- whether the counts stay at the close of inode i
module _ (s m : List ℕ) (i : ℕ) where
  pub stay_is : names_stay_b s m i ≡ true → (kind_of m i ≢ directory_kind) × (kind_of s i ≢ directory_kind) × (is_long s i ≡ false)
  stay_is h =
      let a = and_left _ _ h in
      let b = and_right (not (eqb (kind_of m i) directory_kind)) _ h in (
        eqb-false (kind_of m i) directory_kind (not-true _ a),
        eqb-false (kind_of s i) directory_kind (not-true _ (and_left _ _ b)),
        not-true _ (and_right (not (eqb (kind_of s i) directory_kind)) _ b),
      )
