-- Each way that the tests of an image return. s is the store, m the image, d the desk.
use Prim.Native.Nat.{ℕ, ◌+◌, ◌*◌, ◌-◌, ◌/◌, ◌%◌, ◌≤◌, ◌<◌}
use mathlib.Core.Path.{◌≡◌, sym, ap, ◌∙◌, subst}
use mathlib.Core.Bool.{Bool, true, false, not, ◌&&◌, and_assoc}
use mathlib.Core.List.{List}
use native.Mathlib.Decide.{ℕ_discrete, dec_lt}
use native.Mathlib.Omega.{arith}
use borrow.Author.Tests.{le-leb, eq-eqb, ne_eqb}
use lib.Dec.{eqb, leb}
use lib.ListN.{length}
use Rattle.bounded.specs.Search.{pick}
use Rattle.bounded.specs.Most.{most}
use Rattle.bounded.specs.Reflect.{Reflects}
use Rattle.bounded.proofs.BoolLaws.{clash, and_false_l, chain_end}
use Rattle.bounded.proofs.BelowLaws.{all_of, all_ext}
use Rattle.bounded.proofs.MostLaws.{most_within}
use Rattle.bounded.proofs.ReflectLaws.{r_eq, r_le, r_and, r_all, r_says, r_fails, reflects_ext}
use Rattle.layout.specs.Sizes.{header_bytes, inode_bytes, most_inodes, most_image_blocks, root_inode, not_complete, address_count, address_place, further_count, most_blocks}
use Rattle.layout.specs.Inode.{address_index, address_of}
use Rattle.layout.specs.declared.header.Header.{Header}
use Rattle.layout.specs.Header.{header_of}
use Rattle.blocks.specs.Block.{store_length, allowed, is_long, address_block, further_of, kth_by, row_by}
use Rattle.blocks.specs.Free.{long_but}
use Rattle.blocks.specs.Fits.{Sized}
use Rattle.blocks.proofs.LongLaws.{row_direct}
use Rattle.blocks.proofs.KthLaws.{kth_direct, kth_none, kth_bare, kth_behind, row_next}
use Rattle.desk.specs.Sizes.{desk_length, idle}
use Rattle.desk.specs.declared.Desk.{Desk}
use Rattle.desk.specs.Desk.{desk_of}
use Rattle.checkpoint.specs.Fit.{desk_framed, image_blocks, image_allowed, blocks_fit, desk_fits, image_long, lacks_addresses, image_fits}
use Rattle.checkpoint.proofs.Copy.FitLaws.{desk_framed_is, desk_fits_is, image_fits_is}
use Rattle.image.specs.Fit.{addresses_right, direct_right, further_right_of, further_right, locked_long, addresses_lacking, header_right, rows_right}

-- ---- the desk's frame
-- what a desk that passed has
pub record Framed (d : List ℕ) : Type 0 where
  pub some : 1 ≤ (desk_of d).inodes
  pub most : (desk_of d).inodes ≤ most_inodes
  pub long : length d ≡ desk_length (desk_of d).inodes

pub framed : (d : List ℕ) → desk_framed d ≡ true → Framed d
framed d h = let t = (desk_framed_is d).to h in record { some = t.0; most = t.1.0; long = t.1.1 }

-- the blocks of a desk that fits, for the image's length
pub fits_few : (d : List ℕ) → desk_fits d ≡ true → (desk_of d).blocks ≤ most_image_blocks
unfolding blocks_fit
fits_few d q = go (eqb (desk_of d).state idle) ((desk_fits_is d).to q).1.0
  where
    go : (a : Bool) → pick a (eqb (desk_of d).blocks 0) (leb 1 (desk_of d).blocks && leb (desk_of d).blocks most_image_blocks) ≡ true → (desk_of d).blocks ≤ most_image_blocks
    go true x = let e = (r_eq (desk_of d).blocks 0).to x in omega arith
    go false x = ((r_and (r_le 1 (desk_of d).blocks) (r_le (desk_of d).blocks most_image_blocks)).to x).1

-- ---- a new image, of b blocks by its length
pub allowed_read : (n k b : ℕ) → b ≡ image_blocks n k → (x : Bool) → x ≡ allowed most_image_blocks n b k → x ≡ image_allowed n k
unfolding image_allowed
allowed_read n k b e x q = q ∙ ap (λ (y : ℕ). allowed most_image_blocks n y k) e

-- ---- the addresses of an image of n inodes: none is above b
module _ (long : ℕ → Bool) (m : List ℕ) (n b : ℕ) where
  -- the places of each inode are its direct addresses and those in its address block
  pub addresses_parts : addresses_right long m n b ≡ direct_right m n b && further_right long m n b
  addresses_parts =
      reflects_ext (r_all (most_blocks * n) (λ x. r_le (row_by long m n x) b))
      (r_says (λ t. join t.0 t.1) (λ h. (direct h, λ k l j g. subst (λ (v : ℕ). v ≤ b) (row_next long m n k (12 + j) (omega arith)) (h (44 * k + (12 + j)) (omega arith))))
      (r_and (r_all (address_count * n) (λ x. r_le (address_of m n x) b)) (r_all n (λ k. r_all further_count (λ j. r_le (kth_by (long (k + 1)) m n (k + 1) (address_count + j)) b)))))
    where
      direct : ((x : ℕ) → x < 44 * n → row_by long m n x ≤ b) → (x : ℕ) → x < 12 * n → address_of m n x ≤ b
      direct h x l = subst (λ (v : ℕ). v ≤ b) (row_direct long m n x) (h (44 * (x / 12) + x % 12) (omega arith))

      join : ((x : ℕ) → x < 12 * n → address_of m n x ≤ b) → ((k : ℕ) → k < n → (j : ℕ) → j < 32 → kth_by (long (k + 1)) m n (k + 1) (12 + j) ≤ b) → (x : ℕ) → x < 44 * n → row_by long m n x ≤ b
      join f g x l = subst (λ (v : ℕ). v ≤ b) (sym a) (go (dec_lt (x % 44) 12))
        where
          e : x ≡ 44 * (x / 44) + x % 44
          e = omega arith

          a : row_by long m n x ≡ kth_by (long (x / 44 + 1)) m n (x / 44 + 1) (x % 44)
          a = ap (row_by long m n) e ∙ row_next long m n (x / 44) (x % 44) (omega arith)

          go : Dec (x % 44 < 12) → kth_by (long (x / 44 + 1)) m n (x / 44 + 1) (x % 44) ≤ b
          go (yes q) = subst (λ (v : ℕ). v ≤ b) (sym (kth_direct (long (x / 44 + 1)) m n (x / 44 + 1) (x % 44) q)) (f (address_index (x / 44 + 1) (x % 44)) (omega arith))
          go (no q) =
              let z : 12 + (x % 44 - 12) ≡ x % 44 = omega arith in
              subst (λ (u : ℕ). kth_by (long (x / 44 + 1)) m n (x / 44 + 1) u ≤ b) z (g (x / 44) (omega arith) (x % 44 - 12) (omega arith))

-- the address block's number is a direct address
pub direct_place : (m : List ℕ) (n b : ℕ) → direct_right m n b ≡ true → (i : ℕ) → 1 ≤ i → i ≤ n → address_block m n i ≤ b
direct_place m n b h i l k = (r_all (address_count * n) (λ x. r_le (address_of m n x) b)).to h (address_index i address_place) (omega arith)

module _ (long : Bool) (m : List ℕ) (n b i : ℕ) where
  -- of an inode with no address block there are no more to look at
  pub entries_bare : address_block m n i ≡ 0 → true ≡ further_right_of long m n b i
  entries_bare z = sym (all_of _ further_count (λ j l. let e = kth_bare long m n i (12 + j) z (omega arith) (omega arith) in le-leb (kth_by long m n i (12 + j)) b (omega arith)))

  pub entries_short : long ≡ false → true ≡ further_right_of long m n b i
  entries_short q = sym (all_of _ further_count (λ j l. let e = kth_none long m n i (12 + j) q (omega arith) in le-leb (kth_by long m n i (12 + j)) b (omega arith)))

  -- of another the largest tells
  pub entries_most : long ≡ true → (a x : ℕ) → a ≡ address_block m n i → x ≡ most (further_of m n a) further_count → leb x b ≡ further_right_of long m n b i
  entries_most q a x e g =
      ap (λ (v : ℕ). leb v b) g
      ∙ most_within (further_of m n a) further_count b
      ∙ all_ext (λ j. leb (further_of m n a j) b) _ further_count (λ j l. ap (λ (v : ℕ). leb v b) (ap (λ (v : ℕ). further_of m n v j) e ∙ sym (kth_behind long m n i j q)))

-- ---- the locked inode
module _ (s : List ℕ) (l : ℕ) where
  pub locked_none : l ≡ 0 → false ≡ locked_long s l
  locked_none e = rw (eq-eqb l 0 e)

  pub locked_some : (l ≡ 0 → ⊥) → is_long s l ≡ locked_long s l
  locked_some e = rw (ne_eqb l 0 e)

  -- with none locked it makes no difference what is told of it
  pub told : (m : List ℕ) (i : ℕ) → 1 ≤ i → long_but m l (locked_long s l) i ≡ long_but m l (is_long s l) i
  unfolding long_but
  told m i h = go (ℕ_discrete l 0)
    where
      go : Dec (l ≡ 0) → pick (eqb i l) (locked_long s l) (is_long m i) ≡ pick (eqb i l) (is_long s l) (is_long m i)
      go (yes e) = rw (ne_eqb i l (λ z. omega arith))
      go (no e) = ap (λ (x : Bool). pick (eqb i l) x (is_long m i)) (sym (locked_some e))

  pub addresses_told : (m : List ℕ) (n b : ℕ) → addresses_right (long_but m l (locked_long s l)) m n b ≡ addresses_right (long_but m l (is_long s l)) m n b
  unfolding row_by
  addresses_told m n b = all_ext _ _ (most_blocks * n) (λ x h. ap (λ (y : Bool). leb (kth_by y m n (x / 44 + 1) (x % 44)) b) (told m (x / 44 + 1) (omega arith)))

-- ---- the rows of a running image: g is what the code has found of the store's locked inode
module _ (s m : List ℕ) (h : Desk) (g : Bool) (e : g ≡ locked_long s h.locked) where
  rows_addresses : addresses_right (long_but m h.locked g) m h.inodes h.blocks ≡ addresses_right (long_but m h.locked (is_long s h.locked)) m h.inodes h.blocks
  rows_addresses = ap (λ (y : Bool). addresses_right (long_but m h.locked y) m h.inodes h.blocks) e ∙ addresses_told s h.locked m h.inodes h.blocks

  pub rows_above : addresses_right (long_but m h.locked g) m h.inodes h.blocks ≡ false → false ≡ rows_right s m h
  rows_above q = sym (and_false_l _ _ (sym rows_addresses ∙ q))

  pub rows_lacking : addresses_right (long_but m h.locked g) m h.inodes h.blocks ≡ true → (x : Bool) → x ≡ addresses_lacking g m h.inodes h.locked h.transferred → not x ≡ rows_right s m h
  rows_lacking q x r = chain_end _ _ _ (sym rows_addresses ∙ q) (ap not (r ∙ ap (λ (y : Bool). addresses_lacking y m h.inodes h.locked h.transferred) e))

-- ---- the image of a running copy: t is its header as the code has read it
module _ (s m d : List ℕ) (h : Desk) (e : h ≡ desk_of d) where
  -- the desk's counts
  n_is : h.inodes ≡ (desk_of d).inodes
  n_is = ap (λ (z : Desk). z.inodes) e

  b_is : h.blocks ≡ (desk_of d).blocks
  b_is = ap (λ (z : Desk). z.blocks) e

  module _ (r : ℕ) (q : r ≡ store_length h.inodes h.blocks) where
    pub image_long_lem : (length m ≡ r → ⊥) → false ≡ image_fits s m d
    image_long_lem x = sym (r_fails (image_fits_is s m d) (λ t. let l = t.0 in let y = n_is in let z = b_is in x (omega arith)))

    -- an image of the right length can be read, beside a store that has as many inodes
    pub image_ready : Framed d → desk_fits d ≡ true → header_bytes + inode_bytes * (desk_of d).inodes ≤ length s → length m ≡ r
        → Sized m h.inodes h.blocks × (header_bytes + inode_bytes * h.inodes ≤ length s) × (h.locked ≤ h.inodes)
    image_ready f w a l =
        let k = f.most in
        let c = fits_few d w in
        let y = n_is in
        let z = b_is in
        let u = ((desk_fits_is d).to w).1.1.1.1.0 in
        let v = ap (λ (x : Desk). x.locked) e in
        (record { inodes = omega arith; blocks = omega arith; long = l ∙ q }, omega arith, omega arith)

  module _ (t : Header) (f : t ≡ header_of m) where
    header_is : Reflects (header_right t h) ((t.inodes ≡ h.inodes) × ((t.blocks ≡ h.blocks) × ((t.root ≡ root_inode) × (t.complete ≡ not_complete))))
    header_is = r_and (r_eq t.inodes h.inodes) (r_and (r_eq t.blocks h.blocks) (r_and (r_eq t.root root_inode) (r_eq t.complete not_complete)))

    pub image_other : header_right t h ≡ false → false ≡ image_fits s m d
    image_other x =
        sym
        (r_fails (image_fits_is s m d) (λ w.
        clash (header_right t h)
        (header_is.from (ap (λ (z : Header). z.inodes) f ∙ w.1.0 ∙ sym n_is, (ap (λ (z : Header). z.blocks) f ∙ w.1.1.0 ∙ sym b_is, (ap (λ (z : Header). z.root) f ∙ w.1.1.1.0, ap (λ (z : Header). z.complete) f ∙ w.1.1.1.1.0))))
        x))

    pub image_blocks_lem : (t.blocks ≡ h.blocks → ⊥) → false ≡ image_fits s m d
    image_blocks_lem x = image_other (r_fails header_is (λ w. x w.1.0))

    pub image_addresses : (r : ℕ) → r ≡ store_length h.inodes h.blocks → length m ≡ r → header_right t h ≡ true → rows_right s m h ≡ image_fits s m d
    unfolding image_fits lacks_addresses
    image_addresses r q l x =
        let y = n_is in
        let z = b_is in
        let k = header_is.to x in
        chain_end _ _ _ (eq-eqb (length m) (store_length (desk_of d).inodes (desk_of d).blocks) (omega arith))
        (chain_end _ _ _ (eq-eqb (header_of m).inodes (desk_of d).inodes (sym (ap (λ (z : Header). z.inodes) f) ∙ k.0 ∙ n_is))
        (chain_end _ _ _ (eq-eqb (header_of m).blocks (desk_of d).blocks (sym (ap (λ (z : Header). z.blocks) f) ∙ k.1.0 ∙ b_is))
        (chain_end _ _ _ (eq-eqb (header_of m).root root_inode (sym (ap (λ (z : Header). z.root) f) ∙ k.1.1.0))
        (chain_end _ _ _ (eq-eqb (header_of m).complete not_complete (sym (ap (λ (z : Header). z.complete) f) ∙ k.1.1.1))
        (ap (rows_right s m) e ∙ ap (λ (z : Bool). addresses_right (image_long s m d) m (desk_of d).inodes (desk_of d).blocks && not z) (and_assoc (not (eqb (desk_of d).locked 0)) (is_long s (desk_of d).locked) _))))))
