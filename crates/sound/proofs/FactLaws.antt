-- What a sound store gives, and which blocks are named. n and b are the counts of inodes and blocks.
use Prim.Native.Nat.{ℕ, ◌*◌, ◌≤◌, ◌<◌}
use mathlib.Core.Path.{◌≡◌, sym, ◌∙◌}
use mathlib.Core.Bool.{false}
use mathlib.Core.List.{List}
use native.Mathlib.Omega.{arith}
use Rattle.bounded.specs.Reflect.{Reflects}
use Rattle.bounded.proofs.CountLaws.{met_once}
use Rattle.bounded.proofs.ReflectLaws.{r_eq, r_some, r_no}
use Rattle.layout.specs.Sizes.{most_blocks, most_directory_bytes, most_image_blocks, root_inode}
use Rattle.layout.specs.Inode.{kind_of, size_of, directory_kind}
use Rattle.blocks.specs.Block.{is_long, blocks_used, kth_block, row_of}
use Rattle.blocks.specs.Free.{named_by, block_named}
use Rattle.layout.specs.Fits.{InodeFits}
use Rattle.blocks.specs.Fits.{Sized, BlocksFit}
use Rattle.ledger.proofs.Ledger.{Ledger}
use Rattle.ledger.proofs.LedgerLaws.{one_kth}
use Rattle.ledger.proofs.TallyLaws.{ledger_bound}
use Rattle.directory.specs.Slot.{most_slots}
use Rattle.directory.specs.Fits.{DirFits}
use Rattle.sound.specs.Sound.{inodes_in, blocks_in, Sound, limit_of}
use Rattle.sound.specs.Place.{naming, IsDir}
use Rattle.sound.proofs.PlaceLaws.{naming_filled}
use Rattle.sound.proofs.SoundLaws.{size_most, InParent, in_parent, all_counted}
use Rattle.sound.specs.declared.Form.{Form}
use Rattle.sound.specs.declared.Form.TheVariants.{Store, Image}

-- ---- the blocks that some address names
module _ (s : List ℕ) (n c : ℕ) where
  pub named_is : Reflects (block_named s n c) ((x : ℕ) × (x < most_blocks * n) × (row_of s n x ≡ c))
  unfolding named_by
  named_is = r_some (most_blocks * n) (λ x. r_eq (row_of s n x) c)

  pub unnamed : block_named s n c ≡ false → (x : ℕ) → x < most_blocks * n → row_of s n x ≡ c → ⊥
  unnamed e x l q = r_no named_is e (x, l, q)

-- no form allows more blocks than an image may have
pub limit_few : (f : Form) → limit_of f ≤ most_image_blocks
limit_few Store = omega arith
limit_few Image = omega arith

module _ {f : Form} {s : List ℕ} (h : Sound f s) where
  -- ---- lengths and sizes
  pub sized : Sized s (inodes_in s) (blocks_in s)
  sized = let w = h.framed in let l = limit_few f in record { inodes = w.most_inodes_lem; blocks = omega (arith, w.most_blocks_lem); long = w.long }

  module _ (i : ℕ) (l : 1 ≤ i) (m : i ≤ inodes_in s) where
    pub inode_fits : InodeFits s (inodes_in s) i
    inode_fits = let w = h.framed in record { low = l; high = m; few = w.most_inodes_lem; area = omega (arith, w.long) }

    pub used_few : blocks_used (size_of s i) ≤ most_blocks
    unfolding blocks_used
    used_few = let z = size_most (h.inodes i l m) in omega arith

    pub used_block : (k : ℕ) → k < blocks_used (size_of s i) → (1 ≤ kth_block s (inodes_in s) i k) × (kth_block s (inodes_in s) i k ≤ blocks_in s)
    used_block k u = let w = used_few in (h.inodes i l m).used k (omega arith) u

    pub blocks_fit_lem : BlocksFit s (inodes_in s) i
    blocks_fit_lem =
        record {
          inode = inode_fits;
          few = used_few;
          blocks = λ k u. let f = h.framed in let r = used_block k u in record { low = r.0; inside = omega arith };
        }

    -- of no more bytes than a directory may have
    pub dir_fits : size_of s i ≤ most_directory_bytes → DirFits s (inodes_in s) i
    unfolding blocks_used
    dir_fits z = record { inode = inode_fits; few = omega arith; blocks = blocks_fit_lem.blocks }

  -- ---- which inode has which blocks
  pub ledger_of : Ledger (is_long s) (λ i. blocks_used (size_of s i)) s (inodes_in s) (blocks_in s)
  ledger_of = record {
    used = λ i k a c l m. (h.inodes i a c).used k l m;
    rest = λ i k a c l m. (h.inodes i a c).rest k l m;
    once = h.once;
  }

  pub row_bound : (x : ℕ) → x < most_blocks * inodes_in s → row_of s (inodes_in s) x ≤ blocks_in s
  row_bound = ledger_bound ledger_of

  -- a block that two inodes have, or one twice, is one
  pub one_block : (i k j l : ℕ) → 1 ≤ i → i ≤ inodes_in s → 1 ≤ j → j ≤ inodes_in s
      → k < blocks_used (size_of s i) → l < blocks_used (size_of s j)
      → kth_block s (inodes_in s) i k ≡ kth_block s (inodes_in s) j l → (i ≡ j) × (k ≡ l)
  one_block i k j l a b c d u v e =
      let p = used_few i a b in
      let q = used_few j c d in
      one_kth ledger_of i k j l a b c d (omega arith) (omega arith) (used_block i a b k u).0 e

  -- ---- directories and their entries
  -- but the root, each has an entry, in its parent
  pub naming_dir : (i : ℕ) → IsDir s (inodes_in s) i → (i ≡ root_inode → ⊥) → (p : ℕ) × InParent s (inodes_in s) i p
  naming_dir = in_parent s (inodes_in s) h.entries (all_counted h)

  -- and no other
  pub named_once : (i p q : ℕ) → 1 ≤ i → kind_of s i ≡ directory_kind → p < most_slots * inodes_in s → q < most_slots * inodes_in s → naming s (inodes_in s) p ≡ i → naming s (inodes_in s) q ≡ i → p ≡ q
  named_once i p q a k l m d e =
      let r = h.entries p l (naming_filled s (inodes_in s) p (omega arith)) in
      let b = r.high in
      let c = h.links i a (omega arith) in
      met_once (naming s (inodes_in s)) (most_slots * inodes_in s) p q i (sym c.counted ∙ c.one k (λ z. r.not_root (d ∙ z))) l m d e
