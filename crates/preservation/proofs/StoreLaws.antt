-- What a sound store gives to the calls on it. n and b are the counts that the code has read.
use Prim.Native.Nat.{ℕ, ◌+◌, ◌-◌, ◌*◌, ◌≤◌, ◌<◌}
use mathlib.Core.Path.{◌≡◌, refl, sym, ◌∙◌, subst}
use mathlib.Core.Bool.{true, false}
use mathlib.Core.Logic.{◌≢◌}
use mathlib.Core.List.{List}
use native.Mathlib.Omega.{arith}
use borrow.Author.Tests.{ne_eqb}
use Rattle.directory.specs.Fits.{DirFits}
use Rattle.bounded.proofs.BoolLaws.{and_false_l}
use Rattle.layout.specs.Sizes.{most_image_blocks, most_file_bytes, most_blocks, address_place}
use Rattle.layout.specs.Inode.{kind_of, size_of, file_kind, directory_kind, is_kind, is_directory}
use Rattle.layout.specs.Fits.{InodeFits}
use Rattle.layout.proofs.KindLaws.{kind_some, kind_most, kind_is}
use Rattle.blocks.specs.Block.{is_long, blocks_used, kth_block, row_of}
use Rattle.blocks.specs.Free.{block_named}
use Rattle.blocks.specs.Fits.{Sized, BlocksFit}
use Rattle.ledger.proofs.Ledger.{Ledger}
use Rattle.blocks.proofs.KthLaws.{row_kth}
use Rattle.ledger.proofs.WriteLaws.{NoAddresses}
use Rattle.ledger.proofs.LedgerLaws.{Unnamed, free_none, data_none}
use Rattle.sound.specs.Place.{IsDir}
use Rattle.sound.specs.Sound.{Sound, inodes_in, blocks_in}
use Rattle.sound.specs.Counted.{SoundStore}
use Rattle.sound.proofs.FactLaws.{unnamed, sized, one_block, inode_fits, blocks_fit_lem, dir_fits, ledger_of, row_bound}
use Rattle.sound.proofs.SoundLaws.{size_most, size_directory}
use Rattle.sound.specs.declared.Form.TheVariants.{Store}
use Rattle.preservation.proofs.SameLaws.{SameFrame}

pub is_dir : (s : List ℕ) (n d : ℕ) → is_directory s n d ≡ true → IsDir s n d
is_dir s n d t = record { low = kind_some s n directory_kind d t; high = kind_most s n directory_kind d t; kind = kind_is s n directory_kind d t }

-- ---- a sound store
pub sound_store : {s : List ℕ} {n : ℕ} → Sound Store s → n ≡ inodes_in s → SoundStore s n (blocks_in s)
sound_store h e = record { sound = h; inodes = e; blocks = refl }

-- for what takes no count of blocks
pub uncounted : {s : List ℕ} {n b : ℕ} → SoundStore s n b → SoundStore s n (blocks_in s)
uncounted h = sound_store h.sound h.inodes

-- another with its frame has its counts
pub same_counts : {s t : List ℕ} {n b : ℕ} → SoundStore s n b → SameFrame s t → Sound Store t → SoundStore t n b
same_counts h f k = record { sound = k; inodes = h.inodes ∙ sym f.inodes; blocks = h.blocks ∙ sym f.blocks }

module _ {s : List ℕ} {n b : ℕ} (h : SoundStore s n b) where
  pub sized_at : Sized s n b
  sized_at = subst (λ (j : ℕ). Sized s j b) (sym h.inodes) (subst (Sized s (inodes_in s)) (sym h.blocks) (sized h.sound))

  pub fits : (i : ℕ) → 1 ≤ i → i ≤ n → InodeFits s n i
  fits i l m = let e = h.inodes in subst (λ (x : ℕ). InodeFits s x i) (sym e) (inode_fits h.sound i l (omega arith))

  pub blocks_of_lem : (i : ℕ) → 1 ≤ i → i ≤ n → BlocksFit s n i
  blocks_of_lem i l m = let e = h.inodes in subst (λ (x : ℕ). BlocksFit s x i) (sym e) (blocks_fit_lem h.sound i l (omega arith))

  pub dir_of_lem : (d : ℕ) → IsDir s n d → DirFits s n d
  dir_of_lem d k =
      let e = h.inodes in
      let m = k.high in
      subst (λ (x : ℕ). DirFits s x d) (sym e) (dir_fits h.sound d k.low (omega arith) (size_directory (h.sound.inodes d k.low (omega arith)) k.kind))

  pub rows_most : (x : ℕ) → x < most_blocks * n → row_of s n x ≤ most_image_blocks
  rows_most x l =
      let e = h.inodes in
      let m = h.sound.framed.most_blocks_lem in
      let q = row_bound h.sound x (omega arith) in
      subst (λ (y : ℕ). row_of s y x ≤ most_image_blocks) (sym e) (omega arith)

  pub ledger_at : Ledger (is_long s) (λ i. blocks_used (size_of s i)) s n b
  ledger_at =
      subst (λ (x : ℕ). Ledger (is_long s) (λ i. blocks_used (size_of s i)) s x b) (sym h.inodes)
      (subst (Ledger (is_long s) (λ i. blocks_used (size_of s i)) s (inodes_in s)) (sym h.blocks) (ledger_of h.sound))

  -- ---- blocks that hold no addresses: those of bytes, and free ones
  pub data_at : (i k : ℕ) → 1 ≤ i → i ≤ n → k < blocks_used (size_of s i) → (is_long s i ≡ true → k ≢ address_place) → NoAddresses (is_long s) s n (kth_block s n i k)
  data_at i k l m u f = let w = (blocks_of_lem i l m).few in data_none ledger_at i k l m (omega arith) u f

  -- no block is two inodes' or twice one's
  pub one_at : (i k j a : ℕ) → 1 ≤ i → i ≤ n → 1 ≤ j → j ≤ n → k < blocks_used (size_of s i) → a < blocks_used (size_of s j) → kth_block s n i k ≡ kth_block s n j a → (i ≡ j) × (k ≡ a)
  one_at i k j a l m p q u w f =
      let e = h.inodes in
      one_block h.sound i k j a l (omega arith) p (omega arith) u w (subst (λ (z : ℕ). kth_block s z i k ≡ kth_block s z j a) e f)

  -- an inode of a kind
  module _ (k i : ℕ) (t : is_kind s n k i ≡ true) where
    pub kind_fits : InodeFits s n i
    kind_fits = fits i (kind_some s n k i t) (kind_most s n k i t)

    pub kind_blocks : BlocksFit s n i
    kind_blocks = blocks_of_lem i (kind_some s n k i t) (kind_most s n k i t)

    pub kind_size : size_of s i ≤ most_file_bytes
    kind_size = let e = h.inodes in let m = kind_most s n k i t in size_most (h.sound.inodes i (kind_some s n k i t) (omega arith))

  -- a directory
  pub kind_dir : (d : ℕ) → is_directory s n d ≡ true → DirFits s n d
  kind_dir d t = dir_of_lem d (is_dir s n d t)

-- a block that no inode has
pub no_one : (s : List ℕ) (n c : ℕ) → block_named s n c ≡ false → Unnamed (is_long s) s n c
no_one s n c e j k l m q z = unnamed s n c e (most_blocks * (j - 1) + k) (omega arith) (row_kth (is_long s) s n j k l q ∙ z)

pub free_at : (s : List ℕ) (n c : ℕ) → block_named s n c ≡ false → NoAddresses (is_long s) s n c
free_at s n c e = free_none (is_long s) s n c (no_one s n c e)

-- a directory has no address block
pub dir_short : (s : List ℕ) (d : ℕ) → kind_of s d ≡ directory_kind → is_long s d ≡ false
unfolding is_long
dir_short s d e = and_false_l _ _ (ne_eqb (kind_of s d) file_kind (λ z. omega arith))
