-- The bytes of a file change, and a sound store stays sound. n and b are the counts of inodes and blocks, i is a file.
use Prim.Native.Nat.{ℕ, ◌+◌, ◌*◌, ◌/◌, ◌%◌, ◌≤◌, ◌<◌}
use mathlib.Core.Path.{◌≡◌, sym, ap, ap₂, ◌∙◌, subst}
use mathlib.Core.Logic.{◌≢◌}
use mathlib.Core.Bool.{true, false}
use mathlib.Core.List.{List}
use native.Mathlib.Omega.{arith}
use borrow.Author.Tests.{eq-eqb, lt-ltb, le-ltb, ltb-true}
use lib.Dec.{eqb, ltb}
use lib.ListN.{get_or}
use Rattle.bounded.proofs.BoolLaws.{and_right, and-true, chain_end}
use Rattle.bounded.proofs.CaseLaws.{each_else}
use Rattle.layout.specs.Sizes.{block_bytes, most_blocks, most_direct_bytes}
use Rattle.layout.specs.declared.header.Header.{Header}
use Rattle.layout.specs.Inode.{kind_of, size_of, file_kind, directory_kind, is_file}
use Rattle.blocks.specs.Block.{block_of, blocks_used, bytes_place, is_long, kth_block, bytes_block}
use Rattle.blocks.specs.Fits.{BlockFits}
use Rattle.ledger.proofs.WriteLaws.{NoAddresses}
use Rattle.ledger.proofs.BytesLaws.{bytes_blocks, place_used, place_bytes, place_one}
use Rattle.sound.specs.Inode.{InodeSound}
use Rattle.sound.specs.Sound.{Sound}
use Rattle.sound.specs.Counted.{SoundStore}
use Rattle.sound.specs.declared.Form.TheVariants.{Store}
use Rattle.layout.proofs.KindLaws.{kind_some, kind_most, kind_is, kind_of_lem}
use Rattle.preservation.proofs.StoreLaws.{one_at, blocks_of_lem, data_at}
use Rattle.preservation.proofs.SameLaws.{same_body, SameInode, SameBlock, InBlock}
use Rattle.preservation.proofs.KeepLaws.{ZeroTail, body_of, inode_like, inode_kept, file_tree, sound_kept}
use Rattle.preservation.proofs.AddressLaws.{same_differ, same_unnamed}
use Rattle.growth.specs.Extend.{file_byte}
use Rattle.growth.proofs.FileFrame.{InFile}

-- ---- a sound store with a file i of o bytes or more
pub record Holds (s : List ℕ) (n b i o : ℕ) : Type 0 where
  pub sound : SoundStore s n b
  pub low : 1 ≤ i
  pub high : i ≤ n
  pub kind : kind_of s i ≡ file_kind
  pub size : o ≤ size_of s i

pub holds_less : {s : List ℕ} {n b i o : ℕ} (a : ℕ) → a ≤ o → Holds s n b i o → Holds s n b i a
holds_less a l h = record { sound = h.sound; low = h.low; high = h.high; kind = h.kind; size = let z = h.size in omega arith }

pub holds_of : {s : List ℕ} {n b i o : ℕ} → SoundStore s n b → is_file s n i ≡ true → o ≤ size_of s i → Holds s n b i o
holds_of {s} {n} {b} {i} h f l = record { sound = h; low = kind_some s n file_kind i f; high = kind_most s n file_kind i f; kind = kind_is s n file_kind i f; size = l }

pub holds_file : {s : List ℕ} {n b i o : ℕ} → Holds s n b i o → is_file s n i ≡ true
holds_file {s} {n} {b} {i} h = kind_of_lem s n file_kind i h.low h.high h.kind

-- ---- a file is long by its size
module _ (s : List ℕ) (i : ℕ) where
  pub long_over : is_long s i ≡ true → most_direct_bytes < size_of s i
  unfolding is_long
  long_over e = ltb-true most_direct_bytes (size_of s i) (and_right (eqb (kind_of s i) file_kind) (ltb most_direct_bytes (size_of s i)) e)

  module _ (k : kind_of s i ≡ file_kind) where
    pub over_long : most_direct_bytes < size_of s i → is_long s i ≡ true
    unfolding is_long
    over_long l = and-true _ _ (eq-eqb (kind_of s i) file_kind k) (lt-ltb most_direct_bytes (size_of s i) l)

    pub under_short : size_of s i ≤ most_direct_bytes → is_long s i ≡ false
    unfolding is_long
    under_short l = sym (chain_end _ _ _ (eq-eqb (kind_of s i) file_kind k) (sym (le-ltb most_direct_bytes (size_of s i) l)))

-- ---- the p-th block of bytes
module _ {s : List ℕ} {n b i o : ℕ} (h : Holds s n b i o) (p : ℕ) (u : block_bytes * p < size_of s i) where
  pub byte_place : bytes_place (size_of s i) p < blocks_used (size_of s i)
  byte_place = place_used (size_of s i) p (omega arith)

  pub byte_few : bytes_place (size_of s i) p < most_blocks
  byte_few = let l = byte_place in let f = (blocks_of_lem h.sound i h.low h.high).few in omega arith

  pub byte_fits : BlockFits s n (bytes_block s n i p)
  byte_fits = (blocks_of_lem h.sound i h.low h.high).blocks (bytes_place (size_of s i) p) byte_place

  -- it is no address block
  pub byte_none : NoAddresses (is_long s) s n (bytes_block s n i p)
  byte_none = data_at h.sound i (bytes_place (size_of s i) p) h.low h.high byte_place (λ e. place_bytes (size_of s i) p (long_over s i e))

-- where the inode stays
pub same_bytes : {s t : List ℕ} {n i : ℕ} → SameInode s t n i → (p : ℕ) → bytes_place (size_of s i) p < most_blocks → bytes_block t n i p ≡ bytes_block s n i p
same_bytes {s} {t} {n} {i} e p l = ap (λ (z : ℕ). kth_block t n i (bytes_place z p)) e.size ∙ e.blocks (bytes_place (size_of s i) p) l

-- ---- the bytes past a size
-- from z on, up to the end of the blocks in use
abbrev pub ZeroPast : List ℕ → ℕ → ℕ → ℕ → Type 0
ZeroPast s n i z = (x : ℕ) → z ≤ x → x < block_bytes * bytes_blocks z → file_byte s n i x ≡ 0

module _ (s : List ℕ) (n i : ℕ) where
  pub tail_past : ZeroTail s n i → kind_of s i ≡ file_kind → ZeroPast s n i (size_of s i)
  unfolding file_byte
  tail_past h k x l m =
      let q : x / 64 ≡ size_of s i / 64 = omega arith in
      ap (λ (a : ℕ). get_or (block_of s n (bytes_block s n i a)) (x % 64) 0) q ∙ h k (λ e. omega arith) (x % 64) (omega arith) (omega arith)

  pub past_tail : ZeroPast s n i (size_of s i) → ZeroTail s n i
  unfolding file_byte
  past_tail h k q o l m =
      let x : ℕ = 64 * (size_of s i / 64) + o in
      let a : size_of s i / 64 ≡ x / 64 = omega arith in
      let c : o ≡ x % 64 = omega arith in
      ap₂ (λ (j r : ℕ). get_or (block_of s n (bytes_block s n i j)) r 0) a c ∙ h x (omega arith) (omega arith)

-- ---- bytes of the p-th block of bytes change
module _ {s : List ℕ} (t : List ℕ) {n b i o : ℕ} (h : Holds s n b i o) (p : ℕ) (u : block_bytes * p < size_of s i) (g : InBlock s t n (bytes_block s n i p)) where
  abbrev place : ℕ
  place = bytes_place (size_of s i) p

  -- the other blocks in use stay
  other_block : (j a : ℕ) → 1 ≤ j → j ≤ n → a < blocks_used (size_of s j) → (j ≡ i → a ≡ place → ⊥) → SameBlock s t n (kth_block s n j a)
  other_block j a l m w e =
      g.others (kth_block s n j a) ((blocks_of_lem h.sound j l m).blocks a w).low
      (λ z. let r = one_at h.sound j a i place l m h.low h.high w (byte_place h p u) z in e r.0 r.1)

  -- and so do the bytes of the file in them
  pub other_byte : (x : ℕ) → x < block_bytes * bytes_blocks (size_of s i) → x / block_bytes ≢ p → file_byte t n i x ≡ file_byte s n i x
  unfolding file_byte
  other_byte x l q =
      let v : block_bytes * (x / 64) < size_of s i = omega arith in
      ap (λ (c : ℕ). get_or (block_of t n c) (x % 64) 0) (same_bytes (g.inodes i h.low h.high) (x / 64) (byte_few h (x / 64) v))
      ∙ ap (λ (z : List ℕ). get_or z (x % 64) 0) (other_block i (bytes_place (size_of s i) (x / 64)) h.low h.high (byte_place h (x / 64) v) (λ _ e. q (place_one (size_of s i) (x / 64) p e)))

  pub content_file : InFile s t n i (size_of s i)
  content_file =
      let e = g.inodes i h.low h.high in
      record {
        frame = g.frame;
        others = λ j l m _. g.inodes j l m;
        kind = e.kind;
        links = e.links;
        parent = e.parent;
        size = e.size;
        bytes = λ j a l m q w. other_block j a l m w (λ z _. q z);
      }

  pub content_sound : ZeroPast t n i (size_of s i) → Sound Store t
  content_sound w =
      let r = body_of h.sound in
      let v = h.kind in
      let e : (j : ℕ) → 1 ≤ j → j ≤ n → (a : ℕ) → a < most_blocks → kth_block t n j a ≡ kth_block s n j a = λ j l m. (g.inodes j l m).blocks in
      let d = g.inodes i h.low h.high in
      sound_kept h.sound g.frame
      (file_tree s t n i (λ j l m _. g.inodes j l m) d.kind d.links d.parent (λ z. omega arith)
      (λ c a l m z f. other_block c a l m f (λ a' _. let x : directory_kind ≡ file_kind = sym z ∙ ap (kind_of s) a' ∙ v in omega arith)))
      (λ j l m.
      each_else (InodeSound t n b) i j
      (inode_like s t n b i (same_body d) (λ _. (d.links, d.parent)) (λ _. d.parent) (past_tail t n i (subst (ZeroPast t n i) (sym d.size) w)) (r.inodes i h.low h.high))
      (λ z. inode_kept s t n b j (g.inodes j l m) (λ _ f. other_block j (bytes_place (size_of s j) (size_of s j / block_bytes)) l m (place_used (size_of s j) (size_of s j / 64) (omega arith)) (λ a _. z a)) (r.inodes j l m)))
      (same_differ s t n e r.once) (ap (λ (z : Header). z.free_inodes) g.header) (ap (λ (z : Header). z.free_blocks) g.header ∙ r.free_blocks ∙ sym (same_unnamed s t n e b))
