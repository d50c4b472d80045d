-- A file gets another size on the blocks that it has, and takes the blocks that it needs. n and b are the counts of inodes and blocks, i is the file.
use Prim.Native.Nat.{ℕ, ◌+◌, ◌-◌, ◌/◌, ◌%◌, ◌≤◌, ◌<◌}
use mathlib.Core.Path.{◌≡◌, sym, ap, ◌∙◌, subst}
use mathlib.Core.Bool.{Bool}
use mathlib.Core.List.{List}
use native.Mathlib.Decide.{ℕ_discrete, dec_lt}
use native.Mathlib.Omega.{arith}
use borrow.Author.Tests.{eq-eqb, ne_eqb}
use lib.ListN.{get_or}
use Rattle.bounded.proofs.CaseLaws.{each_else}
use Rattle.layout.specs.Sizes.{block_bytes, most_blocks, most_direct_bytes, most_file_bytes}
use Rattle.layout.specs.declared.header.Header.{Header}
use Rattle.layout.specs.declared.inode.Inode.{Inode}
use Rattle.layout.specs.Header.{header_of}
use Rattle.layout.specs.Inode.{kind_of, size_of, inode_of, put_attributes, with_size}
use Rattle.blocks.specs.Block.{block_of, blocks_used, bytes_place, is_long, kth_by, kth_block, bytes_block}
use Rattle.layout.specs.Fits.{InodeFits}
use Rattle.ledger.proofs.BytesLaws.{bytes_blocks, used_short, used_long, place_used, place_alike, used_up}
use Rattle.sound.specs.Inode.{InodeSound}
use Rattle.sound.specs.Sound.{Sound}
use Rattle.sound.proofs.SoundLaws.{most_file}
use Rattle.sound.specs.declared.Form.TheVariants.{Store}
use Rattle.preservation.proofs.StoreLaws.{fits, same_counts}
use Rattle.preservation.proofs.SameLaws.{InInode, NewInode, put_attributes_lem, attributes_new, attributes_blocks}
use Rattle.preservation.proofs.KeepLaws.{Body, body_of, inode_kept, file_tree, sound_kept}
use Rattle.preservation.proofs.AddressLaws.{same_differ, same_unnamed}
use Rattle.growth.specs.Extend.{put_size, extended}
use Rattle.growth.proofs.FileFrame.{InFile}
use Rattle.growth.proofs.TakenLaws.{taken_keeps, taken_file}
use Rattle.content.proofs.FileLaws.{Holds, over_long, under_short}

-- two sizes of as many blocks are on one side of the edge
module _ (y z : ℕ) (e : blocks_used z ≡ blocks_used y) where
  pub side : most_direct_bytes < y → most_direct_bytes < z
  side l = go (dec_lt 768 z)
    where
      go : Dec (768 < z) → 768 < z
      go (yes a) = a
      go (no a) = let u = used_long y l in let w = used_short z (omega arith) in absurd (omega arith)

pub same_blocks : (y z : ℕ) → blocks_used z ≡ blocks_used y → bytes_blocks z ≡ bytes_blocks y
same_blocks y z e = go (dec_lt 768 y)
  where
    go : Dec (768 < y) → bytes_blocks z ≡ bytes_blocks y
    go (yes a) = let u = used_long y a in let w = used_long z (side y z e a) in omega arith
    go (no a) = let u = used_short y (omega arith) in let w = used_short z (short (dec_lt 768 z)) in omega arith
      where
        short : Dec (768 < z) → z ≤ 768
        short (yes d) = let x = side z y (sym e) d in absurd (omega arith)
        short (no d) = omega arith

-- ---- another size on the same blocks
module _ {s : List ℕ} {n b i o : ℕ} (h : Holds s n b i o) (z : ℕ) (more : size_of s i ≤ z) (most : z ≤ most_file_bytes) (same : blocks_used z ≡ blocks_used (size_of s i)) where
  abbrev y : ℕ
  y = size_of s i

  abbrev v : Inode
  v = with_size (inode_of s n i) z

  abbrev t : List ℕ
  t = put_attributes s i v

  fit : InodeFits s n i
  fit = fits h.sound i h.low h.high

  write : InInode s t n i
  write = put_attributes_lem s n i fit v

  new : NewInode t i v
  new = attributes_new s n i fit v

  body : Body s n b
  body = body_of h.sound

  kindₜ : kind_of t i ≡ kind_of s i
  unfolding inode_of
  kindₜ = new.kind

  sizeₜ : size_of t i ≡ z
  sizeₜ = new.size

  -- long as it was
  long : is_long t i ≡ is_long s i
  long = go (dec_lt 768 y)
    where
      go : Dec (768 < y) → is_long t i ≡ is_long s i
      go (yes a) = let e = sizeₜ in let d = side y z same a in over_long t i (kindₜ ∙ h.kind) (omega arith) ∙ sym (over_long s i h.kind a)
      go (no a) = let e = sizeₜ in under_short t i (kindₜ ∙ h.kind) (short (dec_lt 768 z)) ∙ sym (under_short s i h.kind (omega arith))
        where
          short : Dec (768 < z) → size_of t i ≤ 768
          short (yes d) = let x = side z y (sym same) d in absurd (omega arith)
          short (no d) = let x = sizeₜ in omega arith

  kth : (u : ℕ) → u < most_blocks → kth_block t n i u ≡ kth_block s n i u
  kth u l = ap (λ (x : Bool). kth_by x t n i u) long ∙ attributes_blocks s n i fit v (is_long s i) u l

  all : (j : ℕ) → 1 ≤ j → j ≤ n → (u : ℕ) → u < most_blocks → kth_block t n j u ≡ kth_block s n j u
  all j l m u w = elim (ℕ_discrete j i) as (λ _. kth_block t n j u ≡ kth_block s n j u) [
    | yes e ↦ subst (λ (x : ℕ). kth_block t n x u ≡ kth_block s n x u) (sym e) (kth u w)
    | no e ↦ (write.others j l m e).blocks u w
  ]

  used : blocks_used (size_of t i) ≡ blocks_used y
  used = ap blocks_used sizeₜ ∙ same

  tail : (size_of t i % block_bytes ≡ 0 → ⊥) → (x : ℕ) → x < block_bytes → size_of t i % block_bytes ≤ x → get_or (block_of t n (bytes_block t n i (size_of t i / block_bytes))) x 0 ≡ 0
  tail q x l r =
      let e = sizeₜ in
      let d = same_blocks y z same in
      let p : z / 64 ≡ y / 64 = omega arith in
      let k = place_used y (y / 64) (omega arith) in
      let m = blocks_used y in
      let c : bytes_block t n i (size_of t i / 64) ≡ bytes_block s n i (y / 64) =
      ap (λ (a : ℕ). kth_block t n i (bytes_place a (a / 64))) sizeₜ
      ∙ ap (kth_block t n i) (place_alike y z (z / 64) (side y z same) (side z y (sym same)) ∙ ap (bytes_place y) p)
      ∙ kth (bytes_place y (y / 64)) (let f = few in omega arith) in
      ap (λ (a : ℕ). get_or (block_of t n a) x 0) c
      ∙ ap (λ (a : List ℕ). get_or a x 0) (write.bytes (bytes_block s n i (y / 64)))
      ∙ (body.inodes i h.low h.high).tail h.kind (λ w. omega arith) x l (omega arith)
    where
      few : blocks_used y ≤ most_blocks
      few = go (dec_lt 768 y)
        where
          go : Dec (768 < y) → blocks_used y ≤ 44
          go (yes a) = let u = used_long y a in omega arith
          go (no a) = let u = used_short y (omega arith) in omega arith

  inodeₜ : InodeSound t n b i
  unfolding inode_of
  inodeₜ =
      let r = body.inodes i h.low h.high in
      let e = sizeₜ in
      let u = used in
      let k = kindₜ ∙ h.kind in
      record {
        kind = omega arith;
        spare = new.spare;
        free = λ d. absurd (omega arith);
        size = omega (arith, most_file (kind_of t i) k);
        used = λ a l w. rw (kth a l) (r.used a l (omega arith));
        rest = λ a l w. kth a l ∙ r.rest a l (omega arith);
        directory = λ d. absurd (omega arith);
        tail = λ _. tail;
        parent = λ _. new.parent ∙ r.parent h.kind;
      }

  pub size_sound : Sound Store (put_size s n i z)
  unfolding put_size inode_of
  size_sound =
      let v = h.kind in
      sound_kept h.sound write.frame
      (file_tree s t n i write.others kindₜ new.links new.parent (λ x. omega arith) (λ d u _ _ _ _. write.bytes (kth_block s n d u)))
      (λ j l m. each_else (InodeSound t n b) i j inodeₜ (λ q. inode_kept s t n b j (write.others j l m q) (λ _ _. write.bytes _) (body.inodes j l m)))
      (same_differ s t n all body.once) (ap (λ (x : Header). x.free_inodes) write.header) (ap (λ (x : Header). x.free_blocks) write.header ∙ body.free_blocks ∙ sym (same_unnamed s t n all b))

  pub size_file : InFile s (put_size s n i z) n i z
  unfolding put_size inode_of
  size_file = record { frame = write.frame; others = write.others; kind = new.kind; links = new.links; parent = new.parent; size = new.size; bytes = λ j u _ _ _ _. write.bytes (kth_block s n j u) }

-- ---- with the blocks that it needs
module _ {s : List ℕ} {n b i o : ℕ} (h : Holds s n b i o) (z : ℕ) (more : size_of s i ≤ z) (most : z ≤ most_file_bytes) (left : blocks_used z - blocks_used (size_of s i) ≤ (header_of s).free_blocks) where
  count : blocks_used z ≡ blocks_used (size_of s i) + (blocks_used z - blocks_used (size_of s i))
  count = let u = used_up (size_of s i) z more in omega arith

  pub extended_sound : Sound Store (extended s n b i z)
  unfolding extended
  extended_sound = elim (ℕ_discrete (blocks_used z - blocks_used (size_of s i)) 0) as (λ _. Sound Store (extended s n b i z)) [
    | yes e ↦ rw (eq-eqb (blocks_used z - blocks_used (size_of s i)) 0 e) (size_sound h z more most (let u = used_up (size_of s i) z more in omega arith))
    | no e ↦ rw (ne_eqb (blocks_used z - blocks_used (size_of s i)) 0 e) (taken_keeps h.sound i h.low h.high h.kind z (blocks_used z - blocks_used (size_of s i)) more most count left)
  ]

  pub extended_file : InFile s (extended s n b i z) n i z
  unfolding extended
  extended_file = elim (ℕ_discrete (blocks_used z - blocks_used (size_of s i)) 0) as (λ _. InFile s (extended s n b i z) n i z) [
    | yes e ↦ rw (eq-eqb (blocks_used z - blocks_used (size_of s i)) 0 e) (size_file h z more most (let u = used_up (size_of s i) z more in omega arith))
    | no e ↦ rw (ne_eqb (blocks_used z - blocks_used (size_of s i)) 0 e) (taken_file h.sound i h.low h.high h.kind z (blocks_used z - blocks_used (size_of s i)) more most count left)
  ]

  pub extended_holds : Holds (extended s n b i z) n b i z
  extended_holds =
      let g = extended_file in
      let e = g.size in
      record { sound = same_counts h.sound g.frame extended_sound; low = h.low; high = h.high; kind = g.kind ∙ h.kind; size = omega arith }
