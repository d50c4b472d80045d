-- The stores between the writes of create, link, unlink and rename: what the next write asks of them. n and b are the counts of inodes and blocks.
use Rattle.std.specs.Prelude.{Ok, Some, None, Option}
use Prim.Native.Nat.{ℕ, ◌+◌, ◌*◌, ◌-◌, ◌/◌, ◌≤◌, ◌<◌}
use mathlib.Core.Path.{◌≡◌, refl, sym, ap, ◌∙◌, subst}
use mathlib.Core.Bool.{true}
use mathlib.Core.List.{List}
use native.Mathlib.Decide.{ℕ_discrete}
use native.Mathlib.Omega.{arith}
use borrow.Author.Tests.{eq-eqb, ne_eqb, le-leb, lt-leb}
use lib.ListN.{length}
use Rattle.bounded.proofs.CountLaws.{tally_le}
use Rattle.bounded.proofs.BoolLaws.{clash}
use Rattle.layout.specs.Sizes.{header_bytes, most_inodes, most_store_blocks, address_count}
use Rattle.layout.specs.declared.header.Header.{Header}
use Rattle.layout.specs.declared.inode.Inode.{Inode}
use Rattle.layout.specs.Header.{header_of, more_free}
use Rattle.layout.specs.Inode.{kind_of, links_of, size_of, inode_of, put_inode, put_links, put_attributes, directory_kind, is_directory, zero_inode, with_parent, free_inode}
use Rattle.blocks.specs.Block.{blocks_used, is_long, kth_block}
use Rattle.ledger.proofs.WriteLaws.{NoAddresses}
use Rattle.blocks.proofs.ViewLaws.{inode_fits}
use Rattle.blocks.proofs.FrameLaws.{length_inode}
use Rattle.layout.specs.Fits.{InodeFits}
use Rattle.blocks.specs.Fits.{Sized}
use Rattle.directory.specs.Slot.{slots, put_entry, clear_entry}
use Rattle.directory.proofs.SlotLaws.{length_put, fits_clear, slots_clear, length_clear}
use Rattle.directory.specs.Fits.{DirFits}
use Rattle.sound.specs.Sound.{Sound, inodes_in}
use Rattle.sound.specs.Counted.{SoundStore}
use Rattle.sound.specs.Place.{naming, IsDir}
use Rattle.sound.specs.declared.Form.TheVariants.{Store}
use Rattle.layout.proofs.KindLaws.{kind_some, kind_most}
use Rattle.preservation.proofs.StoreLaws.{same_counts, sized_at, fits, is_dir, dir_of_lem, dir_short, data_at, kind_fits}
use Rattle.preservation.proofs.SameLaws.{SameInode, put_entry_lem, clear_entry_lem}
use Rattle.preservation.proofs.KeepLaws.{same_slots, body_of}
use Rattle.preservation.proofs.FreeLaws.{free_inode_lem, inode_counted, free_block_lem, block_counted, few_free_inodes, few_free_blocks}
use Rattle.preservation.proofs.RecordLaws.{header_inode}
use Rattle.content.specs.Content.{add_block}
use Rattle.entries.specs.declared.Room.{Room}
use Rattle.entries.specs.declared.Kind.{Kind}
use Rattle.entries.specs.Room.{room_in, make_room}
use Rattle.entries.specs.Apply.{new_inode, enter, drop_link, set_parent}
use Rattle.entries.proofs.RoomLaws.{IsRoom, slot, block, is_room, Roomed, make_room_lem}

-- a sound store names an inode from no more places than it has
pub few_links : (s : List ℕ) → Sound Store s → (i : ℕ) → 1 ≤ i → i ≤ inodes_in s → links_of s i ≤ 12288
few_links s h i l m =
    let a = (h.links i l m).counted in
    let b = tally_le (naming s (inodes_in s)) (48 * inodes_in s) i in
    let c = h.framed.most_inodes_lem in
    omega arith

-- ---- the room in d
module _ (s : List ℕ) (n b d : ℕ) (r : Room) (h : SoundStore s n b) (k : is_directory s n d ≡ true) (e : room_in s n b d ≡ Ok r) where
  pub room_none : r.block ≡ None → s ≡ make_room s n d r
  unfolding make_room
  room_none q = rw q

  pub room_some : (c : ℕ) → r.block ≡ Some c → add_block s n d c ≡ make_room s n d r
  unfolding make_room
  room_some c q = rw q

  -- what taking the block asks
  pub record Takes (c : ℕ) : Type 0 where
    pub inode : InodeFits s n d
    pub sized : Sized s n b
    pub low : 1 ≤ c
    pub high : c ≤ b
    pub few : blocks_used (size_of s d) < address_count
    pub free : 1 ≤ (header_of s).free_blocks

  pub room_takes : (x : ℕ) → r.block ≡ Some x → Takes x
  room_takes x q = go (is_room s n b d r e)
    where
      go : IsRoom s n b d r → Takes x
      go (slot t f z) = let o : ◌≡◌ {A = Option ℕ} None (Some x) = sym (ap (λ (v : Room). v.block) z) ∙ q in absurd (let y : ◌≡◌ {A = ℕ} 0 1 = cc in omega arith)
      go (block c u f z) =
          let w = free_block_lem s n b c f in
          let o : ◌≡◌ {A = Option ℕ} (Some c) (Some x) = sym (ap (λ (v : Room). v.block) z) ∙ q in
          let y : c ≡ x = cc in
          subst Takes y
          (record { inode = kind_fits h directory_kind d k; sized = sized_at h; low = w.low; high = w.high; few = u; free = let f = (body_of h).free_blocks in let o = block_counted s n b c w in omega arith })

  -- t is the store with the room
  module _ (t : List ℕ) (q : t ≡ make_room s n d r) where
    pub roomed : Roomed s t n d r.slot
    roomed = subst (λ (z : List ℕ). Roomed s z n d r.slot) (sym q) (make_room_lem s n b d h k r e)

    pub roomed_sound : SoundStore t n b
    roomed_sound = same_counts h roomed.frame roomed.sound

    -- a directory of s
    module _ (f : ℕ) (j : is_directory s n f ≡ true) where
      pub roomed_is : IsDir t n f
      roomed_is =
          let w = is_dir s n f j in
          record { low = w.low; high = w.high; kind = roomed.tree.kinds f w.low w.high ∙ w.kind }

      pub roomed_dir : DirFits t n f
      roomed_dir = dir_of_lem roomed_sound f roomed_is

      pub roomed_slot : (v : ℕ) → v < slots s f → v < slots t f
      roomed_slot v l = go (ℕ_discrete f d)
        where
          go : Dec (f ≡ d) → v < slots t f
          go (yes z) = let a = roomed.more in let b : slots s f ≡ slots s d = ap (slots s) z in let c : slots t f ≡ slots t d = ap (slots t) z in omega arith
          go (no z) = let a = same_slots (roomed.others f (kind_some s n directory_kind f j) (kind_most s n directory_kind f j) z) in omega arith

-- ---- an entry put in slot v of d, or taken out
module _ (s : List ℕ) (n d v : ℕ) {b : ℕ} (h : SoundStore s n b) (k : IsDir s n d) (l : v < slots s d) where
  used : v / 4 < blocks_used (size_of s d)
  used = unfold slots in (let m = l in omega arith)

  in_block : 1 ≤ kth_block s n d (v / 4)
  in_block = ((dir_of_lem h d k).blocks (v / 4) used).low

  -- a block of entries holds no addresses
  none : NoAddresses (is_long s) s n (kth_block s n d (v / 4))
  none = data_at h d (v / 4) k.low k.high used (λ e. absurd (clash (is_long s d) e (dir_short s d k.kind)))

  pub put_header_lem : (i : ℕ) (name : List ℕ) → header_of (put_entry s n d v i name) ≡ header_of s
  put_header_lem i name = (put_entry_lem s n d v in_block none i name).header

  pub put_inodes : (i : ℕ) (name : List ℕ) (j : ℕ) → 1 ≤ j → j ≤ n → SameInode s (put_entry s n d v i name) n j
  put_inodes i name = (put_entry_lem s n d v in_block none i name).inodes

  pub clear_header : header_of (clear_entry s n d v) ≡ header_of s
  clear_header = (clear_entry_lem s n d v in_block none).header

-- ---- t is the sound store s with the entry in its room
module _ (s : List ℕ) (n b d : ℕ) (r : Room) (h : SoundStore s n b) (k : is_directory s n d ≡ true) (e : room_in s n b d ≡ Ok r) (i : ℕ) (name : List ℕ) (t : List ℕ) (q : t ≡ enter s n d r i name) where
  abbrev grown : List ℕ
  grown = make_room s n d r

  grown_is : Roomed s grown n d r.slot
  grown_is = make_room_lem s n b d h k r e

  entered_header : header_of t ≡ header_of grown
  unfolding enter
  entered_header = ap header_of q ∙ put_header_lem grown n d r.slot (roomed_sound s n b d r h k e grown refl) (roomed_is s n b d r h k e grown refl d k) grown_is.slot i name

  entered_length : length t ≡ length s
  unfolding enter
  entered_length = ap (length {A = ℕ}) q ∙ length_put grown n d r.slot i name ∙ grown_is.frame.long

  pub entered_fits : (j : ℕ) → 1 ≤ j → j ≤ n → InodeFits t n j
  entered_fits j l m = inode_fits s t n j entered_length (fits h j l m)

  pub entered_free : (header_of t).free_inodes ≡ (header_of s).free_inodes
  entered_free = ap (λ (v : Header). v.free_inodes) entered_header ∙ grown_is.free_inodes

  pub entered_links : (j : ℕ) → 1 ≤ j → j ≤ n → links_of t j ≡ links_of s j
  unfolding enter
  entered_links j l m =
      ap (λ (z : List ℕ). links_of z j) q
      ∙ (put_inodes grown n d r.slot (roomed_sound s n b d r h k e grown refl) (roomed_is s n b d r h k e grown refl d k) grown_is.slot i name j l m).links
      ∙ grown_is.tree.links j l m

-- ---- one link less
module _ (s : List ℕ) (n i : ℕ) where
  pub last_link : links_of s i ≤ 1 → more_free (put_inode s n i zero_inode) 1 (blocks_used (size_of s i)) ≡ drop_link s n i
  unfolding drop_link
  last_link l = rw (le-leb (links_of s i) 1 l)

  pub other_link : (x : ℕ) → x ≡ links_of s i → 1 < x → put_links s i (x - 1) ≡ drop_link s n i
  unfolding drop_link
  other_link x e l = rw (lt-leb (links_of s i) 1 (omega arith), e)

-- ---- a directory's parent, where v was read
module _ (s : List ℕ) (n i e : ℕ) (v : Inode) (q : v ≡ inode_of s n i) where
  kind_is : v.kind ≡ kind_of s i
  unfolding inode_of
  kind_is = ap (λ (w : Inode). w.kind) q

  pub parent_file : (v.kind ≡ directory_kind → ⊥) → s ≡ set_parent s n i e
  unfolding set_parent
  parent_file h = rw (ne_eqb (kind_of s i) directory_kind (λ x. h (kind_is ∙ x)))

  pub parent_directory : v.kind ≡ directory_kind → (w : Inode) (r : List ℕ) → w ≡ with_parent v e → r ≡ put_attributes s i w → r ≡ set_parent s n i e
  unfolding set_parent
  parent_directory h w r ew er = rw (eq-eqb (kind_of s i) directory_kind (sym kind_is ∙ h), er, ew, q)

-- the new inode written: one that is free is there to be counted off
pub create_counts : (s : List ℕ) (n b d : ℕ) (r : Room) → SoundStore s n b → is_directory s n d ≡ true → room_in s n b d ≡ Ok r → (i : ℕ) (name t : List ℕ) → t ≡ enter s n d r i name
    → free_inode s n ≡ Some i → (k : Kind) (u : List ℕ) → u ≡ put_inode t n i (new_inode k d) → (header_bytes ≤ length u) × (1 ≤ (header_of u).free_inodes)
create_counts s n b d r h g e i name t q f k u w =
    let o = free_inode_lem s n i f in
    let fit = entered_fits s n b d r h g e i name t q i o.low o.high in
    let a = ap (λ (z : List ℕ). (header_of z).free_inodes) w ∙ ap (λ (v : Header). v.free_inodes) (header_inode t n i o.low o.high (new_inode k d)) in
    let c = entered_free s n b d r h g e i name t q in
    let j = (body_of h).free_inodes in
    let v = inode_counted s n i f in
    let l : length u ≡ length t = ap (length {A = ℕ}) w ∙ length_inode t n i (new_inode k d) in
    let m = fit.area in
    (omega arith, omega arith)

-- ---- a move: t has the room in e, u has slot v of d empty too, w has the entry
module _ (s : List ℕ) (n b e : ℕ) (r : Room) (h : SoundStore s n b) (k : is_directory s n e ≡ true) (g : room_in s n b e ≡ Ok r) (t : List ℕ) (q : t ≡ make_room s n e r) (d v : ℕ) (u : List ℕ) (p : u ≡ clear_entry t n d v) where
  to_dir : DirFits t n e
  to_dir = roomed_dir s n b e r h k g t q e k

  pub moving_dir : DirFits u n e
  moving_dir = subst (λ (z : List ℕ). DirFits z n e) (sym p) (fits_clear t n d v e to_dir)

  pub moving_slot : r.slot < slots u e
  moving_slot =
      let a = (roomed s n b e r h k g t q).slot in
      let c = ap (λ (z : List ℕ). slots z e) p ∙ slots_clear t n d v e to_dir.inode.low to_dir.inode.high in
      omega arith

  pub moving_fits : (i : ℕ) (other w : List ℕ) → w ≡ put_entry u n e r.slot i other → (j : ℕ) → 1 ≤ j → j ≤ n → InodeFits w n j
  moving_fits i other w z j l m =
      let a = ap (length {A = ℕ}) z ∙ length_put u n e r.slot i other in
      let c = ap (length {A = ℕ}) p ∙ length_clear t n d v in
      let f = (roomed s n b e r h k g t q).frame.long in
      inode_fits s w n j (a ∙ c ∙ f) (fits h j l m)

-- ---- an unlink: t has slot v of d empty
module _ {s : List ℕ} {n b : ℕ} (h : SoundStore s n b) (d v : ℕ) (k : is_directory s n d ≡ true) (l : v < slots s d) (t : List ℕ) (q : t ≡ clear_entry s n d v) where
  pub record Cleared (i : ℕ) : Type 0 where
    pub inode : InodeFits t n i
    pub inodes : (header_of t).free_inodes ≤ most_inodes
    pub blocks : (header_of t).free_blocks ≤ most_store_blocks

  pub cleared : (i : ℕ) → 1 ≤ i → i ≤ n → Cleared i
  cleared i a b =
      let c = ap header_of q ∙ clear_header s n d v h (is_dir s n d k) l in
      let e = ap (λ (z : Header). z.free_inodes) c in
      let f = ap (λ (z : Header). z.free_blocks) c in
      let g = few_free_inodes s h.sound in
      let j = few_free_blocks s h.sound in
      record {
        inode = inode_fits s t n i (ap (length {A = ℕ}) q ∙ length_clear s n d v) (fits h i a b);
        inodes = omega arith;
        blocks = omega arith;
      }

-- ---- an inode freed: u is t with inode i written anew
module _ (t : List ℕ) (n i : ℕ) (f : InodeFits t n i) (a : (header_of t).free_inodes ≤ most_inodes) (b : (header_of t).free_blocks ≤ most_store_blocks) (v : Inode) (u : List ℕ) (q : u ≡ put_inode t n i v) where
  freed_header : header_of u ≡ header_of t
  freed_header = ap header_of q ∙ header_inode t n i f.low f.high v

  -- the counts have room for what is freed: m blocks
  pub freed_counts : (m : ℕ) → m ≤ most_store_blocks + 1 → (header_bytes ≤ length u) × ((header_of u).free_inodes + 1 < 65536) × ((header_of u).free_blocks + m < 65536)
  freed_counts m l =
      let c = ap (λ (z : Header). z.free_inodes) freed_header in
      let d = ap (λ (z : Header). z.free_blocks) freed_header in
      let e = ap (length {A = ℕ}) q ∙ length_inode t n i v in
      let k = f.area in
      (omega arith, omega arith, omega arith)

pub used_bound : (z : ℕ) → z < 65536 → blocks_used z ≤ most_store_blocks + 1
unfolding blocks_used
used_bound z l = omega arith
