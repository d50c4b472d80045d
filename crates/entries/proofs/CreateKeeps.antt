-- A create keeps a store sound. n is the inode count.
use Rattle.std.specs.Prelude.{None, Some}
use Prim.Native.Nat.{ℕ, ◌-◌, ◌*◌, ◌≤◌, ◌<◌}
use mathlib.Core.Path.{◌≡◌, refl, sym, ap, ◌∙◌}
use mathlib.Core.Bool.{true, false}
use mathlib.Core.List.{List}
use native.Mathlib.Omega.{arith}
use lib.ListN.{replicate}
use Rattle.bounded.proofs.BoolLaws.{fails}
use Rattle.bounded.proofs.TallyLaws.{one_same, one_other}
use Rattle.layout.specs.Sizes.{address_count}
use Rattle.layout.specs.Header.{header_of, less_free}
use Rattle.layout.specs.declared.header.Header.{Header}
use Rattle.layout.specs.declared.inode.Inode.{Inode}
use Rattle.layout.specs.Inode.{kind_of, size_of, put_inode, free_kind, file_kind, directory_kind, is_directory, free_inode}
use Rattle.blocks.proofs.FrameLaws.{length_inode}
use Rattle.blocks.proofs.ViewLaws.{inode_fits}
use Rattle.layout.specs.Fits.{InodeFits}
use Rattle.names.specs.Name.{legal_name}
use Rattle.directory.specs.Slot.{most_slots, slots, find_slot, slot_empty, put_entry}
use Rattle.sound.specs.Place.{dir_of, filled, place_of}
use Rattle.sound.specs.Sound.{Sound}
use Rattle.sound.specs.Counted.{SoundStore}
use Rattle.sound.proofs.PlaceLaws.{slot_is, filled_is, place_dir}
use Rattle.sound.specs.declared.Form.TheVariants.{Store}
use Rattle.preservation.proofs.SameLaws.{OtherInodes, NewInode, frame_then, inode_then, InCounts, less_free_lem}
use Rattle.preservation.proofs.KeepLaws.{body_of}
use Rattle.preservation.proofs.StoreLaws.{fits}
use Rattle.preservation.proofs.FreeLaws.{free_inode_lem}
use Rattle.preservation.proofs.RecordLaws.{header_inode}
use Rattle.preservation.proofs.ChangeLaws.{Filled, filled_then, names_filled}
use Rattle.preservation.proofs.TreeLaws.{Tree, tree_create}
use Rattle.preservation.proofs.SoundTreeLaws.{nodes_of, nodes_else, names_at, above_at, tree_at}
use Rattle.preservation.proofs.EntryWriteLaws.{EntriesAlone, entries_stay, SlotIn, slot_in, place_below, put_alone, put_filled}
use Rattle.preservation.proofs.SlotPlaceLaws.{absent_new, place_bare}
use Rattle.preservation.proofs.StockLaws.{Stock, entries_stock, stock_sound}
use Rattle.preservation.proofs.BaredLaws.{Bared, put_bared, bared_places, bared_unnamed, bared_free, bared_stock, no_blocks}
use Rattle.entries.specs.declared.Kind.{Kind}
use Rattle.entries.specs.declared.Kind.TheVariants.{File, Directory}
use Rattle.entries.specs.Apply.{new_inode}

-- ---- the new inode
pub new_addresses : (k : Kind) (d : ℕ) → (new_inode k d).addresses ≡ replicate address_count 0
new_addresses File d = refl
new_addresses Directory d = refl

pub new_size : (k : Kind) (d : ℕ) → (new_inode k d).size ≡ 0
new_size File d = refl
new_size Directory d = refl

pub new_links : (k : Kind) (d : ℕ) → (new_inode k d).links ≡ 1
new_links File d = refl
new_links Directory d = refl

-- it is a file or a directory
pub new_some : (k : Kind) (d : ℕ) → 1 ≤ (new_inode k d).kind
new_some File d = omega arith
new_some Directory d = omega arith

pub new_most : (k : Kind) (d : ℕ) → (new_inode k d).kind ≤ directory_kind
new_most File d = omega arith
new_most Directory d = omega arith

pub new_file : (k : Kind) (d : ℕ) → (new_inode k d).kind ≡ file_kind → (new_inode k d).parent ≡ 0
new_file File d e = refl
new_file Directory d e = absurd (omega arith)

pub new_parent : (k : Kind) (d : ℕ) → (new_inode k d).kind ≡ directory_kind → (new_inode k d).parent ≡ d
new_parent File d e = absurd (omega arith)
new_parent Directory d e = refl

module _ (s : List ℕ) (n d t i : ℕ) (k : Kind) (name : List ℕ) {b : ℕ} (h : SoundStore s n b)
    (dir : is_directory s n d ≡ true) (new : free_inode s n ≡ Some i) (inside : t < slots s d) (empty : slot_empty s n d t ≡ true)
    (legal : legal_name name ≡ true) (absent : find_slot s n d name ≡ None) where
  low : 1 ≤ i
  low = (free_inode_lem s n i new).low

  high : i ≤ n
  high = (free_inode_lem s n i new).high

  slot : SlotIn s n d t
  slot = slot_in h d t dir inside

  abbrev p : ℕ
  p = place_of d t

  -- with the entry
  abbrev m : List ℕ
  m = put_entry s n d t i name

  alone : EntriesAlone s m n
  alone = put_alone h (entries_stay s n) slot i name low

  stock : Stock m n b
  stock = entries_stock s m n b (body_of h) alone

  there : InodeFits m n i
  there = inode_fits s m n i alone.frame.long (fits h i low high)

  free : kind_of m i ≡ free_kind
  free = (alone.inodes i low high).kind ∙ (free_inode_lem s n i new).kind

  -- with the inode, and with the free counts
  abbrev v : Inode
  v = new_inode k d

  abbrev u : List ℕ
  u = put_inode m n i v

  abbrev w : List ℕ
  w = less_free u 1 0

  counts : InCounts u w n ((header_of u).free_inodes - 1) ((header_of u).free_blocks - 0)
  counts = let l = there.area in let e = length_inode m n i v in less_free_lem u n (omega arith) 1 0

  header : header_of u ≡ header_of m
  header = header_inode m n i low high v

  bared : Bared m w n i v
  bared = put_bared m w n i ((header_of u).free_inodes - 1) ((header_of u).free_blocks - 0) v there (new_addresses k d) counts

  used : v.kind ≡ free_kind → ⊥
  used e = let l = new_some k d in omega arith

  -- no entry stood in i
  bare : (q : ℕ) → q < most_slots * n → dir_of q ≡ i → filled m n q ≡ false
  bare q l e = fails (filled m n q) (λ z. let g = ((slot_is m q).to ((filled_is m n q).to z).0).0 in let f = ap (kind_of m) e ∙ free in omega arith)

  -- what it changes: the entry in slot t, and inode i, which is new
  pub create_filled : Filled s w n p i name
  create_filled = filled_then (place_below slot) (bared_places m w n i v bared (new_size k d) bare) (put_filled h (entries_stay s n) slot i name low)

  pub create_others : OtherInodes s w n i
  create_others j l r z = inode_then (alone.inodes j l r) (bared.others j l r z)

  pub create_new : NewInode w i (new_inode k d)
  create_new = bared.new

  after : Stock w n b
  after =
      let f = bared_free m w n i v bared (new_size k d) b low high stock (new_most k d) (λ e. absurd (used e)) (new_file k d) in
      let g = bared_unnamed m w n i v bared (new_size k d) b low high stock (new_most k d) (λ e. absurd (used e)) (new_file k d) in
      let a = one_same (kind_of m i) free_kind free in
      let o = one_other v.kind free_kind used in
      let y = no_blocks (size_of m i) ((stock.inodes i low high).free free).1.0 in
      let c = ap (λ (o : Header). o.free_inodes) header in
      let e = ap (λ (o : Header). o.free_blocks) header in
      let p = stock.free_inodes in
      let q = stock.free_blocks in
      bared_stock m w n i v bared (new_size k d) b low high stock (new_most k d) (λ e. absurd (used e)) (new_file k d)
      (counts.free_inodes ∙ omega arith) (counts.free_blocks ∙ omega arith)

  tree : Tree n (nodes_of w n)
  tree =
      let o = create_others in
      let r = create_new in
      let f = (free_inode_lem s n i new).kind in
      tree_create n i (nodes_of s n) (nodes_of w n) (tree_at h) (above_at h) low high
      (nodes_else o)
      p d (place_below slot) (place_dir d t slot.low slot.small) (place_bare s n d t slot empty) create_filled.names (λ q l z. (create_filled.others q l z).names)
      slot.dir f (((body_of h).inodes i low high).free f).0
      (λ e. used (sym r.kind ∙ e)) (λ e. r.parent ∙ new_parent k d (sym r.kind ∙ e)) (r.links ∙ new_links k d)

  pub create_sound : Sound Store (less_free (put_inode (put_entry s n d t i name) n i (new_inode k d)) 1 0)
  create_sound =
      stock_sound h (frame_then alone.frame bared.frame) after
      (names_filled s w n (names_at h) p i name create_filled low legal (absent_new s n d name t slot.low slot.small absent)) tree
