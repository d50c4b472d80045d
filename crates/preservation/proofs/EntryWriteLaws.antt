-- What the writers of entries do on a sound store: one place is emptied or filled, the inodes and the bytes of files stay. n and b are the counts of inodes and blocks.
use Prim.Native.Nat.{ℕ, ◌+◌, ◌*◌, ◌/◌, ◌≤◌, ◌<◌}
use mathlib.Core.Path.{◌≡◌, refl, sym, ap, ◌∙◌, subst}
use mathlib.Core.Logic.{◌≢◌}
use mathlib.Core.Bool.{true}
use mathlib.Core.List.{List}
use native.Mathlib.Decide.{ℕ_discrete}
use native.Mathlib.Omega.{arith}
use lib.ListN.{length, replicate}
use Rattle.bounded.proofs.BoolLaws.{clash, fails}
use Rattle.octets.specs.Octets.{Apart}
use Rattle.layout.specs.Header.{header_of}
use Rattle.layout.specs.Inode.{kind_of, size_of, file_kind, directory_kind, is_directory}
use Rattle.blocks.specs.Block.{is_long, blocks_used, kth_block}
use Rattle.blocks.proofs.ViewLaws.{inode_fits}
use Rattle.names.specs.Entry.{entry_inode, entry_for, is_empty}
use Rattle.names.proofs.EntryLaws.{entry_inode_lem, empty_inode_lem, empty_zeros, filled_not_empty}
use Rattle.directory.specs.Slot.{most_slots, slots, slot_at, entry_of, put_entry, clear_entry}
use Rattle.directory.proofs.SlotLaws.{few_slots, slot_fits, apart_blocks, apart_slots, entry_put, entry_put_other, entry_clear, entry_clear_other}
use Rattle.directory.specs.Fits.{DirFits}
use Rattle.sound.specs.Place.{IsDir, dir_of, slot_of, is_slot, entry_at, filled, place_of}
use Rattle.sound.specs.Counted.{SoundStore}
use Rattle.sound.proofs.PlaceLaws.{slot_is, filled_is, naming_entry, entry_place, slot_place}
use Rattle.preservation.proofs.SameLaws.{SameFrame, SameInode, same_long, SameBlock, InBlock, frame_stays, frame_then, inode_then, inode_stays, put_entry_lem, clear_entry_lem}
use Rattle.preservation.proofs.KeepLaws.{place_slot, slot_kept, same_slots}
use Rattle.layout.proofs.KindLaws.{kind_some, kind_most, kind_is}
use Rattle.preservation.proofs.StoreLaws.{one_at, blocks_of_lem, dir_of_lem, kind_dir, data_at, dir_short}
use Rattle.blocks.proofs.KthLaws.{kth_direct}
use Rattle.ledger.proofs.WriteLaws.{NoAddresses}
use Rattle.preservation.proofs.ChangeLaws.{OtherPlaces, Emptied, Filled}

-- entries alone change: the header, all inodes and the bytes of files stay
pub record EntriesAlone (s t : List ℕ) (n : ℕ) : Type 0 where
  pub frame : SameFrame s t
  pub header : header_of t ≡ header_of s
  pub inodes : (j : ℕ) → 1 ≤ j → j ≤ n → SameInode s t n j
  pub files : (j k : ℕ) → 1 ≤ j → j ≤ n → kind_of s j ≡ file_kind → k < blocks_used (size_of s j) → SameBlock s t n (kth_block s n j k)

pub entries_stay : (s : List ℕ) (n : ℕ) → EntriesAlone s s n
entries_stay s n = record {
  frame = frame_stays s;
  header = refl;
  inodes = λ j l m. inode_stays s n j;
  files = λ j k l m e u. refl;
}

-- the block of a slot is one that the size uses
pub slot_block : (s : List ℕ) (d t : ℕ) → t < slots s d → t / 4 < blocks_used (size_of s d)
unfolding slots
slot_block s d t l = omega arith

-- slot t of the directory d
pub record SlotIn (s : List ℕ) (n d t : ℕ) : Type 0 where
  pub low : 1 ≤ d
  pub high : d ≤ n
  pub dir : kind_of s d ≡ directory_kind
  pub inside : t < slots s d
  pub small : t < most_slots

pub slot_in : {s : List ℕ} {n b : ℕ} → SoundStore s n b → (d t : ℕ) → is_directory s n d ≡ true → t < slots s d → SlotIn s n d t
slot_in {s} {n} h d t e l =
    let a = kind_some s n directory_kind d e in
    let c = kind_most s n directory_kind d e in
    let f = few_slots s n d (kind_dir h d e) in
    record { low = a; high = c; dir = kind_is s n directory_kind d e; inside = l; small = omega arith }

pub place_below : {s : List ℕ} {n d t : ℕ} → SlotIn s n d t → place_of d t < most_slots * n
place_below k = let a = k.low in let b = k.high in let l = k.small in omega arith

-- a slot of the sound store s, in a store m that has its inodes
module _ {s m : List ℕ} {n b d t : ℕ} (h : SoundStore s n b) (a : EntriesAlone s m n) (slot : SlotIn s n d t) where
  low : 1 ≤ d
  low = slot.low

  high : d ≤ n
  high = slot.high

  whole : IsDir s n d
  whole = record { low = slot.low; high = slot.high; kind = slot.dir }

  abbrev here : ℕ
  here = kth_block m n d (t / 4)

  used : t / 4 < blocks_used (size_of s d)
  used = slot_block s d t slot.inside

  few : blocks_used (size_of s d) ≤ 12
  few = (dir_of_lem h d whole).few

  same_block : here ≡ kth_block s n d (t / 4)
  same_block = let f = few in let u = used in (a.inodes d low high).blocks (t / 4) (omega arith)

  block_low : 1 ≤ here
  block_low = let e = same_block in let f = ((dir_of_lem h d whole).blocks (t / 4) used).low in omega arith

  pub dir_there : DirFits m n d
  dir_there =
      let f = dir_of_lem h d whole in
      let e = a.inodes d low high in
      let z = e.size in
      let g = a.frame.long in
      record {
        inode = inode_fits s m n d g f.inode;
        few = rw z f.few;
        blocks = λ k u.
            let u' : k < blocks_used (size_of s d) = rw z at u in
            let r = f.blocks k u' in
            let w = few in
            rw (e.blocks k (omega arith)) (record { low = r.low; inside = let y = r.inside in omega arith });
      }

  slots_there : t < slots m d
  slots_there = rw (same_slots (a.inodes d low high)) slot.inside

  pub slot_there : slot_at m n d t + 16 ≤ length m
  slot_there = slot_fits m n d dir_there t slots_there

  -- its block holds no addresses
  plain : NoAddresses (is_long m) m n here
  plain j l o e z =
      let g = a.inodes j l o in
      data_at h d (t / 4) low high used (λ y. absurd (clash (is_long s d) y (dir_short s d slot.dir))) j l o (sym (same_long s m j g.kind g.size) ∙ e)
      (sym (kth_direct (is_long s j) s n j 11 (omega arith)) ∙ sym (g.blocks 11 (omega arith)) ∙ kth_direct (is_long m j) m n j 11 (omega arith) ∙ z ∙ same_block)

  -- the slot of another place
  apart_place : (q : ℕ) → q < most_slots * n → q ≢ place_of d t → is_slot m q ≡ true → Apart (slot_at m n (dir_of q) (slot_of q)) 16 (slot_at m n d t) 16
  apart_place q l z y = go (ℕ_discrete (kth_block m n (dir_of q) (slot_of q / 4)) here)
    where
      there : SameInode s m n (dir_of q)
      there = a.inodes (dir_of q) (omega arith) (omega arith)

      size : slot_of q < slots s (dir_of q)
      size = let r = ((slot_is m q).to y).1 in rw (same_slots there) at r

      taken : slot_of q / 4 < blocks_used (size_of s (dir_of q))
      taken = slot_block s (dir_of q) (slot_of q) size

      block : kth_block m n (dir_of q) (slot_of q / 4) ≡ kth_block s n (dir_of q) (slot_of q / 4)
      block = there.blocks (slot_of q / 4) (omega arith)

      go : Dec (kth_block m n (dir_of q) (slot_of q / 4) ≡ here) → Apart (slot_at m n (dir_of q) (slot_of q)) 16 (slot_at m n d t) 16
      go (yes e) =
          let r = one_at h (dir_of q) (slot_of q / 4) d (t / 4) (omega arith) (omega arith) low high taken used (sym block ∙ e ∙ same_block) in
          let f : dir_of q ≡ d = r.0 in
          apart_slots m n (dir_of q) (slot_of q) d t f r.1 (λ g. z (omega arith))
      go (no e) =
          let r = ((blocks_of_lem h (dir_of q) (omega arith) (omega arith)).blocks (slot_of q / 4) taken).low in
          apart_blocks m n (dir_of q) (slot_of q) d t e (let b = block in omega arith) block_low

  -- a write in the block of the slot
  module _ (w : List ℕ) (i : InBlock m w n here) where
    pub write_alone : EntriesAlone s w n
    write_alone = record {
      frame = frame_then a.frame i.frame;
      header = i.header ∙ a.header;
      inodes = λ j l o. inode_then (a.inodes j l o) (i.inodes j l o);
      files = λ j k l o e u.
          let g = ((blocks_of_lem h j l o).blocks k u).low in
          i.others (kth_block s n j k) g
          (λ z. let r = (one_at h j k d (t / 4) l o low high u used (z ∙ same_block)).0 in let y = sym (ap (kind_of s) r) ∙ e in omega arith)
          ∙ a.files j k l o e u;
    }

    slot_same : (q : ℕ) → q < most_slots * n → is_slot w q ≡ is_slot m q
    slot_same q l =
        let e = i.inodes (dir_of q) (omega arith) (omega arith) in
        slot_kept m w q e.kind (λ _. same_slots e)

    is_slot_lem : is_slot w (place_of d t) ≡ true
    is_slot_lem =
        let l = slot.small in
        let e = i.inodes d low high in
        (slot_place w n d t low l).from (e.kind ∙ (a.inodes d low high).kind ∙ slot.dir, subst (λ (z : ℕ). t < z) (sym (same_slots e)) slots_there)

    others_same : ((q : ℕ) → q < most_slots * n → Apart (slot_at m n (dir_of q) (slot_of q)) 16 (slot_at m n d t) 16 → entry_of w n (dir_of q) (slot_of q) ≡ entry_of m n (dir_of q) (slot_of q)) → OtherPlaces m w n (place_of d t)
    unfolding entry_at
    others_same f q l z = place_slot m w n q (slot_same q l) (λ y. f q l (apart_place q l z y))

  -- ---- an entry put, for an inode i
  module _ (i : ℕ) (name : List ℕ) (some : 1 ≤ i) where
    put_in : InBlock m (put_entry m n d t i name) n here
    put_in = put_entry_lem m n d t block_low plain i name

    pub put_alone : EntriesAlone s (put_entry m n d t i name) n
    put_alone = write_alone (put_entry m n d t i name) put_in

    pub put_filled : Filled m (put_entry m n d t i name) n (place_of d t) i name
    put_filled =
        let w = put_entry m n d t i name in
        let e : entry_at w n (place_of d t) ≡ entry_for i name = entry_place w n d t low slot.small ∙ entry_put m n d t i name low high slot.small slot_there in
        let y = is_slot_lem w put_in in
        record {
          stands = (filled_is w n (place_of d t)).from (y, ap is_empty e ∙ filled_not_empty i name some);
          names = naming_entry w n (place_of d t) y ∙ ap entry_inode e ∙ entry_inode_lem i name;
          entry = e;
          others = others_same w put_in (λ q l g. entry_put_other m n d t i name (dir_of q) (slot_of q) (omega arith) (omega arith) (omega arith) g);
        }

  -- ---- an entry cleared
  clear_in : InBlock m (clear_entry m n d t) n here
  clear_in = clear_entry_lem m n d t block_low plain

  pub clear_alone : EntriesAlone s (clear_entry m n d t) n
  clear_alone = write_alone (clear_entry m n d t) clear_in

  pub clear_emptied : Emptied m (clear_entry m n d t) n (place_of d t)
  clear_emptied =
      let w = clear_entry m n d t in
      let e : entry_at w n (place_of d t) ≡ replicate 16 0 = entry_place w n d t low slot.small ∙ entry_clear m n d t low high slot.small slot_there in
      let y = is_slot_lem w clear_in in
      let z : is_empty (entry_at w n (place_of d t)) ≡ true = ap is_empty e ∙ empty_zeros in
      record {
        stands = fails (filled w n (place_of d t)) (λ f. clash (is_empty (entry_at w n (place_of d t))) z ((filled_is w n (place_of d t)).to f).1);
        names = naming_entry w n (place_of d t) y ∙ empty_inode_lem (entry_at w n (place_of d t)) z;
        others = others_same w clear_in (λ q l g. entry_clear_other m n d t (dir_of q) (slot_of q) (omega arith) (omega arith) (omega arith) g);
      }
