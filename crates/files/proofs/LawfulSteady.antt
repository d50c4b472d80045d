-- Changes that keep all kinds, all of every inode in use but some, and the bytes of every file. n and b are the counts of inodes and blocks.
use Rattle.std.specs.Prelude.{Ok}
use Prim.Native.Nat.{ℕ, ◌/◌, ◌≤◌, ◌<◌}
use mathlib.Core.Path.{◌≡◌, refl, sym, ap, ◌∙◌, subst}
use mathlib.Core.Logic.{◌≢◌}
use mathlib.Core.Bool.{true}
use mathlib.Core.List.{List, [], ◌∷◌}
use native.Mathlib.Omega.{arith}
use lib.ListN.{replicate}
use Rattle.bounded.proofs.CaseLaws.{each_else}
use Rattle.bounded.proofs.BoolLaws.{clash}
use Rattle.layout.specs.Sizes.{address_count, most_blocks}
use Rattle.layout.specs.declared.inode.Inode.{Inode}
use Rattle.layout.specs.Inode.{kind_of, size_of, put_inode, put_links, free_kind, file_kind, directory_kind, is_directory}
use Rattle.blocks.specs.Block.{blocks_used, block_of, is_long, kth_block}
use Rattle.layout.specs.Header.{less_free}
use Rattle.blocks.proofs.FrameLaws.{length_inode}
use Rattle.blocks.proofs.KthLaws.{kth_direct}
use Rattle.ledger.proofs.WriteLaws.{NoAddresses}
use Rattle.layout.specs.Fits.{InodeFits}
use Rattle.directory.specs.Slot.{put_entry, clear_entry}
use Rattle.sound.specs.Counted.{SoundStore}
use Rattle.sound.specs.Place.{IsDir}
use Rattle.preservation.proofs.SameLaws.{SameFrame, SameInode, SameBlock, InBlock, same_body, same_long, body_then, frame_then, inode_then, put_entry_lem, clear_entry_lem, less_free_lem}
use Rattle.layout.proofs.KindLaws.{kind_is}
use Rattle.preservation.proofs.StoreLaws.{same_counts, blocks_of_lem, data_at, dir_short, one_at, is_dir}
use Rattle.preservation.proofs.FreeLaws.{free_block_lem}
use Rattle.preservation.proofs.EntryWriteLaws.{SlotIn, slot_in, slot_block}
use Rattle.preservation.proofs.InodeWriteLaws.{links_relinked, body_all}
use Rattle.preservation.proofs.BaredLaws.{put_bared}
use Rattle.content.specs.Content.{add_block}
use Rattle.content.proofs.GrowLaws.{grown_bytes, block_added}
use Rattle.entries.specs.declared.Room.{Room}
use Rattle.entries.specs.Room.{room_in, make_room}
use Rattle.entries.proofs.RoomLaws.{IsRoom, slot, block, is_room, Roomed, make_room_lem, same_kind}
use Rattle.files.proofs.Lawful.{Apart, Stays, Keeps, stays_keeps}

-- ---- the blocks of a store: few of an inode, none twice, and none of a directory holds addresses
pub record Blocks (s : List ℕ) (n : ℕ) : Type 0 where
  pub few : (j : ℕ) → 1 ≤ j → j ≤ n → blocks_used (size_of s j) ≤ most_blocks
  pub low : (j k : ℕ) → 1 ≤ j → j ≤ n → k < blocks_used (size_of s j) → 1 ≤ kth_block s n j k
  pub once : (i k j a : ℕ) → 1 ≤ i → i ≤ n → 1 ≤ j → j ≤ n → k < blocks_used (size_of s i) → a < blocks_used (size_of s j) → kth_block s n i k ≡ kth_block s n j a → i ≡ j
  pub plain : (d k : ℕ) → IsDir s n d → k < blocks_used (size_of s d) → NoAddresses (is_long s) s n (kth_block s n d k)

pub store_blocks : {s : List ℕ} {n b : ℕ} → SoundStore s n b → Blocks s n
store_blocks {s} h = record {
  few = λ j l m. (blocks_of_lem h j l m).few;
  low = λ j k l m u. ((blocks_of_lem h j l m).blocks k u).low;
  once = λ i k j a l m p q u w e. (one_at h i k j a l m p q u w e).0;
  plain = λ d k y u. data_at h d k y.low y.high u (λ z. absurd (clash (is_long s d) z (dir_short s d y.kind)));
}

pub blocks_same : (s t : List ℕ) (n : ℕ) → ((j : ℕ) → 1 ≤ j → j ≤ n → SameInode s t n j) → Blocks s n → Blocks t n
blocks_same s t n a c = record {
  few = λ j l m. rw (a j l m).size (c.few j l m);
  low = λ j k l m u. let f = c.few j l m in let v = used j k l m u in rw ((a j l m).blocks k (omega arith)) (c.low j k l m v);
  once = λ i k j b l m p q u w e.
      let f = c.few i l m in
      let g = c.few j p q in
      let v = used i k l m u in
      let y = used j b p q w in
      c.once i k j b l m p q v y (sym ((a i l m).blocks k (omega arith)) ∙ e ∙ (a j p q).blocks b (omega arith));
  plain = λ d k y u j l m z e.
      let f = c.few d y.low y.high in
      let v = used d k y.low y.high u in
      let g = a j l m in
      c.plain d k (record { low = y.low; high = y.high; kind = sym (a d y.low y.high).kind ∙ y.kind }) v j l m (sym (same_long s t j g.kind g.size) ∙ z)
      (sym (kth_direct (is_long s j) s n j 11 (omega arith)) ∙ sym (g.blocks 11 (omega arith)) ∙ kth_direct (is_long t j) t n j 11 (omega arith) ∙ e ∙ (a d y.low y.high).blocks k (omega arith));
}
  where
    used : (j k : ℕ) → 1 ≤ j → j ≤ n → k < blocks_used (size_of t j) → k < blocks_used (size_of s j)
    used j k l m u = subst (λ (z : ℕ). k < blocks_used z) (a j l m).size u

-- ---- a write in the block of slot t of d: the blocks of the other inodes stay
module _ (s w : List ℕ) (n d t : ℕ) (c : Blocks s n) (y : SlotIn s n d t) where
  others_bytes : InBlock s w n (kth_block s n d (t / 4)) → (j : ℕ) → 1 ≤ j → j ≤ n → j ≢ d → (k : ℕ) → k < blocks_used (size_of s j) → SameBlock s w n (kth_block s n j k)
  others_bytes g j l m z k u =
      g.others (kth_block s n j k) (c.low j k l m u) (λ e. z (c.once j k d (t / 4) l m y.low y.high u (slot_block s d t y.inside) e))

-- such writes
module _ (s : List ℕ) (n d t : ℕ) (c : Blocks s n) (y : SlotIn s n d t) where
  slot_low : 1 ≤ kth_block s n d (t / 4)
  slot_low = c.low d (t / 4) y.low y.high (slot_block s d t y.inside)

  slot_plain : NoAddresses (is_long s) s n (kth_block s n d (t / 4))
  slot_plain = c.plain d (t / 4) (record { low = y.low; high = y.high; kind = y.dir }) (slot_block s d t y.inside)

  pub put_slot : (i : ℕ) (name : List ℕ) → InBlock s (put_entry s n d t i name) n (kth_block s n d (t / 4))
  put_slot = put_entry_lem s n d t slot_low slot_plain

  pub clear_slot : InBlock s (clear_entry s n d t) n (kth_block s n d (t / 4))
  clear_slot = clear_entry_lem s n d t slot_low slot_plain

-- ---- such changes
pub record Steady (s t : List ℕ) (n : ℕ) (is : List ℕ) : Type 0 where
  pub frame : SameFrame s t
  pub kinds : (j : ℕ) → 1 ≤ j → j ≤ n → kind_of s j ≢ free_kind → kind_of t j ≡ kind_of s j
  pub stays : (j : ℕ) → 1 ≤ j → j ≤ n → kind_of s j ≢ free_kind → Apart j is → Stays s t n j
  pub files : (j : ℕ) → 1 ≤ j → j ≤ n → kind_of s j ≡ file_kind → Keeps s t n j

-- what is no directory is not d
no_directory : (s : List ℕ) (j d : ℕ) → kind_of s d ≡ directory_kind → kind_of s j ≡ file_kind → j ≢ d
no_directory s j d e f z = let a = sym (ap (kind_of s) z) ∙ f in omega arith

pub keeps_then : {s t u : List ℕ} {n j : ℕ} → blocks_used (size_of s j) ≤ most_blocks → Keeps s t n j → Keeps t u n j → Keeps s u n j
keeps_then {s} {t} {u} {n} {j} few a b = record {
  body = body_then a.body b.body;
  bytes = λ k l.
      let e : kth_block t n j k ≡ kth_block s n j k = a.body.blocks k (omega arith) in
      ap (block_of u n) (sym e) ∙ b.bytes k (subst (λ (z : ℕ). k < blocks_used z) (sym a.body.size) l) ∙ ap (block_of t n) e ∙ a.bytes k l;
}

pub stays_then : {s t u : List ℕ} {n j : ℕ} → blocks_used (size_of s j) ≤ most_blocks → Stays s t n j → Stays t u n j → Stays s u n j
stays_then few a b = record { inode = inode_then a.inode b.inode; bytes = (keeps_then few (stays_keeps a) (stays_keeps b)).bytes }

module _ {s t u : List ℕ} {n : ℕ} {is js ks : List ℕ} (c : Blocks s n)
    (a : Steady s t n is) (b : Steady t u n js) (f : (j : ℕ) → Apart j ks → Apart j is × Apart j js) where
  pub steady_then : Steady s u n ks
  steady_then = record {
    frame = frame_then a.frame b.frame;
    kinds = λ j l m z. let e = a.kinds j l m z in b.kinds j l m (λ y. z (sym e ∙ y)) ∙ e;
    stays = λ j l m z y.
        let e = a.kinds j l m z in
        stays_then (c.few j l m) (a.stays j l m z (f j y).0) (b.stays j l m (λ w. z (sym e ∙ w)) (f j y).1);
    files = λ j l m z. let p = a.files j l m z in keeps_then (c.few j l m) p (b.files j l m (p.body.kind ∙ z));
  }

-- a write in slot t of d
slot_steady : (s w : List ℕ) (n d t : ℕ) → Blocks s n → SlotIn s n d t → InBlock s w n (kth_block s n d (t / 4)) → Steady s w n (d ∷ [])
slot_steady s w n d t c y g = record {
  frame = g.frame;
  kinds = λ j l m _. (g.inodes j l m).kind;
  stays = λ j l m _ z. record { inode = g.inodes j l m; bytes = others_bytes s w n d t c y g j l m z.0 };
  files = λ j l m z. record { body = same_body (g.inodes j l m); bytes = others_bytes s w n d t c y g j l m (no_directory s j d y.dir z) };
}

pub put_steady : (s : List ℕ) (n d t i : ℕ) (name : List ℕ) → Blocks s n → SlotIn s n d t → Steady s (put_entry s n d t i name) n (d ∷ [])
put_steady s n d t i name c y = slot_steady s (put_entry s n d t i name) n d t c y (put_slot s n d t c y i name)

pub clear_steady : (s : List ℕ) (n d t : ℕ) → Blocks s n → SlotIn s n d t → Steady s (clear_entry s n d t) n (d ∷ [])
clear_steady s n d t c y = slot_steady s (clear_entry s n d t) n d t c y (clear_slot s n d t c y)

-- other links
pub links_steady : (s : List ℕ) (n i v : ℕ) → InodeFits s n i → Steady s (put_links s i v) n (i ∷ [])
links_steady s n i v f =
    let r = links_relinked s n i f v in
    record {
      frame = r.inode.frame;
      kinds = λ j l m _. each_else (λ a. kind_of (put_links s i v) a ≡ kind_of s a) i j r.body.kind (λ z. (r.inode.others j l m z).kind);
      stays = λ j l m _ z. record { inode = r.inode.others j l m z.0; bytes = λ k _. r.inode.bytes (kth_block s n j k) };
      files = λ j l m _. record { body = body_all r j l m; bytes = λ k _. r.inode.bytes (kth_block s n j k) };
    }

-- a new inode where one was free
pub new_steady : (s : List ℕ) (n i : ℕ) (v : Inode) → InodeFits s n i → kind_of s i ≡ free_kind → v.addresses ≡ replicate address_count 0 → Steady s (less_free (put_inode s n i v) 1 0) n []
new_steady s n i v f e a =
    let l = f.area in
    let g = length_inode s n i v in
    let c = less_free_lem (put_inode s n i v) n (omega arith) 1 0 in
    let r = put_bared s _ n i _ _ v f a c in
    let other : (j : ℕ) → kind_of s j ≢ free_kind → j ≢ i = λ j z y. z (ap (kind_of s) y ∙ e) in
    record {
      frame = r.frame;
      kinds = λ j l m z. (r.others j l m (other j z)).kind;
      stays = λ j l m z _. record { inode = r.others j l m (other j z); bytes = λ k _. r.bytes (kth_block s n j k) };
      files = λ j l m z. record { body = same_body (r.others j l m (other j (λ y. omega arith))); bytes = λ k _. r.bytes (kth_block s n j k) };
    }

-- room in d
module _ (s : List ℕ) (n b d : ℕ) (r : Room) (h : SoundStore s n b)
    (k : is_directory s n d ≡ true) (e : room_in s n b d ≡ Ok r) where
  pub roomed : Roomed s (make_room s n d r) n d r.slot
  roomed = make_room_lem s n b d h k r e

  room_bytes : (j a : ℕ) → 1 ≤ j → j ≤ n → a < blocks_used (size_of s j) → SameBlock s (make_room s n d r) n (kth_block s n j a)
  unfolding make_room
  room_bytes j a l m u = go (is_room s n b d r e)
    where
      go : IsRoom s n b d r → SameBlock s (make_room s n d r) n (kth_block s n j a)
      go (slot t f q) = rw q refl
      go (block c w f q) =
          let o = free_block_lem s n b c f in
          let dir = is_dir s n d k in
          rw q (grown_bytes s (add_block s n d c) n b d c h (block_added s n b d c h dir w o) dir w o j a l m u)

  pub room_steady : Steady s (make_room s n d r) n (d ∷ [])
  room_steady = record {
    frame = roomed.frame;
    kinds = λ j l m _. roomed.tree.kinds j l m;
    stays = λ j l m _ z. record { inode = roomed.others j l m z.0; bytes = λ a u. room_bytes j a l m u };
    files = λ j l m z. record { body = same_body (roomed.others j l m (no_directory s j d (kind_is s n directory_kind d k) z)); bytes = λ a u. room_bytes j a l m u };
  }

  pub room_sound : SoundStore (make_room s n d r) n b
  room_sound = same_counts h roomed.frame roomed.sound

  pub room_dir : is_directory (make_room s n d r) n d ≡ true
  room_dir = same_kind s (make_room s n d r) n directory_kind d roomed.tree.kinds ∙ k

  pub room_slot : SlotIn (make_room s n d r) n d r.slot
  room_slot = slot_in room_sound d r.slot room_dir roomed.slot
