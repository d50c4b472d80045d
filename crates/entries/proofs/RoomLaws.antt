-- Room for an entry: a directory with an empty slot, or with a block more. n and b are the counts of inodes and blocks.
use Rattle.std.specs.Prelude.{Err, None, Ok, Option, Some}
use Prim.Native.Nat.{ℕ, ◌+◌, ◌-◌, ◌≤◌, ◌<◌}
use mathlib.Core.Path.{◌≡◌, refl, sym, ap, ◌∙◌}
use mathlib.Core.Bool.{Bool, true, false}
use mathlib.Core.List.{List}
use native.Mathlib.Decide.{dec_lt}
use native.Mathlib.Omega.{arith}
use borrow.Author.Tests.{ltb-true}
use lib.Dec.{eqb, ltb}
use Rattle.bounded.specs.Search.{pick, first, first_from, on_found}
use Rattle.bounded.proofs.SearchLaws.{first_ext, first_split, absent_of, found_else}
use Rattle.layout.specs.Sizes.{most_directory_blocks}
use Rattle.layout.specs.Header.{header_of}
use Rattle.layout.specs.Inode.{kind_of, size_of, free_kind, directory_kind, is_kind, is_directory, inode_free, free_inode}
use Rattle.blocks.specs.Block.{blocks_used}
use Rattle.blocks.specs.Free.{free_block}
use Rattle.names.specs.Name.{legal_name}
use Rattle.names.specs.Entry.{same_name}
use Rattle.names.proofs.EntryLaws.{empty_not_named}
use Rattle.directory.specs.Slot.{slots, entry_of, slot_has_name, find_slot, slot_empty, empty_slot}
use Rattle.directory.proofs.SlotLaws.{empty_below, empty_at}
use Rattle.sound.specs.Place.{IsDir}
use Rattle.sound.specs.Sound.{Sound}
use Rattle.sound.specs.Counted.{SoundStore}
use Rattle.sound.specs.declared.Form.TheVariants.{Store}
use Rattle.answers.specs.declared.Refusal.TheVariants.{NoBlocks, NoSlot}
use Rattle.layout.proofs.KindLaws.{kind_read, kind_low, kind_high, kind_some, kind_most, kind_is}
use Rattle.preservation.proofs.SameLaws.{OtherInodes, SameFrame, frame_stays, inode_stays}
use Rattle.preservation.proofs.KeepLaws.{SameTree, tree_stays}
use Rattle.preservation.proofs.FreeLaws.{FreeBlock, free_block_lem}
use Rattle.content.specs.Content.{add_block}
use Rattle.content.proofs.GrowLaws.{block_added, add_block_sound, grown_tree, grown_slots, grown_entry, grown_empty}
use Rattle.entries.specs.declared.Room.{Room}
use Rattle.entries.specs.Room.{room, room_in, make_room}

-- ---- the two rooms
pub data IsRoom (s : List ℕ) (n b d : ℕ) (r : Room) : Type 0 where
  slot : (t : ℕ) → empty_slot s n d ≡ Some t → r ≡ room t None → IsRoom s n b d r
  block : (c : ℕ) → blocks_used (size_of s d) < most_directory_blocks → free_block s n b ≡ Some c → r ≡ room (slots s d) (Some c) → IsRoom s n b d r

pub is_room : (s : List ℕ) (n b d : ℕ) (r : Room) → room_in s n b d ≡ Ok r → IsRoom s n b d r
unfolding room_in
is_room s n b d r = go (empty_slot s n d) refl (ltb (blocks_used (size_of s d)) most_directory_blocks) refl (free_block s n b) refl
  where
    go : (x : Option ℕ) → empty_slot s n d ≡ x → (y : Bool) → ltb (blocks_used (size_of s d)) most_directory_blocks ≡ y → (z : Option ℕ) → free_block s n b ≡ z
        → on_found x (λ t. Ok (room t None)) (pick y (on_found z (λ c. Ok (room (slots s d) (Some c))) (Err NoBlocks)) (Err NoSlot)) ≡ Ok r → IsRoom s n b d r
    go (Some t) e y f z g q = slot t e (cc)
    go None e true f (Some c) g q = block c (ltb-true (blocks_used (size_of s d)) most_directory_blocks f) g (cc)
    go None e true f None g q = let w : ◌≡◌ {A = ℕ} 0 1 = cc in absurd (omega arith)
    go None e false f z g q = let w : ◌≡◌ {A = ℕ} 0 1 = cc in absurd (omega arith)

-- ---- t is the sound store s with room in slot u of the directory d
pub record Roomed (s t : List ℕ) (n d u : ℕ) : Type 0 where
  pub sound : Sound Store t
  pub frame : SameFrame s t
  pub tree : SameTree s t n
  pub others : OtherInodes s t n d
  pub free_inodes : (header_of t).free_inodes ≡ (header_of s).free_inodes
  -- the slots that were there, and those that are new
  pub more : slots s d ≤ slots t d
  pub entries : (e v : ℕ) → IsDir s n e → v < slots s e → entry_of t n e v ≡ entry_of s n e v
  pub new : (v : ℕ) → slots s d ≤ v → v < slots t d → slot_empty t n d v ≡ true
  -- the slot for the entry
  pub slot : u < slots t d
  pub empty : slot_empty t n d u ≡ true

module _ (s : List ℕ) (n b d : ℕ) (h : SoundStore s n b) (k : is_directory s n d ≡ true) where
  low : 1 ≤ d
  low = kind_some s n directory_kind d k

  high : d ≤ n
  high = kind_most s n directory_kind d k

  dir : IsDir s n d
  dir = record { low = low; high = high; kind = kind_is s n directory_kind d k }

  room_slot : (t : ℕ) → empty_slot s n d ≡ Some t → Roomed s s n d t
  room_slot t e = record {
    sound = h.sound;
    frame = frame_stays s;
    tree = tree_stays s n;
    others = λ j _ _ _. inode_stays s n j;
    free_inodes = refl;
    more = omega arith;
    entries = λ e v _ _. refl;
    new = λ v p q. absurd (omega arith);
    slot = empty_below s n d t e;
    empty = unfold slot_empty in empty_at s n d t e;
  }

  room_block : (c : ℕ) → blocks_used (size_of s d) < most_directory_blocks → FreeBlock s n b c → Roomed s (add_block s n d c) n d (slots s d)
  room_block c u w =
      let t = add_block s n d c in
      let g = block_added s n b d c h dir u w in
      let z = grown_slots s t n d c g u in
      let e = grown_empty s t n d c g u in
      record {
        sound = add_block_sound s n b d c h dir u w;
        frame = g.frame;
        tree = grown_tree s t n b d c h g dir u w;
        others = g.others;
        free_inodes = g.free_inodes;
        more = omega arith;
        entries = grown_entry s t n b d c h g dir u w;
        new = unfold slot_empty in e;
        slot = omega arith;
        empty = unfold slot_empty in e (slots s d) (omega arith) (omega arith);
      }

  pub make_room_lem : (r : Room) → room_in s n b d ≡ Ok r → Roomed s (make_room s n d r) n d r.slot
  unfolding make_room
  make_room_lem r e = go (is_room s n b d r e)
    where
      go : IsRoom s n b d r → Roomed s (make_room s n d r) n d r.slot
      go (slot t f q) = rw q (room_slot t f)
      go (block c u f q) =
          let w = free_block_lem s n b c f in
          rw q (room_block c u w)

-- ---- what follows
-- a number is of the kind it was
pub same_kind : (s t : List ℕ) (n k j : ℕ) → ((i : ℕ) → 1 ≤ i → i ≤ n → kind_of t i ≡ kind_of s i) → is_kind t n k j ≡ is_kind s n k j
same_kind s t n k j e = go (dec_lt j 1) (dec_lt n j)
  where
    go : Dec (j < 1) → Dec (n < j) → is_kind t n k j ≡ is_kind s n k j
    go (yes l) m = sym (kind_low t n k j l) ∙ kind_low s n k j l
    go (no l) (yes m) = sym (kind_high t n k j (omega arith) m) ∙ kind_high s n k j (omega arith) m
    go (no l) (no m) =
        let a : 1 ≤ j = omega arith in
        let c : j ≤ n = omega arith in
        sym (kind_read t n k j (kind_of t j) a c refl) ∙ ap (λ (x : ℕ). eqb x k) (e j a c) ∙ kind_read s n k j (kind_of s j) a c refl

-- the lowest free inode is the same
pub same_free_inode : (s t : List ℕ) (n : ℕ) → ((i : ℕ) → 1 ≤ i → i ≤ n → kind_of t i ≡ kind_of s i) → free_inode t n ≡ free_inode s n
unfolding free_inode
same_free_inode s t n e = first_ext (inode_free t) (inode_free s) 1 n (λ j l m. ap (λ (x : ℕ). eqb x free_kind) (e j l (omega arith)))

-- a search for a name finds what it found
module _ (s t : List ℕ) (n d u : ℕ) (r : Roomed s t n d u) (name : List ℕ) (g : legal_name name ≡ true) (h : IsDir s n d) where
  find_among : first_from (slot_has_name t n d name) 0 (slots s d) ≡ first_from (slot_has_name s n d name) 0 (slots s d)
  unfolding slot_has_name
  find_among = first_ext (slot_has_name t n d name) (slot_has_name s n d name) 0 (slots s d) (λ v p q. ap (λ (x : List ℕ). same_name x name) (r.entries d v h (omega arith)))

  pub same_find : find_slot t n d name ≡ find_slot s n d name
  unfolding find_slot first slot_has_name slot_empty
  same_find =
      let a = r.more in
      let k : ℕ = slots t d - slots s d in
      let e : slots t d ≡ slots s d + k = omega arith in
      let w = absent_of (slot_has_name t n d name) (0 + slots s d) k (λ v p q. empty_not_named (entry_of t n d v) name (r.new v (omega arith) (omega arith)) g) in
      ap (first_from (slot_has_name t n d name) 0) e ∙ first_split (slot_has_name t n d name) 0 (slots s d) k
      ∙ ap (on_found (first_from (slot_has_name t n d name) 0 (slots s d)) Some) w
      ∙ found_else (first_from (slot_has_name t n d name) 0 (slots s d)) ∙ find_among
