-- What the searches of a directory say of its places, and the entry that one has found. n is the inode count, d a directory with slot t.
use Rattle.std.specs.Prelude.{None, Some}
use Prim.Native.Nat.{ℕ, ◌≤◌, ◌<◌}
use mathlib.Core.Path.{◌≡◌, refl, sym, ap, ◌∙◌, subst}
use mathlib.Core.Bool.{true, false}
use mathlib.Core.List.{List}
use Rattle.bounded.proofs.BoolLaws.{clash, fails}
use Rattle.layout.specs.Sizes.{root_inode}
use Rattle.layout.specs.Inode.{kind_of, free_kind, is_directory}
use Rattle.names.specs.Name.{legal_name}
use Rattle.names.specs.Entry.{entry_inode, is_empty, same_name}
use Rattle.names.proofs.EntryLaws.{empty_inode_lem, empty_not_named}
use Rattle.directory.specs.Slot.{most_slots, slots, entry_of, slot_has_name, find_slot, slot_empty, inode_at}
use Rattle.directory.proofs.SlotLaws.{find_below, find_absent, find_named}
use Rattle.sound.specs.Place.{dir_of, slot_of, is_slot, entry_at, filled, naming, place_of}
use Rattle.sound.specs.Counted.{SoundStore}
use Rattle.sound.proofs.PlaceLaws.{slot_is, filled_is, naming_entry, place_dir, entry_place, slot_place}
use Rattle.preservation.proofs.KeepLaws.{body_of}
use Rattle.preservation.proofs.ChangeLaws.{NewName}
use Rattle.preservation.proofs.EntryWriteLaws.{SlotIn, slot_in, place_below}

module _ (s : List ℕ) (n d : ℕ) (name : List ℕ) where
  -- a name that is found stands in a slot that is not empty
  pub found_full : (t : ℕ) → legal_name name ≡ true → find_slot s n d name ≡ Some t → slot_empty s n d t ≡ false
  unfolding slot_empty
  found_full t g e =
      fails (is_empty (entry_of s n d t))
      (λ z. clash (same_name (entry_of s n d t) name) (find_named s n d name t e) (empty_not_named (entry_of s n d t) name z g))

  -- one that is absent is new at any place of the directory
  pub absent_new : (t : ℕ) → 1 ≤ d → t < most_slots → find_slot s n d name ≡ None → NewName s n (place_of d t) name
  unfolding slot_has_name entry_at
  absent_new t l m e q b z h f =
      let k : dir_of q ≡ d = h ∙ place_dir d t l m in
      let r = ((slot_is s q).to ((filled_is s n q).to f).0).1 in
      ap (λ (x : ℕ). same_name (entry_of s n x (slot_of q)) name) k
      ∙ find_absent s n d name e (slot_of q) (subst (λ (x : ℕ). slot_of q < slots s x) k r)

module _ (s : List ℕ) (n d t : ℕ) (slot : SlotIn s n d t) where
  there : is_slot s (place_of d t) ≡ true
  there = (slot_place s n d t slot.low slot.small).from (slot.dir, slot.inside)

  pub place_naming : naming s n (place_of d t) ≡ inode_at s n d t
  place_naming = naming_entry s n (place_of d t) there ∙ ap entry_inode (entry_place s n d t slot.low slot.small)

  pub place_filled : slot_empty s n d t ≡ false → filled s n (place_of d t) ≡ true
  unfolding slot_empty
  place_filled e = (filled_is s n (place_of d t)).from (there, ap is_empty (entry_place s n d t slot.low slot.small) ∙ e)

  pub place_bare : slot_empty s n d t ≡ true → naming s n (place_of d t) ≡ 0
  unfolding slot_empty
  place_bare e = place_naming ∙ empty_inode_lem (entry_of s n d t) e

-- ---- the entry in slot t names the inode i
pub record EntryHere (s : List ℕ) (n d t i : ℕ) : Type 0 where
  pub slot : SlotIn s n d t
  pub names : naming s n (place_of d t) ≡ i
  pub low : 1 ≤ i
  pub high : i ≤ n
  pub used : kind_of s i ≡ free_kind → ⊥
  pub not_root : i ≡ root_inode → ⊥

pub entry_here : {s : List ℕ} {n b : ℕ} → SoundStore s n b → (d t i : ℕ) → is_directory s n d ≡ true → t < slots s d → slot_empty s n d t ≡ false → i ≡ inode_at s n d t → EntryHere s n d t i
entry_here {s} {n} h d t i dir inside full is =
    let k = slot_in h d t dir inside in
    let e : naming s n (place_of d t) ≡ i = place_naming s n d t k ∙ sym is in
    let r = (body_of h).entries (place_of d t) (place_below k) (place_filled s n d t k full) in
    record {
      slot = k;
      names = e;
      low = subst (λ (z : ℕ). 1 ≤ z) e r.low;
      high = subst (λ (z : ℕ). z ≤ n) e r.high;
      used = λ z. r.used (ap (kind_of s) e ∙ z);
      not_root = λ z. r.not_root (e ∙ z);
    }

-- the one that a search for a legal name found
pub found_here : {s : List ℕ} {n b : ℕ} → SoundStore s n b → (d t : ℕ) (name : List ℕ) → is_directory s n d ≡ true → legal_name name ≡ true → find_slot s n d name ≡ Some t → EntryHere s n d t (inode_at s n d t)
found_here {s} {n} h d t name k l f = entry_here h d t (inode_at s n d t) k (find_below s n d name t f) (found_full s n d name t l f) refl
