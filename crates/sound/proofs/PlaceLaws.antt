-- Laws of places: what stands at one that names an inode. n is the inode count.
use Prim.Native.Nat.{ℕ, ◌≤◌, ◌<◌}
use mathlib.Core.Path.{◌≡◌, refl, sym, ap₂}
use mathlib.Core.Bool.{Bool, true, false, ◌&&◌}
use mathlib.Core.List.{List}
use native.Mathlib.Omega.{arith}
use lib.Dec.{eqb, ltb}
use Rattle.bounded.specs.Search.{pick}
use Rattle.bounded.specs.Reflect.{Reflects}
use Rattle.bounded.proofs.BoolLaws.{fails}
use Rattle.bounded.proofs.ReflectLaws.{r_eq, r_lt, r_true, r_false, r_and, r_same}
use Rattle.layout.specs.Inode.{kind_of, directory_kind}
use Rattle.names.specs.Entry.{entry_inode, is_empty}
use Rattle.names.proofs.EntryLaws.{empty_inode_lem}
use Rattle.directory.specs.Slot.{slots, most_slots, entry_of}
use Rattle.sound.specs.Place.{dir_of, slot_of, is_slot, entry_at, filled, naming, place_of}

pub slot_is : (s : List ℕ) (p : ℕ) → Reflects (is_slot s p) ((kind_of s (dir_of p) ≡ directory_kind) × (slot_of p < slots s (dir_of p)))
unfolding is_slot
slot_is s p = r_and (r_eq (kind_of s (dir_of p)) directory_kind) (r_lt (slot_of p) (slots s (dir_of p)))

module _ (s : List ℕ) (n p : ℕ) where
  pub filled_is : Reflects (filled s n p) ((is_slot s p ≡ true) × (is_empty (entry_at s n p) ≡ false))
  unfolding filled
  filled_is = r_and (r_true (is_slot s p)) (r_false (is_empty (entry_at s n p)))

  pub naming_entry : is_slot s p ≡ true → naming s n p ≡ entry_inode (entry_at s n p)
  unfolding naming
  naming_entry e = rw e

  pub naming_slot : 1 ≤ naming s n p → is_slot s p ≡ true
  unfolding naming
  naming_slot = go (is_slot s p)
    where
      go : (b : Bool) → 1 ≤ pick b (entry_inode (entry_at s n p)) 0 → b ≡ true
      go true l = refl
      go false l = absurd (omega arith)

  -- what names an inode is an entry
  pub naming_filled : 1 ≤ naming s n p → filled s n p ≡ true
  naming_filled l =
      let e = naming_slot l in
      filled_is.from
      (e, fails (is_empty (entry_at s n p)) (λ z. let a = naming_entry e in let b = empty_inode_lem (entry_at s n p) z in omega arith))

-- ---- slot t of directory d, and its place
module _ (d t : ℕ) (l : 1 ≤ d) (h : t < most_slots) where
  pub place_dir : dir_of (place_of d t) ≡ d
  place_dir = omega arith

  pub place_slot : slot_of (place_of d t) ≡ t
  place_slot = omega arith

module _ (s : List ℕ) (n d t : ℕ) (l : 1 ≤ d) (h : t < most_slots) where
  pub entry_place : entry_at s n (place_of d t) ≡ entry_of s n d t
  unfolding entry_at
  entry_place = ap₂ (entry_of s n) (place_dir d t l h) (place_slot d t l h)

  pub slot_place : Reflects (is_slot s (place_of d t)) ((kind_of s d ≡ directory_kind) × (t < slots s d))
  unfolding is_slot
  slot_place =
      r_same
      (sym (ap₂ (λ (x y : ℕ). eqb (kind_of s x) directory_kind && ltb y (slots s x)) (place_dir d t l h) (place_slot d t l h)))
      (r_and (r_eq (kind_of s d) directory_kind) (r_lt t (slots s d)))
