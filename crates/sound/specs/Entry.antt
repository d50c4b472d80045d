-- What holds of the entry at each place. n is the inode count, p is below 48 × n.
use Rattle.std.specs.Prelude.{ℕ, ◌+◌, ◌*◌, ◌/◌, ◌≤◌, ◌<◌, ◌≡◌, Bool, true, false, List}
use Rattle.octets.specs.Octets.{part}
use Rattle.layout.specs.Sizes.{root_inode}
use Rattle.layout.specs.Inode.{kind_of, parent_of, free_kind, directory_kind}
use Rattle.names.specs.Name.{name_bytes}
use Rattle.names.specs.Entry.{name_at, same_name, legal_entry}
use Rattle.directory.specs.Slot.{most_slots}
use Rattle.sound.specs.Place.{dir_of, slot_of, entry_at, filled, naming}

-- the places p and q hold entries of one name
unfoldable pub same_names : List ℕ → ℕ → ℕ → ℕ → Bool
same_names s n p q = same_name (entry_at s n p) (part (entry_at s n q) name_at name_bytes)

-- slot t of the directory of place p
abbrev pub sibling : ℕ → ℕ → ℕ
sibling p t = most_slots * (p / most_slots) + t

-- an entry stands at p
pub record EntrySound (s : List ℕ) (n p : ℕ) : Type 0 where
  -- "Names in a directory differ, and are legal."; F-5: "A store or image with two such names in a directory is no longer sound"
  pub legal : legal_entry (entry_at s n p) ≡ true
  pub differ : (t : ℕ) → t < slot_of p → filled s n (sibling p t) ≡ true → same_names s n (sibling p t) p ≡ false
  -- "Entries name every inode in use but the root, and nothing else"
  pub low : 1 ≤ naming s n p
  pub high : naming s n p ≤ n
  pub used : kind_of s (naming s n p) ≡ free_kind → ⊥
  pub not_root : naming s n p ≡ root_inode → ⊥
  -- "A directory has one entry, in its parent"
  pub parent : kind_of s (naming s n p) ≡ directory_kind → parent_of s (naming s n p) ≡ dir_of p
