-- What the check's pass over the entries holds in its arrays, and the climb to the root in its list. n is the inode count, d a directory.
use Rattle.std.specs.Prelude.{ℕ, ◌+◌, ◌<◌, ◌≡◌, Bool, true, false, List, length, get_or}
use Rattle.bounded.specs.Climb.{Leads}
use Rattle.bounded.specs.Count.{Tallied}
use Rattle.names.specs.Entry.{name_at}
use Rattle.names.specs.Words.{words_at}
use Rattle.names.specs.declared.Name.{Name}
use Rattle.directory.specs.Slot.{most_slots, entry_of}
use Rattle.layout.specs.Sizes.{most_inodes, root_inode}
use Rattle.layout.specs.Inode.{parent_of}
use Rattle.sound.specs.Place.{naming}

-- what an empty entry reads as
abbrev pub no_name : Name
no_name = record { low = 0; high = 0 }

-- the name in slot t of d
abbrev pub name_of : List ℕ → ℕ → ℕ → ℕ → Name
name_of s n d t = words_at (entry_of s n d t) name_at

-- the names of the first t slots of d are read, and the inodes that all places before p name are counted
pub record Passed (s : List ℕ) (n d t p : ℕ) (names : List Name) (counts : List ℕ) : Type 0 where
  pub long : length names ≡ most_slots
  pub each : (u : ℕ) → u < t → get_or names u no_name ≡ name_of s n d u
  pub counted : Tallied (naming s n) 1 (most_inodes + 1) p counts

-- the list tells of some numbers, the root among them, that they lead to the root
pub record Known (s : List ℕ) (known : List Bool) : Type 0 where
  pub long : length known ≡ most_inodes + 1
  pub root : get_or known root_inode false ≡ true
  pub each : (x : ℕ) → get_or known x false ≡ true → Leads (parent_of s) root_inode x
