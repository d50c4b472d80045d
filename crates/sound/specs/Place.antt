-- The slots of all directories in a row: place p is slot p mod 48 of directory p div 48 + 1. n is the inode count.
use Rattle.std.specs.Prelude.{ℕ, ◌+◌, ◌*◌, ◌-◌, ◌/◌, ◌%◌, ◌≤◌, ◌≡◌, Bool, not, ◌&&◌, List, eqb, ltb}
use Rattle.bounded.specs.Search.{pick}
use Rattle.layout.specs.Inode.{kind_of, directory_kind}
use Rattle.names.specs.Entry.{entry_inode, is_empty}
use Rattle.directory.specs.Slot.{most_slots, slots, entry_of}

abbrev pub dir_of : ℕ → ℕ
dir_of p = p / most_slots + 1

abbrev pub slot_of : ℕ → ℕ
slot_of p = p % most_slots

-- the place of slot t of d
abbrev pub place_of : ℕ → ℕ → ℕ
place_of d t = most_slots * (d - 1) + t

-- a directory has the slot
unfoldable pub is_slot : List ℕ → ℕ → Bool
is_slot s p = eqb (kind_of s (dir_of p)) directory_kind && ltb (slot_of p) (slots s (dir_of p))

-- its 16 bytes
unfoldable pub entry_at : List ℕ → ℕ → ℕ → List ℕ
entry_at s n p = entry_of s n (dir_of p) (slot_of p)

-- an entry stands there
unfoldable pub filled : List ℕ → ℕ → ℕ → Bool
filled s n p = is_slot s p && not (is_empty (entry_at s n p))

-- the inode that it names, 0 where there is none
unfoldable pub naming : List ℕ → ℕ → ℕ → ℕ
naming s n p = pick (is_slot s p) (entry_inode (entry_at s n p)) 0

-- d is a directory of n inodes
pub record IsDir (s : List ℕ) (n d : ℕ) : Type 0 where
  pub low : 1 ≤ d
  pub high : d ≤ n
  pub kind : kind_of s d ≡ directory_kind
