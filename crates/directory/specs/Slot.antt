-- The slots of a directory, counted from 0: their entries read, searched and written. n is the inode count, d a directory.
use Rattle.std.specs.Prelude.{ℕ, ◌+◌, ◌*◌, ◌/◌, ◌%◌, Bool, List, replicate, Option}
use Rattle.bounded.specs.Search.{first}
use Rattle.octets.specs.Octets.{part, splice}
use Rattle.layout.specs.Sizes.{most_directory_blocks}
use Rattle.layout.specs.Inode.{size_of}
use Rattle.blocks.specs.Block.{block_at, blocks_used, kth_block}
use Rattle.names.specs.Entry.{entry_bytes, is_empty, same_name, entry_for, entry_inode}

-- "A directory block is four entries of 16 bytes"
abbrev pub slots_in_block : ℕ
slots_in_block = 4

-- "Slots of a directory are counted from 0, at most 48."
abbrev pub most_slots : ℕ
most_slots = slots_in_block * most_directory_blocks

-- the slots inside of a directory's size
unfoldable pub slots : List ℕ → ℕ → ℕ
slots s d = slots_in_block * blocks_used (size_of s d)

-- where slot t of d starts
unfoldable pub slot_at : List ℕ → ℕ → ℕ → ℕ → ℕ
slot_at s n d t = block_at n (kth_block s n d (t / slots_in_block)) + entry_bytes * (t % slots_in_block)

-- the 16 bytes of slot t
unfoldable pub entry_of : List ℕ → ℕ → ℕ → ℕ → List ℕ
entry_of s n d t = part s (slot_at s n d t) entry_bytes

-- the inode that slot t of d names
abbrev pub inode_at : List ℕ → ℕ → ℕ → ℕ → ℕ
inode_at s n d t = entry_inode (entry_of s n d t)

-- slot t has the name
unfoldable pub slot_has_name : List ℕ → ℕ → ℕ → List ℕ → ℕ → Bool
slot_has_name s n d name t = same_name (entry_of s n d t) name

-- the slot of the name
unfoldable pub find_slot : List ℕ → ℕ → ℕ → List ℕ → Option ℕ
find_slot s n d name = first (slot_has_name s n d name) (slots s d)

-- slot t is empty
unfoldable pub slot_empty : List ℕ → ℕ → ℕ → ℕ → Bool
slot_empty s n d t = is_empty (entry_of s n d t)

-- the lowest empty slot
unfoldable pub empty_slot : List ℕ → ℕ → ℕ → Option ℕ
empty_slot s n d = first (slot_empty s n d) (slots s d)

-- s with an entry in slot t that names inode i by name
unfoldable pub put_entry : List ℕ → ℕ → ℕ → ℕ → ℕ → List ℕ → List ℕ
put_entry s n d t i name = splice s (slot_at s n d t) (entry_for i name)

-- s with slot t empty
unfoldable pub clear_entry : List ℕ → ℕ → ℕ → ℕ → List ℕ
clear_entry s n d t = splice s (slot_at s n d t) (replicate entry_bytes 0)
