-- The image while it is being made. "An image directory's slots are those of the blocks its addresses name, whatever its size." n is the inode count.
use Rattle.std.specs.Prelude.{ℕ, ◌*◌, ◌/◌, Bool, not, ◌&&◌, List, eqb}
use Rattle.bounded.specs.Below.{some_below}
use Rattle.bounded.specs.Search.{pick}
use Rattle.layout.specs.Inode.{kind_of, directory_kind}
use Rattle.blocks.specs.Block.{kth_block}
use Rattle.names.specs.Entry.{entry_inode}
use Rattle.directory.specs.Slot.{most_slots, slots_in_block, entry_of}
use Rattle.sound.specs.Place.{dir_of, slot_of}

-- directory d has slot t in the image
unfoldable pub has_slot : List ℕ → ℕ → ℕ → ℕ → Bool
has_slot m n d t = eqb (kind_of m d) directory_kind && not (eqb (kth_block m n d (t / slots_in_block)) 0)

-- the inode that the image's slot t of d names, 0 where there is none
unfoldable pub slot_names : List ℕ → ℕ → ℕ → ℕ → ℕ
slot_names m n d t = pick (has_slot m n d t) (entry_inode (entry_of m n d t)) 0

-- the same for place p of all slots in a row
abbrev pub image_naming : List ℕ → ℕ → ℕ → ℕ
image_naming m n p = slot_names m n (dir_of p) (slot_of p)

-- some image directory names inode i
unfoldable pub inode_named : List ℕ → ℕ → ℕ → Bool
inode_named m n i = some_below (λ p. eqb (image_naming m n p) i) (most_slots * n)
