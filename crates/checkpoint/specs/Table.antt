-- "Given by number, looked at lowest first, when and only when the condition holds for that call": the conditions of each call on a store in a table. s is the store, m the image.
use Rattle.std.specs.Prelude.{ℕ, ◌+◌, ◌-◌, max, Bool, true, false, not, ◌&&◌, ◌||◌, eqb, ltb, length, None, Option, Some}
use mathlib.Core.List.{List, [], ◌∷◌, ◌++◌, tail}
use Rattle.files.specs.Guard.{store_rows}
use Rattle.bounded.specs.Below.{all_to}
use Rattle.bounded.specs.Search.{pick}
use Rattle.layout.specs.Sizes.{most_file_bytes, most_directory_blocks}
use Rattle.layout.specs.Header.{header_of}
use Rattle.layout.specs.Inode.{kind_of, size_of, directory_kind, is_file, is_directory, free_inode}
use Rattle.blocks.specs.Block.{blocks_used, is_long}
use Rattle.blocks.specs.Free.{named_by, long_but, free_block}
use Rattle.names.specs.Name.{legal_name}
use Rattle.directory.specs.Slot.{find_slot, empty_slot, inode_at}
use Rattle.desk.specs.Desk.{desk_of}
use Rattle.sound.specs.Sound.{inodes_in, blocks_in}
use Rattle.answers.specs.declared.Refusal.TheVariants.{BadBuffer, IllegalName, WrongInode, NameAbsent, NameTaken, NotEmpty, PastEnd, IntoItself, KindsDiffer, NoInode, NoBlocks, NoSlot, Busy, WrongState, ImageFull, BadCount}
use Rattle.answers.specs.Order.{Row, row}
use Rattle.entries.specs.Plan.{holds_none, is_below}
use Rattle.files.specs.Effect.{watched}
use Rattle.checkpoint.specs.Fit.{is_running, both_framed, all_framed}
use Rattle.checkpoint.specs.Busy.{any_locked}
use Rattle.checkpoint.specs.Live.{guard_rows}
use Rattle.checkpoint.specs.Burst.{count_allowed}

-- ---- conditions
abbrev pub found : Option ℕ → Bool
found (Some t) = true
found None = false

abbrev pub or_zero : Option ℕ → ℕ
or_zero (Some t) = t
or_zero None = 0

-- 1, 2 and 3 of a call on all three buffers; the state question has no more
abbrev pub live_rows : List ℕ → List ℕ → List ℕ → List Row
live_rows s m desk = guard_rows (both_framed s desk) s m desk

-- 12: "too few free blocks" for an entry more in e; 13: "all 48 slots used"
abbrev pub no_block : List ℕ → ℕ → Bool
no_block s e =
    not (found (empty_slot s (inodes_in s) e)) && (ltb (blocks_used (size_of s e)) most_directory_blocks && not (found (free_block s (inodes_in s) (blocks_in s))))

abbrev pub no_slot : List ℕ → ℕ → Bool
no_slot s e = not (found (empty_slot s (inodes_in s) e)) && not (ltb (blocks_used (size_of s e)) most_directory_blocks)

-- the slot of the name in e, and its inode
abbrev pub slot_for : List ℕ → ℕ → List ℕ → ℕ
slot_for s e name = or_zero (find_slot s (inodes_in s) e name)

abbrev pub inode_for : List ℕ → ℕ → List ℕ → ℕ
inode_for s e name = inode_at s (inodes_in s) e (slot_for s e name)

-- ---- the tables
unfoldable pub look_up_table : List ℕ → ℕ → List ℕ → List Row
look_up_table s e name =
    store_rows s
    ++ (row (not (legal_name name)) IllegalName
    ∷ row (not (is_directory s (inodes_in s) e)) WrongInode
    ∷ row (not (found (find_slot s (inodes_in s) e name))) NameAbsent
    ∷ [])

unfoldable pub read_table : List ℕ → ℕ → ℕ → List Row
read_table s i o =
    store_rows s
    ++ (row (not (is_file s (inodes_in s) i)) WrongInode
    ∷ row (ltb (size_of s i) o) PastEnd
    ∷ [])

unfoldable pub create_table : List ℕ → List ℕ → List ℕ → ℕ → List ℕ → List Row
create_table s m desk e name =
    live_rows s m desk
    ++ (row (not (legal_name name)) IllegalName
    ∷ row (not (is_directory s (inodes_in s) e)) WrongInode
    ∷ row (found (find_slot s (inodes_in s) e name)) NameTaken
    ∷ row (not (found (free_inode s (inodes_in s)))) NoInode
    ∷ row (no_block s e) NoBlocks
    ∷ row (no_slot s e) NoSlot
    ∷ row (any_locked desk (e ∷ [])) Busy
    ∷ [])

unfoldable pub write_table : List ℕ → List ℕ → List ℕ → ℕ → ℕ → List ℕ → List Row
write_table s m desk i o xs =
    live_rows s m desk
    ++ (row (not (is_file s (inodes_in s) i)) WrongInode
    ∷ row (ltb (size_of s i) o || ltb most_file_bytes (o + length xs)) PastEnd
    ∷ row (ltb (header_of s).free_blocks (blocks_used (max (size_of s i) (o + length xs)) - blocks_used (size_of s i))) NoBlocks
    ∷ row (any_locked desk (i ∷ [])) Busy
    ∷ [])

unfoldable pub shorten_table : List ℕ → List ℕ → List ℕ → ℕ → ℕ → List Row
shorten_table s m desk i z =
    live_rows s m desk
    ++ (row (not (is_file s (inodes_in s) i)) WrongInode
    ∷ row (ltb (size_of s i) z) PastEnd
    ∷ row (any_locked desk (i ∷ [])) Busy
    ∷ [])

unfoldable pub link_table : List ℕ → List ℕ → List ℕ → ℕ → List ℕ → ℕ → List Row
link_table s m desk e name i =
    live_rows s m desk
    ++ (row (not (legal_name name)) IllegalName
    ∷ row (not (is_directory s (inodes_in s) e && is_file s (inodes_in s) i)) WrongInode
    ∷ row (found (find_slot s (inodes_in s) e name)) NameTaken
    ∷ row (no_block s e) NoBlocks
    ∷ row (no_slot s e) NoSlot
    ∷ row (any_locked desk (e ∷ i ∷ [])) Busy
    ∷ [])

unfoldable pub unlink_table : List ℕ → List ℕ → List ℕ → ℕ → List ℕ → List Row
unlink_table s m desk e name =
    let i = inode_for s e name in
    live_rows s m desk
    ++ (row (not (legal_name name)) IllegalName
    ∷ row (not (is_directory s (inodes_in s) e)) WrongInode
    ∷ row (not (found (find_slot s (inodes_in s) e name))) NameAbsent
    ∷ row (eqb (kind_of s i) directory_kind && not (holds_none s (inodes_in s) i)) NotEmpty
    ∷ row (any_locked desk (e ∷ i ∷ [])) Busy
    ∷ [])

-- the new name in f is taken by another entry than the one renamed
abbrev pub taken_for : List ℕ → ℕ → List ℕ → ℕ → List ℕ → Bool
taken_for s e name f other = found (find_slot s (inodes_in s) f other) && (not (eqb e f) || not (eqb (slot_for s f other) (slot_for s e name)))

-- F-3: 8 and 18 are for a name that another entry has, its inode h. "Blocks and slots are judged as they are once the old holder is gone": its slot is
-- empty then, so 12 and 13 are for a move to a name that none has. "A locked holder that would be replaced is busy."
unfoldable pub rename_table : List ℕ → List ℕ → List ℕ → ℕ → List ℕ → ℕ → List ℕ → List Row
rename_table s m desk e name f other =
    let i = inode_for s e name in
    let h = inode_for s f other in
    let moves = not (eqb e f) in
    let taken = taken_for s e name f other in
    live_rows s m desk
    ++ (row (not (legal_name name && legal_name other)) IllegalName
    ∷ row (not (is_directory s (inodes_in s) e && is_directory s (inodes_in s) f)) WrongInode
    ∷ row (not (found (find_slot s (inodes_in s) e name))) NameAbsent
    ∷ row (taken && (eqb (kind_of s h) directory_kind && not (holds_none s (inodes_in s) h))) NotEmpty
    ∷ row (moves && is_below s (inodes_in s) i f) IntoItself
    ∷ row (taken && not (eqb (kind_of s i) (kind_of s h))) KindsDiffer
    ∷ row (not taken && (moves && no_block s f)) NoBlocks
    ∷ row (not taken && (moves && no_slot s f)) NoSlot
    ∷ row (any_locked desk (pick (taken && not (eqb i h)) (f ∷ h ∷ watched e f i) (watched e f i))) Busy
    ∷ [])

-- the lap recorder's, "with the old rule": "7 new name taken by another entry"; 10, 12 and 13 are for a move alone
unfoldable pub rename_new_table : List ℕ → List ℕ → List ℕ → ℕ → List ℕ → ℕ → List ℕ → List Row
rename_new_table s m desk e name f other =
    let i = inode_for s e name in
    let moves = not (eqb e f) in
    live_rows s m desk
    ++ (row (not (legal_name name && legal_name other)) IllegalName
    ∷ row (not (is_directory s (inodes_in s) e && is_directory s (inodes_in s) f)) WrongInode
    ∷ row (not (found (find_slot s (inodes_in s) e name))) NameAbsent
    ∷ row (taken_for s e name f other) NameTaken
    ∷ row (moves && is_below s (inodes_in s) i f) IntoItself
    ∷ row (moves && no_block s f) NoBlocks
    ∷ row (moves && no_slot s f) NoSlot
    ∷ row (any_locked desk (watched e f i)) Busy
    ∷ [])

unfoldable pub start_table : List ℕ → List ℕ → List ℕ → List Row
start_table s m desk =
    guard_rows (all_framed s m desk) s m desk
    ++ row (is_running desk) WrongState
    ∷ []

-- 16: "a block step with every image block named"
unfoldable pub step_table : List ℕ → List ℕ → List ℕ → List Row
step_table s m desk =
    let i = (desk_of desk).locked in
    let k = (desk_of desk).transferred in
    live_rows s m desk
    ++ (row (not (is_running desk)) WrongState
    ∷ row (not (eqb i 0) && (ltb k (blocks_used (size_of s i)) && all_to (named_by (long_but m i (is_long s i)) m (inodes_in s)) (desk_of desk).blocks)) ImageFull
    ∷ [])

-- a burst of k steps: "17 when the number of steps is outside 1 to 64; it comes right after 1"; then what its first step looks at after 1
unfoldable pub burst_table : ℕ → List ℕ → List ℕ → List ℕ → List Row
burst_table k s m desk =
    row (not (both_framed s desk)) BadBuffer
    ∷ row (not (count_allowed k)) BadCount
    ∷ tail (step_table s m desk)
