-- What look up, create, link, unlink and rename are to do on a sound store, or a refusal: that of the first condition that holds. n and b are the counts of inodes and blocks.
use Rattle.std.specs.Prelude.{ℕ, Bool, not, ◌&&◌, List, eqb, Err, Ok, Result}
use Rattle.bounded.specs.Below.{all_below}
use Rattle.bounded.specs.Search.{pick, on_found}
use Rattle.bounded.specs.Climb.{leads_b}
use Rattle.layout.specs.Inode.{kind_of, parent_of, directory_kind, is_file, is_directory, free_inode}
use Rattle.names.specs.Name.{legal_name}
use Rattle.directory.specs.Slot.{slots, inode_at, find_slot, slot_empty}
use Rattle.answers.specs.declared.Refusal.{Refusal}
use Rattle.answers.specs.declared.Refusal.TheVariants.{IllegalName, WrongInode, NameAbsent, NameTaken, NotEmpty, IntoItself, KindsDiffer, NoInode}
use Rattle.entries.specs.Room.{room_in, on_room, creation, removal}
use Rattle.answers.specs.Told.{Answer}
use Rattle.entries.specs.declared.Room.{Room}
use Rattle.entries.specs.declared.CreatePlan.{CreatePlan}
use Rattle.entries.specs.declared.RenamePlan.TheVariants.{Move, Rename}
use Rattle.entries.specs.declared.OverPlan.TheVariants.{Over, Same}
use Rattle.entries.specs.declared.UnlinkPlan.{UnlinkPlan}
use Rattle.entries.specs.declared.RenamePlan.{RenamePlan}
use Rattle.entries.specs.declared.OverPlan.{OverPlan}

-- look up: 4, 5, 6
unfoldable pub look_up_plan : List ℕ → ℕ → ℕ → List ℕ → Answer
look_up_plan s n d name =
    pick (not (legal_name name)) (Err IllegalName)
    (pick (not (is_directory s n d)) (Err WrongInode)
    (on_found (find_slot s n d name) (λ t. Ok (inode_at s n d t)) (Err NameAbsent)))

-- create: 4, 5, 7, 11, 12, 13
unfoldable pub create_plan : List ℕ → ℕ → ℕ → ℕ → List ℕ → Result CreatePlan Refusal
create_plan s n b d name =
    pick (not (legal_name name)) (Err IllegalName)
    (pick (not (is_directory s n d)) (Err WrongInode)
    (on_found (find_slot s n d name) (λ t. Err NameTaken)
    (on_found (free_inode s n) (λ i. on_room (room_in s n b d) (λ r. Ok (creation i r)) Err)
    (Err NoInode))))

-- link: 4, 5, 7, 12, 13
unfoldable pub link_plan : List ℕ → ℕ → ℕ → ℕ → List ℕ → ℕ → Result Room Refusal
link_plan s n b d name i =
    pick (not (legal_name name)) (Err IllegalName)
    (pick (not (is_directory s n d && is_file s n i)) (Err WrongInode)
    (on_found (find_slot s n d name) (λ t. Err NameTaken)
    (room_in s n b d)))

-- no entry stands in d
unfoldable pub holds_none : List ℕ → ℕ → ℕ → Bool
holds_none s n d = all_below (slot_empty s n d) (slots s d)

-- unlink: 4, 5, 6, 8; "Directories unlink only when empty"
unfoldable pub unlink_plan : List ℕ → ℕ → ℕ → List ℕ → Result UnlinkPlan Refusal
unlink_plan s n d name =
    pick (not (legal_name name)) (Err IllegalName)
    (pick (not (is_directory s n d)) (Err WrongInode)
    (on_found (find_slot s n d name)
    (λ t. pick (eqb (kind_of s (inode_at s n d t)) directory_kind && not (holds_none s n (inode_at s n d t))) (Err NotEmpty) (Ok (removal t (inode_at s n d t))))
    (Err NameAbsent)))

-- refusal 10: i is a directory, and e is it or below it
unfoldable pub is_below : List ℕ → ℕ → ℕ → ℕ → Bool
is_below s n i e = eqb (kind_of s i) directory_kind && leads_b (parent_of s) i n e

-- ---- the lap recorder's rename, which keeps what has the new name
-- the entry in slot t, which names i, is to have another name in its directory e: 7.
-- "A rename within a directory keeps its slot and its mark"; F-5: "Renaming an entry to another spelling of its own name writes
-- the new spelling." "To the same name it changes nothing" follows: its bytes are written again (`same_name` in proofs/RenameKeeps).
abbrev pub rename_within : List ℕ → ℕ → ℕ → ℕ → ℕ → List ℕ → Result RenamePlan Refusal
rename_within s n t i e other = on_found (find_slot s n e other) (λ u. pick (eqb u t) (Ok (Rename t i)) (Err NameTaken)) (Ok (Rename t i))

-- it is to go to another directory e: 7, 10, 12, 13; "A new name that is taken refuses."
abbrev pub move_to : List ℕ → ℕ → ℕ → ℕ → ℕ → ℕ → List ℕ → Result RenamePlan Refusal
move_to s n b t i e other =
    on_found (find_slot s n e other) (λ u. Err NameTaken)
    (pick (is_below s n i e) (Err IntoItself)
    (on_room (room_in s n b e) (λ r. Ok (Move t i r)) Err))

-- from directory d
unfoldable pub rename_to : List ℕ → ℕ → ℕ → ℕ → ℕ → ℕ → ℕ → List ℕ → Result RenamePlan Refusal
rename_to s n b d t i e other = pick (eqb d e) (rename_within s n t i e other) (move_to s n b t i e other)

-- 4, 5, 6, 7, 10, 12, 13
unfoldable pub rename_new_plan : List ℕ → ℕ → ℕ → ℕ → List ℕ → ℕ → List ℕ → Result RenamePlan Refusal
rename_new_plan s n b d name e other =
    pick (not (legal_name name && legal_name other)) (Err IllegalName)
    (pick (not (is_directory s n d && is_directory s n e)) (Err WrongInode)
    (on_found (find_slot s n d name)
    (λ t. rename_to s n b d t (inode_at s n d t) e other)
    (Err NameAbsent)))

-- ---- F-3: "a rename onto a name taken by another entry unlinks this old holder and then renames"
-- i is to have a name in e that stands for h, from directory d: 10, 18; "If both names already stand for the same file, nothing changes"
unfoldable pub over_of : List ℕ → ℕ → ℕ → ℕ → ℕ → ℕ → Result OverPlan Refusal
over_of s n d i e h =
    pick (not (eqb d e) && is_below s n i e) (Err IntoItself)
    (pick (not (eqb (kind_of s i) (kind_of s h))) (Err KindsDiffer)
    (pick (eqb i h) (Ok (Same i)) (Ok (Over i h))))

abbrev pub on_number : {A : Type 0} → Answer → (ℕ → A) → (Refusal → A) → A
on_number (Ok i) f g = f i
on_number (Err e) f g = g e

abbrev pub on_unlink : {A : Type 0} → Result UnlinkPlan Refusal → (ℕ → ℕ → A) → (Refusal → A) → A
on_unlink (Ok c) f g = f c.slot c.inode
on_unlink (Err e) f g = g e

-- asked only where the recorder's rename has 7, so that 4, 5 and 6 do not come; 8 is the unlink's own, "whichever kind comes"
unfoldable pub over_plan : List ℕ → ℕ → ℕ → List ℕ → ℕ → List ℕ → Result OverPlan Refusal
over_plan s n d name e other = on_number (look_up_plan s n d name) (λ i. on_unlink (unlink_plan s n e other) (λ u h. over_of s n d i e h) Err) Err
