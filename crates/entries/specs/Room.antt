-- "a directory takes a block only when it has no empty slot and fewer than twelve blocks." n and b are the counts of inodes and blocks.
use Rattle.std.specs.Prelude.{Option, Some, None, ℕ, List, ltb, Err, Ok, Result}
use Rattle.bounded.specs.Search.{pick, on_found}
use Rattle.layout.specs.Sizes.{most_directory_blocks}
use Rattle.layout.specs.Inode.{size_of}
use Rattle.blocks.specs.Block.{blocks_used}
use Rattle.blocks.specs.Free.{free_block}
use Rattle.directory.specs.Slot.{slots, empty_slot}
use Rattle.answers.specs.declared.Refusal.{Refusal}
use Rattle.answers.specs.declared.Refusal.TheVariants.{NoBlocks, NoSlot}
use Rattle.content.specs.Content.{add_block}
use Rattle.entries.specs.declared.Room.{Room}
use Rattle.entries.specs.declared.CreatePlan.{CreatePlan}
use Rattle.entries.specs.declared.UnlinkPlan.{UnlinkPlan}

abbrev pub room : ℕ → Option ℕ → Room
room t c = record { slot = t; block = c }

abbrev pub creation : ℕ → Room → CreatePlan
creation i r = record { inode = i; room = r }

abbrev pub removal : ℕ → ℕ → UnlinkPlan
removal t i = record { slot = t; inode = i }

-- the lowest empty slot; else the first slot of a block more; refusals 12 and 13
unfoldable pub room_in : List ℕ → ℕ → ℕ → ℕ → Result Room Refusal
room_in s n b d =
    on_found (empty_slot s n d) (λ t. Ok (room t None))
    (pick (ltb (blocks_used (size_of s d)) most_directory_blocks)
    (on_found (free_block s n b) (λ c. Ok (room (slots s d) (Some c))) (Err NoBlocks))
    (Err NoSlot))

abbrev pub on_room : {A : Type 0} → Result Room Refusal → (Room → A) → (Refusal → A) → A
on_room (Ok r) f g = f r
on_room (Err e) f g = g e

-- the directory with its block more, where the room has one
unfoldable pub make_room : List ℕ → ℕ → ℕ → Room → List ℕ
make_room s n d r = on_found r.block (add_block s n d) s
