-- Each way that these plans return: look up, the room for an entry more, create and link.
use Rattle.std.specs.Prelude.{Result, Err, None, Ok, Some}
use Prim.Native.Nat.{ℕ, ◌≤◌, ◌<◌}
use mathlib.Core.Path.{◌≡◌, ap}
use mathlib.Core.Bool.{true, false}
use mathlib.Core.List.{List}
use native.Mathlib.Omega.{arith}
use borrow.Author.Tests.{lt-ltb, le-ltb}
use Rattle.layout.specs.Sizes.{most_directory_blocks}
use Rattle.layout.specs.Inode.{size_of, is_file, is_directory, free_inode}
use Rattle.blocks.specs.Block.{blocks_used}
use Rattle.blocks.specs.Free.{free_block}
use Rattle.names.specs.Name.{legal_name}
use Rattle.directory.specs.Slot.{slots, most_slots, empty_slot, find_slot, inode_at}
use Rattle.answers.specs.declared.Refusal.{Refusal}
use Rattle.answers.specs.declared.Refusal.TheVariants.{IllegalName, WrongInode, NameTaken, NoInode, NoBlocks, NoSlot, NameAbsent}
use Rattle.entries.specs.declared.Room.{Room}
use Rattle.entries.specs.Room.{room, room_in, creation}
use Rattle.entries.specs.Plan.{create_plan, link_plan, look_up_plan}

-- ---- look up
module _ (s : List ℕ) (n d : ℕ) (name : List ℕ) where
  pub look_illegal : legal_name name ≡ false → Err IllegalName ≡ look_up_plan s n d name
  unfolding look_up_plan
  look_illegal a = rw a

  pub look_wrong : legal_name name ≡ true → is_directory s n d ≡ false → Err WrongInode ≡ look_up_plan s n d name
  unfolding look_up_plan
  look_wrong a b = rw (a, b)

  pub look_absent : legal_name name ≡ true → is_directory s n d ≡ true → find_slot s n d name ≡ None → Err NameAbsent ≡ look_up_plan s n d name
  unfolding look_up_plan
  look_absent a b f = rw (a, b, f)

  pub look_done : (t r : ℕ) → legal_name name ≡ true → is_directory s n d ≡ true → find_slot s n d name ≡ Some t → r ≡ inode_at s n d t → Ok r ≡ look_up_plan s n d name
  unfolding look_up_plan
  look_done t r a b f e = rw (a, b, f) (ap Ok e)

-- ---- the room for an entry
module _ (s : List ℕ) (n b d : ℕ) where
  pub room_empty : (t : ℕ) → empty_slot s n d ≡ Some t → Ok (room t None) ≡ room_in s n b d
  unfolding room_in
  room_empty t e = rw e

  module _ (x : ℕ) (e : empty_slot s n d ≡ None) (q : x ≡ slots s d) where
    pub room_none : most_slots ≤ x → Err NoSlot ≡ room_in s n b d
    unfolding room_in slots
    room_none l = rw (e, le-ltb (blocks_used (size_of s d)) most_directory_blocks (omega arith))

    pub room_blockless : x < most_slots → free_block s n b ≡ None → Err NoBlocks ≡ room_in s n b d
    unfolding room_in slots
    room_blockless l f = rw (e, lt-ltb (blocks_used (size_of s d)) most_directory_blocks (omega arith), f)

    pub room_more : (c : ℕ) → x < most_slots → free_block s n b ≡ Some c → Ok (room x (Some c)) ≡ room_in s n b d
    unfolding room_in slots
    room_more c l f = rw (e, lt-ltb (blocks_used (size_of s d)) most_directory_blocks (omega arith), f, q)

-- ---- create
module _ (s : List ℕ) (n b d : ℕ) (name : List ℕ) where
  pub create_illegal : legal_name name ≡ false → Err IllegalName ≡ create_plan s n b d name
  unfolding create_plan
  create_illegal l = rw l

  module _ (l : legal_name name ≡ true) where
    pub create_wrong : is_directory s n d ≡ false → Err WrongInode ≡ create_plan s n b d name
    unfolding create_plan
    create_wrong k = rw (l, k)

    module _ (k : is_directory s n d ≡ true) where
      pub create_taken : (t : ℕ) → find_slot s n d name ≡ Some t → Err NameTaken ≡ create_plan s n b d name
      unfolding create_plan
      create_taken t f = rw (l, k, f)

      module _ (f : find_slot s n d name ≡ None) where
        pub create_full : free_inode s n ≡ None → Err NoInode ≡ create_plan s n b d name
        unfolding create_plan
        create_full g = rw (l, k, f, g)

        module _ (i : ℕ) (g : free_inode s n ≡ Some i) where
          pub create_make : (r : Room) → room_in s n b d ≡ Ok r → Ok (creation i r) ≡ create_plan s n b d name
          unfolding create_plan
          create_make r h = rw (l, k, f, g, h)

          pub create_roomless : (w : Refusal) → room_in s n b d ≡ Err w → Err w ≡ create_plan s n b d name
          unfolding create_plan
          create_roomless w h = rw (l, k, f, g, h)

-- ---- link
module _ (s : List ℕ) (n b d : ℕ) (name : List ℕ) (i : ℕ) where
  pub link_illegal : legal_name name ≡ false → Err IllegalName ≡ link_plan s n b d name i
  unfolding link_plan
  link_illegal l = rw l

  module _ (l : legal_name name ≡ true) where
    pub link_wrong : is_directory s n d ≡ false → Err WrongInode ≡ link_plan s n b d name i
    unfolding link_plan
    link_wrong k = rw (l, k)

    module _ (k : is_directory s n d ≡ true) where
      pub link_other : is_file s n i ≡ false → Err WrongInode ≡ link_plan s n b d name i
      unfolding link_plan
      link_other j = rw (l, k, j)

      module _ (j : is_file s n i ≡ true) where
        pub link_taken : (t : ℕ) → find_slot s n d name ≡ Some t → Err NameTaken ≡ link_plan s n b d name i
        unfolding link_plan
        link_taken t f = rw (l, k, j, f)

        module _ (f : find_slot s n d name ≡ None) where
          pub link_room : {r : Result Room Refusal} → r ≡ room_in s n b d → r ≡ link_plan s n b d name i
          unfolding link_plan
          link_room h = rw (l, k, j, f) h
