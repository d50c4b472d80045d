-- "Track cases (★ proved)": one table.
use Rattle.std.specs.Prelude.{ℕ, ◌+◌, ◌*◌, ◌-◌, ◌≤◌, ◌<◌, ◌≡◌, true, false, List, [], ◌∷◌, ◌++◌, length, get_or, replicate, Err, None, Ok, Some}
use Rattle.bounded.specs.Count.{tally}
use Rattle.bounded.specs.Table.{table}
use Rattle.layout.specs.Sizes.{most_file_bytes}
use Rattle.layout.specs.Header.{header_of}
use Rattle.layout.specs.Inode.{size_of, is_file, is_directory, free_inode}
use Rattle.blocks.specs.Block.{blocks_used, block_of, kth_block}
use Rattle.names.specs.Name.{name_bytes, slash, legal_name}
use Rattle.directory.specs.Slot.{most_slots, slots, find_slot, empty_slot, slot_empty}
use Rattle.desk.specs.Sizes.{finished}
use Rattle.desk.specs.Desk.{desk_of}
use Rattle.desk.specs.Next.{locks}
use Rattle.answers.specs.declared.Refusal.TheVariants.{IllegalName, NameTaken, NotEmpty, PastEnd, NoSlot, WrongState, IntoItself, KindsDiffer}
use Rattle.answers.specs.Told.{told}
use Rattle.sound.specs.Sound.{inodes_in, blocks_in}
use Rattle.sound.specs.Place.{naming}
use Rattle.content.specs.Content.{file_bytes}
use Rattle.entries.specs.declared.Kind.{Kind}
use Rattle.entries.specs.declared.Kind.TheVariants.{File}
use Rattle.files.specs.Effect.{look_up, create, write, rename, rename_new}
use Rattle.checkpoint.specs.Fit.{is_running}
use Rattle.checkpoint.specs.Live.{World}
use Rattle.checkpoint.specs.List.{Ready, call, advances, starts, outcome, next, run, Finish}
use Rattle.cases.specs.Worlds.{fresh, name_a, name_b, one_file, ten_bytes, entered, reused_block, over_the_edge, moved_directory, unlinked_file, parent_and_child, replaced_file, taken_names}

-- the counts of the world's store
abbrev pub inodes : World → ℕ
inodes w = inodes_in w.store

abbrev pub blocks : World → ℕ
blocks w = blocks_in w.store

-- a write of xs to the file i at o on a store that has the blocks, of no locked inode
pub record Writes (w : World) (i o : ℕ) (xs : List ℕ) : Type 0 where
  pub ready : Ready w
  pub file : is_file w.store (inodes w) i ≡ true
  pub free : (z : ℕ) → z ≤ most_file_bytes → blocks_used z - blocks_used (size_of w.store i) ≤ (header_of w.store).free_blocks
  pub idle : locks (desk_of w.desk) i ≡ false

-- a create of a new name in the directory d, of no locked inode, with an inode to be had
pub record Creates (w : World) (d : ℕ) (name : List ℕ) : Type 0 where
  pub ready : Ready w
  pub directory : is_directory w.store (inodes w) d ≡ true
  pub new : find_slot w.store (inodes w) d name ≡ None
  pub inode : ℕ
  pub free : free_inode w.store (inodes w) ≡ Some inode
  pub idle : locks (desk_of w.desk) d ≡ false

pub record TrackCases : Type 0 where
  -- "N 1, empty root: three steps finish."
  pub three_steps : ((outcome advances (run (starts ∷ advances ∷ advances ∷ []) (fresh 1 1))).answer ≡ told (Ok 3))
      × ((desk_of (run (starts ∷ advances ∷ advances ∷ advances ∷ []) (fresh 1 1)).desk).state ≡ finished)
  -- so a finish is reached
  pub finish : Finish (advances ∷ advances ∷ advances ∷ []) (next starts (fresh 1 1))
  -- "Name of 14 bytes passes, 15 gives 4.": where the directory has an empty slot
  pub fourteen : (w : World) (d t : ℕ) (name : List ℕ) (k : Kind) (c : Creates w d name) → length name ≡ name_bytes
      → ((j : ℕ) → j < name_bytes → (get_or name j 0 ≡ 0 → ⊥) × (get_or name j 0 ≡ slash → ⊥))
      → empty_slot w.store (inodes w) d ≡ Some t
      → (outcome (call (create d name k)) w).answer ≡ told (Ok c.inode)
  pub fifteen : (w : World) (d : ℕ) (name : List ℕ) (k : Kind) → Ready w → length name ≡ name_bytes + 1
      → (outcome (call (create d name k)) w).answer ≡ told (Err IllegalName)
  -- on a shown store
  pub fourteen_shown : (outcome (call (create 1 (replicate name_bytes 97) File)) (fresh 2 1)).answer ≡ told (Ok 2)
  pub fifteen_shown : (outcome (call (create 1 (replicate (name_bytes + 1) 97) File)) (fresh 2 1)).answer ≡ told (Err IllegalName)
  -- F-1: "the ★ case of a write's end is now 2,752 and 2,753"
  pub to_2752 : (w : World) (i o : ℕ) (xs : List ℕ) → Writes w i o xs → o ≤ size_of w.store i → o + length xs ≡ most_file_bytes
      → (outcome (call (write i o xs)) w).answer ≡ told (Ok most_file_bytes)
  pub to_2753 : (w : World) (i o : ℕ) (xs : List ℕ) → Writes w i o xs → o + length xs ≡ most_file_bytes + 1
      → (outcome (call (write i o xs)) w).answer ≡ told (Err PastEnd)
  pub end_shown : (outcome (call (write 2 0 (replicate most_file_bytes 7))) (run one_file (fresh 2 45))).answer ≡ told (Ok most_file_bytes)
  pub past_end_shown : (outcome (call (write 2 0 (replicate (most_file_bytes + 1) 7))) (run one_file (fresh 2 45))).answer ≡ told (Err PastEnd)
  -- "Write at the size passes, one past gives 9."
  pub at_size : (w : World) (i o : ℕ) (xs : List ℕ) → Writes w i o xs → o ≡ size_of w.store i → o + length xs ≤ most_file_bytes
      → (outcome (call (write i o xs)) w).answer ≡ told (Ok (o + length xs))
  pub past_size : (w : World) (i o : ℕ) (xs : List ℕ) → Writes w i o xs → o ≡ size_of w.store i + 1
      → (outcome (call (write i o xs)) w).answer ≡ told (Err PastEnd)
  pub at_size_shown : (outcome (call (write 2 10 (7 ∷ []))) (run ten_bytes (fresh 2 2))).answer ≡ told (Ok 11)
  pub past_size_shown : (outcome (call (write 2 11 (7 ∷ []))) (run ten_bytes (fresh 2 2))).answer ≡ told (Err PastEnd)
  -- "48 entries fit, the next gives 13.": an empty slot of 48 is taken; with none left, 13
  pub last_slot : (w : World) (d t : ℕ) (name : List ℕ) (k : Kind) (c : Creates w d name) → legal_name name ≡ true → slots w.store d ≡ most_slots
      → t < most_slots → slot_empty w.store (inodes w) d t ≡ true
      → (outcome (call (create d name k)) w).answer ≡ told (Ok c.inode)
  pub no_slot : (w : World) (d : ℕ) (name : List ℕ) (k : Kind) → Creates w d name → legal_name name ≡ true → slots w.store d ≡ most_slots
      → ((t : ℕ) → t < most_slots → slot_empty w.store (inodes w) d t ≡ false)
      → (outcome (call (create d name k)) w).answer ≡ told (Err NoSlot)
  -- 47 entries take one more, 48 none; the twelfth block is taken on the way from 44 to 45. A copy has been started: in its run refusals 1 to 3 need no test at each event, and 13 comes only on a sound store with a free inode
  pub last_slot_shown : (outcome (call (create 1 (96 ∷ []) File)) (run (starts ∷ entered 47) (fresh 3 13))).answer ≡ told (Ok 3)
  pub no_slot_shown : (outcome (call (create 1 (96 ∷ []) File)) (run (starts ∷ entered 48) (fresh 3 13))).answer ≡ told (Err NoSlot)
  pub twelfth_block : (blocks_used (size_of (run (starts ∷ entered 44) (fresh 3 13)).store 1) ≡ 11)
      × (blocks_used (size_of (run (starts ∷ entered 45) (fresh 3 13)).store 1) ≡ 12)
  -- "the image keeps all of 2 in block 2, and 3 in block 3 with 54 zeros."
  pub reused_block_lem : (kth_block (run reused_block (fresh 3 3)).image 3 2 0 ≡ 2)
      × ((block_of (run reused_block (fresh 3 3)).image 3 2 ≡ replicate 64 7)
      × ((size_of (run reused_block (fresh 3 3)).image 2 ≡ 64)
      × ((kth_block (run reused_block (fresh 3 3)).image 3 3 0 ≡ 3)
      × ((block_of (run reused_block (fresh 3 3)).image 3 3 ≡ replicate 10 5 ++ replicate 54 0)
      × (size_of (run reused_block (fresh 3 3)).image 3 ≡ 10)))))
  pub reused_block_done : (desk_of (run reused_block (fresh 3 3)).desk).state ≡ finished
  -- F-1: of 2 the twelfth block, 13, keeps its number behind the address block, 28; of 3 the first block of its address block is the twelfth again, and what it gave back, 25 and 27, is free in the copy
  pub over_the_edge_lem : (table (kth_block (run (starts ∷ over_the_edge) (fresh 3 29)).image 3 2) 15 ≡ 2 ∷ 3 ∷ 4 ∷ 5 ∷ 6 ∷ 7 ∷ 8 ∷ 9 ∷ 10 ∷ 11 ∷ 12 ∷ 28 ∷ 13 ∷ 29 ∷ 0 ∷ [])
      × ((table (kth_block (run (starts ∷ over_the_edge) (fresh 3 29)).image 3 3) 13 ≡ 14 ∷ 15 ∷ 16 ∷ 17 ∷ 18 ∷ 19 ∷ 20 ∷ 21 ∷ 22 ∷ 23 ∷ 24 ∷ 26 ∷ 0 ∷ [])
      × ((file_bytes (run (starts ∷ over_the_edge) (fresh 3 29)).image 3 2 0 832 ≡ replicate 768 7 ++ replicate 64 6)
      × ((file_bytes (run (starts ∷ over_the_edge) (fresh 3 29)).image 3 3 0 768 ≡ replicate 768 5)
      × ((header_of (run (starts ∷ over_the_edge) (fresh 3 29)).image).free_blocks ≡ 2))))
  pub over_the_edge_done : (desk_of (run (starts ∷ over_the_edge) (fresh 3 29)).desk).state ≡ finished
  -- "Copied directory moved to an uncopied one: one image entry, the old."
  pub moved_directory_lem : (tally (naming (run moved_directory (fresh 3 3)).image 3) (most_slots * 3) 2 ≡ 1)
      × (naming (run moved_directory (fresh 3 3)).image 3 0 ≡ 2)
  pub moved_directory_done : (desk_of (run moved_directory (fresh 3 3)).desk).state ≡ finished
  -- "Uncopied file unlinked from a copied directory: no entry left."
  pub unlinked_file_lem : tally (naming (run unlinked_file (fresh 2 2)).image 2) (most_slots * 2) 2 ≡ 0
  pub unlinked_file_done : (desk_of (run unlinked_file (fresh 2 2)).desk).state ≡ finished
  -- "Second start while running: 15."
  pub second_start : (w : World) → Ready w → is_running w.desk ≡ true
      → (outcome starts w).answer ≡ told (Err WrongState)
  -- "Directory moved into its child: 10."
  pub into_child : (outcome (call (rename 1 name_a 3 name_a)) (run parent_and_child (fresh 3 3))).answer ≡ told (Err IntoItself)
  -- F-3: "For the guarantee about untouched paths, being replaced is being unlinked.": no entry left, and that of the file that has the name now stays
  pub replaced_file_lem : (tally (naming (run replaced_file (fresh 3 1)).image 3) (most_slots * 3) 2 ≡ 0)
      × (naming (run replaced_file (fresh 3 1)).image 3 1 ≡ 3)
  pub replaced_file_done : (desk_of (run replaced_file (fresh 3 1)).desk).state ≡ finished
  -- F-3: "a rename onto a name taken by another entry unlinks this old holder and then renames": with no block and no inode to be had, the name stands for the file that has it now
  pub onto_taken : (outcome (call (look_up 3 name_a)) (next (call (rename 1 name_b 3 name_a)) (run taken_names (fresh 5 3)))).answer ≡ told (Ok 4)
  -- F-3: "an old holder that is a directory and not empty gives 8, whichever kind comes"
  pub onto_full : (outcome (call (rename 1 name_b 1 name_a)) (run taken_names (fresh 5 3))).answer ≡ told (Err NotEmpty)
  -- F-3: "18 when one name is a file's and the other a directory's; it comes after 10."
  pub onto_other_kind : (outcome (call (rename 1 name_a 1 name_b)) (run taken_names (fresh 5 3))).answer ≡ told (Err KindsDiffer)
  pub into_child_taken : (outcome (call (rename 1 name_a 3 name_a)) (run taken_names (fresh 5 3))).answer ≡ told (Err IntoItself)
  -- F-3: "a file call of its own with the old rule"
  pub recorder_keeps : (outcome (call (rename_new 1 name_b 3 name_a)) (run taken_names (fresh 5 3))).answer ≡ told (Err NameTaken)
