-- The list that crosses the edge of 768 bytes both ways, computed behind its guards.
use Rattle.bounded.specs.Below.{all_below, some_below}
use Rattle.bounded.specs.Climb.{leads_b}
use Rattle.bounded.specs.Count.{count}
use Rattle.bounded.specs.Search.{first_from, first}
use Rattle.bounded.specs.Table.{table}
use Rattle.octets.specs.Octets.{zeroed, part, splice, num_at, to_bytes, put_num, word_bytes}
use Rattle.marks.specs.Mark.{digit, marked, with_mark, without_mark}
use Rattle.names.specs.Entry.{entry_inode, is_empty, same_byte, same_name, spelled, name_length, entry_name, legal_entry, entry_for}
use Rattle.names.specs.Name.{folded, plain_byte, is_dots, legal_name}
use Rattle.blocks.specs.Block.{block_of, put_in_block, zero_block, blocks_used, bytes_place, is_long, further_of, kth_by, row_by, put_kth, put_row, kth_block, allowed, store_length}
use Rattle.blocks.specs.Free.{named_by, lowest_by, long_but}
use Rattle.ledger.specs.Change.{across, added, grown, kept}
use Rattle.ledger.specs.Nth.{lowest_from, nth_free}
use Rattle.growth.specs.Extend.{zero_blocks, put_size, put_blocks, taken, extended, cut_blocks, file_byte}
use Rattle.layout.specs.Header.{header_of, put_free, put_complete, put_header, header_rest_zero, less_free, more_free}
use Rattle.layout.specs.Inode.{kind_of, spare_of, links_of, size_of, parent_of, put_links, attribute_entry, put_attributes, address_of, put_address, addresses_of, put_addresses, inode_of, put_inode, is_kind, zero_inode, free_inode}
use Rattle.directory.specs.Slot.{slots, slot_at, entry_of, slot_has_name, find_slot, slot_empty, empty_slot, put_entry, clear_entry}
use Rattle.desk.specs.Desk.{desk_of, put_desk, copied_of, put_copied, marks_of, put_marks, mark_of, set_mark, clear_mark, clear_notes, is_copied}
use Rattle.sound.specs.Entry.{same_names}
use Rattle.sound.specs.Place.{is_slot, entry_at, filled, naming}
use Rattle.sound.specs.Test.{attributes_b, addresses_b, zero_tail_b, inode_b, naming_b, new_name_b, entry_b, counted_b, lead_b, framed_b, header_b, free_counts_b, blank_block_b, blanks_b, body_b, is_sound}
use Rattle.content.specs.Apply.{written}
use Rattle.content.specs.Content.{put_file, add_block, zero_rest, cut_to, file_bytes}
use Rattle.content.specs.Plan.{write_plan, shorten_plan}
use Rattle.entries.specs.Apply.{enter, created, drop_link, unlinked, set_parent, moved}
use Rattle.entries.specs.Plan.{create_plan, holds_none, unlink_plan, is_below, rename_to, rename_new_plan}
use Rattle.entries.specs.Room.{room_in, make_room}
use Rattle.files.specs.Guard.{guard_of}
use Rattle.format.specs.Format.{fresh_header, empty_root, fresh_store, fresh_desk}
use Rattle.checkpoint.specs.Copier.{start_image, start_desk, next_inode, target_block, locked_step, free_step, step_of, copied_entry, copied_entries, copied_block, put_counts, finish_image}
use Rattle.checkpoint.specs.Fit.{desk_framed, image_blocks, image_allowed, is_running, blocks_fit, desk_fits, lacks_addresses, image_fits, notes_fit}
use Rattle.checkpoint.specs.Image.{has_slot, slot_names, inode_named}
use Rattle.checkpoint.specs.Live.{World, three_guards, decision, live, started, start, step, start_guards}
use Rattle.checkpoint.specs.Notes.{note_made, note_taken, cuts_image, cut_image, cut_entries, clear_marks, set_marks}
use Rattle.desk.specs.Desk as desk
use Rattle.desk.specs.Sizes.{finished, desk_allowed}
use Rattle.desk.specs.Next.{locks_any}
use Prim.Native.Nat.{ℕ, zero, suc, ◌+◌, ◌*◌, ◌-◌}
use mathlib.Core.Path.{◌≡◌, refl, ap, ◌∙◌}
use mathlib.Core.Bool.{true}
use mathlib.Core.List.{List, [], ◌∷◌, ◌++◌}
use lib.ListN.{replicate}
use Rattle.layout.specs.Sizes.{block_bytes}
use Rattle.checkpoint.specs.List.{outcome, next, run, accepted, starts, call, advances}
use Rattle.checkpoint.proofs.Run.Starts.{Opens, opens, opened, opened_runs}
use Rattle.checkpoint.proofs.Run.Lists.{Going, runs}
use Rattle.entries.specs.declared.Kind.TheVariants.{File}
use Rattle.files.specs.Effect.{create, write, shorten}
use Rattle.cases.specs.Worlds.{fresh, name_a, name_b, over_the_edge}
use Rattle.cases.proofs.Behind.{behind, behind_all, behind_run, behind_two}

begins : accepted starts (fresh 3 29) ≡ true
unfolding fresh desk.desk_rest_zero all_below some_below leads_b count first_from first table part splice num_at to_bytes put_num word_bytes digit marked with_mark without_mark entry_inode is_empty folded same_byte same_name spelled name_length entry_name legal_entry entry_for plain_byte is_dots legal_name block_of put_in_block zero_block blocks_used bytes_place is_long further_of kth_by row_by put_kth put_row free_inode named_by lowest_by long_but across added grown kept lowest_from nth_free zero_blocks put_blocks taken extended cut_blocks header_of put_free put_complete put_header header_rest_zero kind_of spare_of links_of size_of parent_of put_links attribute_entry put_attributes address_of put_address addresses_of put_addresses inode_of put_inode slots slot_at entry_of slot_has_name find_slot slot_empty empty_slot put_entry clear_entry desk_of put_desk copied_of put_copied marks_of put_marks mark_of set_mark clear_mark clear_notes same_names naming_b new_name_b entry_b attributes_b addresses_b zero_tail_b inode_b counted_b lead_b is_slot entry_at filled naming allowed desk_allowed framed_b header_b free_counts_b blank_block_b blanks_b body_b is_sound enter created written drop_link unlinked set_parent moved put_file add_block put_size zero_rest cut_to is_kind zero_inode less_free more_free create_plan write_plan shorten_plan holds_none unlink_plan is_below rename_to rename_new_plan room_in make_room fresh_header empty_root fresh_store fresh_desk start_image start_desk next_inode target_block locked_step free_step step_of copied_entry copied_entries copied_block put_counts finish_image desk_framed image_blocks image_allowed is_running blocks_fit desk_fits lacks_addresses image_fits notes_fit has_slot slot_names inode_named outcome next run started start step is_copied note_made note_taken cuts_image cut_image zeroed guard_of locks_any three_guards start_guards decision live cut_entries clear_marks set_marks
begins = refl

opening : Opens (fresh 3 29)
opening = opens (fresh 3 29) begins

going : Going 3 29 (next starts (fresh 3 29))
unfolding fresh desk.desk_rest_zero all_below some_below leads_b count first_from first table part splice num_at to_bytes put_num word_bytes digit marked with_mark without_mark entry_inode is_empty folded same_byte same_name spelled name_length entry_name legal_entry entry_for plain_byte is_dots legal_name block_of put_in_block zero_block blocks_used bytes_place is_long further_of kth_by row_by put_kth put_row free_inode named_by lowest_by long_but across added grown kept lowest_from nth_free zero_blocks put_blocks taken extended cut_blocks header_of put_free put_complete put_header header_rest_zero kind_of spare_of links_of size_of parent_of put_links attribute_entry put_attributes address_of put_address addresses_of put_addresses inode_of put_inode slots slot_at entry_of slot_has_name find_slot slot_empty empty_slot put_entry clear_entry desk_of put_desk copied_of put_copied marks_of put_marks mark_of set_mark clear_mark clear_notes same_names naming_b new_name_b entry_b attributes_b addresses_b zero_tail_b inode_b counted_b lead_b is_slot entry_at filled naming allowed desk_allowed framed_b header_b free_counts_b blank_block_b blanks_b body_b is_sound enter created written drop_link unlinked set_parent moved put_file add_block put_size zero_rest cut_to is_kind zero_inode less_free more_free create_plan write_plan shorten_plan holds_none unlink_plan is_below rename_to rename_new_plan room_in make_room fresh_header empty_root fresh_store fresh_desk start_image start_desk next_inode target_block locked_step free_step step_of copied_entry copied_entries copied_block put_counts finish_image desk_framed image_blocks image_allowed is_running blocks_fit desk_fits lacks_addresses image_fits notes_fit has_slot slot_names inode_named outcome next run started start step is_copied note_made note_taken cuts_image cut_image zeroed guard_of locks_any three_guards start_guards decision live cut_entries clear_marks set_marks
going = runs (opened_runs 3 29 (fresh 3 29) opening refl refl).runs

-- ---- the list in four parts, each with the world that it leaves: a part is computed from bytes that are spelled out
-- numbers of two bytes from a on, k of them
unfoldable pub pairs : ℕ → ℕ → List ℕ
pairs a zero = []
pairs a (suc k) = a ∷ 0 ∷ pairs (a + 1) k

-- k blocks of the byte x
blocks_of : ℕ → ℕ → List ℕ
blocks_of k x = replicate (block_bytes * k) x

-- one after the other
unfoldable pub joined : List (List ℕ) → List ℕ
joined [] = []
joined (x ∷ xs) = x ++ joined xs

-- a header with so many free blocks, and byte 8; the free inodes are none
header_is : ℕ → ℕ → List ℕ
header_is free complete = 3 ∷ 0 ∷ 29 ∷ 0 ∷ 0 ∷ 0 ∷ free ∷ 0 ∷ complete ∷ 0 ∷ 1 ∷ 0 ∷ 0 ∷ 0 ∷ 0 ∷ 0 ∷ []

-- attributes: kind, links, the two bytes of the size
unfoldable pub inode_is : ℕ → ℕ → ℕ → ℕ → List ℕ
inode_is kind links low high = kind ∷ 0 ∷ links ∷ 0 ∷ low ∷ high ∷ 0 ∷ 0 ∷ []

-- the root's block: file 2 by the name `a`, file 3 by the name `b`
entries_of : List ℕ
entries_of = joined ((2 ∷ 0 ∷ 97 ∷ []) ∷ replicate 13 0 ∷ (3 ∷ 0 ∷ 98 ∷ []) ∷ replicate 45 0 ∷ [])

-- the desk: locked inode, blocks of it copied, steps, whether the root is copied; the root's two entries are marked
desk_is : ℕ → ℕ → ℕ → ℕ → List ℕ
desk_is l k z root = 3 ∷ 0 ∷ 29 ∷ 0 ∷ 1 ∷ 0 ∷ l ∷ 0 ∷ k ∷ 0 ∷ 0 ∷ 0 ∷ z ∷ 0 ∷ 0 ∷ 0 ∷ root ∷ 0 ∷ 0 ∷ 3 ∷ replicate 23 0

empty_image : List ℕ
empty_image = header_is 0 0 ++ replicate (store_length 3 29 - 16) 0

-- file 2 has its bytes
after_two : World
after_two = record {
  store = joined (header_is 16 1 ∷ inode_is 2 0 64 0 ∷ inode_is 1 1 0 3 ∷ inode_is 1 1 0 0 ∷ pairs 1 1 ∷ replicate 22 0 ∷ pairs 2 12 ∷ replicate 24 0
      ∷ entries_of ∷ blocks_of 12 7 ∷ blocks_of 16 0 ∷ []);
  image = empty_image;
  desk = desk_is 0 0 0 0;
}

-- file 3 too
after_three : World
after_three = record {
  store = joined (header_is 2 1 ∷ inode_is 2 0 64 0 ∷ inode_is 1 1 0 3 ∷ inode_is 1 1 64 3 ∷ pairs 1 1 ∷ replicate 22 0 ∷ pairs 2 12 ∷ pairs 14 12
      ∷ entries_of ∷ blocks_of 12 7 ∷ blocks_of 11 5 ∷ pairs 26 2 ∷ replicate 60 0 ∷ blocks_of 2 5 ∷ blocks_of 2 0 ∷ []);
  image = empty_image;
  desk = desk_is 0 0 0 0;
}

-- file 2 is longer, and twelve of its blocks are copied: eleven of bytes, and the address block, still zero
after_twelve : World
after_twelve = record {
  store = joined (header_is 0 1 ∷ inode_is 2 0 64 0 ∷ inode_is 1 1 64 3 ∷ inode_is 1 1 64 3 ∷ pairs 1 1 ∷ replicate 22 0 ∷ pairs 2 11 ∷ pairs 28 1 ∷ pairs 14 12
      ∷ entries_of ∷ blocks_of 12 7 ∷ blocks_of 11 5 ∷ pairs 26 2 ∷ replicate 60 0 ∷ blocks_of 2 5 ∷ pairs 13 1 ∷ pairs 29 1 ∷ replicate 60 0 ∷ blocks_of 1 6 ∷ []);
  image = joined (header_is 0 0 ∷ inode_is 2 0 64 0 ∷ replicate 16 0 ∷ pairs 1 1 ∷ replicate 22 0 ∷ pairs 2 11 ∷ pairs 28 1 ∷ replicate 24 0
      ∷ entries_of ∷ blocks_of 11 7 ∷ blocks_of 17 0 ∷ []);
  desk = desk_is 2 12 16 1;
}

reaches_two : behind_all (call (create 1 name_a File) ∷ call (create 1 name_b File) ∷ call (write 2 0 (replicate 768 7)) ∷ []) (opened (fresh 3 29)) ≡ after_two
unfolding fresh desk.desk_rest_zero all_below some_below leads_b count first_from first table part splice num_at to_bytes put_num word_bytes digit marked with_mark without_mark entry_inode is_empty folded same_byte same_name spelled name_length entry_name legal_entry entry_for plain_byte is_dots legal_name block_of put_in_block zero_block blocks_used bytes_place is_long further_of kth_by row_by put_kth put_row free_inode named_by lowest_by long_but across added grown kept lowest_from nth_free zero_blocks put_blocks taken extended cut_blocks header_of put_free put_complete put_header header_rest_zero kind_of spare_of links_of size_of parent_of put_links attribute_entry put_attributes address_of put_address addresses_of put_addresses inode_of put_inode slots slot_at entry_of slot_has_name find_slot slot_empty empty_slot put_entry clear_entry desk_of put_desk copied_of put_copied marks_of put_marks mark_of set_mark clear_mark clear_notes same_names naming_b new_name_b entry_b attributes_b addresses_b zero_tail_b inode_b counted_b lead_b is_slot entry_at filled naming allowed desk_allowed framed_b header_b free_counts_b blank_block_b blanks_b body_b is_sound enter created written drop_link unlinked set_parent moved put_file add_block put_size zero_rest cut_to is_kind zero_inode less_free more_free create_plan write_plan shorten_plan holds_none unlink_plan is_below rename_to rename_new_plan room_in make_room fresh_header empty_root fresh_store fresh_desk start_image start_desk next_inode target_block locked_step free_step step_of copied_entry copied_entries copied_block put_counts finish_image desk_framed image_blocks image_allowed is_running blocks_fit desk_fits lacks_addresses image_fits notes_fit has_slot slot_names inode_named outcome next run started start step is_copied note_made note_taken cuts_image cut_image zeroed guard_of locks_any three_guards start_guards decision live cut_entries clear_marks set_marks behind behind_all pairs blocks_of joined header_is inode_is entries_of desk_is empty_image after_two after_three after_twelve
reaches_two = refl

reaches_three : behind_all (call (write 3 0 (replicate 832 5)) ∷ []) after_two ≡ after_three
unfolding fresh desk.desk_rest_zero all_below some_below leads_b count first_from first table part splice num_at to_bytes put_num word_bytes digit marked with_mark without_mark entry_inode is_empty folded same_byte same_name spelled name_length entry_name legal_entry entry_for plain_byte is_dots legal_name block_of put_in_block zero_block blocks_used bytes_place is_long further_of kth_by row_by put_kth put_row free_inode named_by lowest_by long_but across added grown kept lowest_from nth_free zero_blocks put_blocks taken extended cut_blocks header_of put_free put_complete put_header header_rest_zero kind_of spare_of links_of size_of parent_of put_links attribute_entry put_attributes address_of put_address addresses_of put_addresses inode_of put_inode slots slot_at entry_of slot_has_name find_slot slot_empty empty_slot put_entry clear_entry desk_of put_desk copied_of put_copied marks_of put_marks mark_of set_mark clear_mark clear_notes same_names naming_b new_name_b entry_b attributes_b addresses_b zero_tail_b inode_b counted_b lead_b is_slot entry_at filled naming allowed desk_allowed framed_b header_b free_counts_b blank_block_b blanks_b body_b is_sound enter created written drop_link unlinked set_parent moved put_file add_block put_size zero_rest cut_to is_kind zero_inode less_free more_free create_plan write_plan shorten_plan holds_none unlink_plan is_below rename_to rename_new_plan room_in make_room fresh_header empty_root fresh_store fresh_desk start_image start_desk next_inode target_block locked_step free_step step_of copied_entry copied_entries copied_block put_counts finish_image desk_framed image_blocks image_allowed is_running blocks_fit desk_fits lacks_addresses image_fits notes_fit has_slot slot_names inode_named outcome next run started start step is_copied note_made note_taken cuts_image cut_image zeroed guard_of locks_any three_guards start_guards decision live cut_entries clear_marks set_marks behind behind_all pairs blocks_of joined header_is inode_is entries_of desk_is empty_image after_two after_three after_twelve
reaches_three = refl

reaches_twelve : behind_all (advances ∷ advances ∷ advances ∷ call (write 2 768 (replicate 64 6)) ∷ advances ∷ replicate 12 advances) after_three ≡ after_twelve
unfolding fresh desk.desk_rest_zero all_below some_below leads_b count first_from first table part splice num_at to_bytes put_num word_bytes digit marked with_mark without_mark entry_inode is_empty folded same_byte same_name spelled name_length entry_name legal_entry entry_for plain_byte is_dots legal_name block_of put_in_block zero_block blocks_used bytes_place is_long further_of kth_by row_by put_kth put_row free_inode named_by lowest_by long_but across added grown kept lowest_from nth_free zero_blocks put_blocks taken extended cut_blocks header_of put_free put_complete put_header header_rest_zero kind_of spare_of links_of size_of parent_of put_links attribute_entry put_attributes address_of put_address addresses_of put_addresses inode_of put_inode slots slot_at entry_of slot_has_name find_slot slot_empty empty_slot put_entry clear_entry desk_of put_desk copied_of put_copied marks_of put_marks mark_of set_mark clear_mark clear_notes same_names naming_b new_name_b entry_b attributes_b addresses_b zero_tail_b inode_b counted_b lead_b is_slot entry_at filled naming allowed desk_allowed framed_b header_b free_counts_b blank_block_b blanks_b body_b is_sound enter created written drop_link unlinked set_parent moved put_file add_block put_size zero_rest cut_to is_kind zero_inode less_free more_free create_plan write_plan shorten_plan holds_none unlink_plan is_below rename_to rename_new_plan room_in make_room fresh_header empty_root fresh_store fresh_desk start_image start_desk next_inode target_block locked_step free_step step_of copied_entry copied_entries copied_block put_counts finish_image desk_framed image_blocks image_allowed is_running blocks_fit desk_fits lacks_addresses image_fits notes_fit has_slot slot_names inode_named outcome next run started start step is_copied note_made note_taken cuts_image cut_image zeroed guard_of locks_any three_guards start_guards decision live cut_entries clear_marks set_marks behind behind_all pairs blocks_of joined header_is inode_is entries_of desk_is empty_image after_two after_three after_twelve
reaches_twelve = refl

-- what is asked of the desk and the image when the list has run: one record, so that the last part is run once
record Asked : Type 0 where
  state : ℕ
  blocks2 : List ℕ
  blocks3 : List ℕ
  bytes2 : List ℕ
  bytes3 : List ℕ
  free : ℕ

asked_of : World → Asked
asked_of w = record {
  state = (desk_of w.desk).state;
  blocks2 = table (kth_block w.image 3 2) 15;
  blocks3 = table (kth_block w.image 3 3) 13;
  bytes2 = file_bytes w.image 3 2 0 832;
  bytes3 = file_bytes w.image 3 3 0 768;
  free = (header_of w.image).free_blocks;
}

abbrev asked_at_end : Asked
asked_at_end = record {
  state = finished;
  blocks2 = 2 ∷ 3 ∷ 4 ∷ 5 ∷ 6 ∷ 7 ∷ 8 ∷ 9 ∷ 10 ∷ 11 ∷ 12 ∷ 28 ∷ 13 ∷ 29 ∷ 0 ∷ [];
  blocks3 = 14 ∷ 15 ∷ 16 ∷ 17 ∷ 18 ∷ 19 ∷ 20 ∷ 21 ∷ 22 ∷ 23 ∷ 24 ∷ 26 ∷ 0 ∷ [];
  bytes2 = replicate 768 7 ++ replicate 64 6;
  bytes3 = replicate 768 5;
  free = 2;
}

reaches_end : asked_of (behind_all (call (shorten 3 768) ∷ replicate 18 advances) after_twelve)
    ≡ asked_at_end
unfolding fresh desk.desk_rest_zero all_below some_below leads_b count first_from first table part splice num_at to_bytes put_num word_bytes digit marked with_mark without_mark entry_inode is_empty folded same_byte same_name spelled name_length entry_name legal_entry entry_for plain_byte is_dots legal_name block_of put_in_block zero_block blocks_used bytes_place is_long further_of kth_by row_by put_kth put_row free_inode named_by lowest_by long_but across added grown kept lowest_from nth_free zero_blocks put_blocks taken extended cut_blocks header_of put_free put_complete put_header header_rest_zero kind_of spare_of links_of size_of parent_of put_links attribute_entry put_attributes address_of put_address addresses_of put_addresses inode_of put_inode slots slot_at entry_of slot_has_name find_slot slot_empty empty_slot put_entry clear_entry desk_of put_desk copied_of put_copied marks_of put_marks mark_of set_mark clear_mark clear_notes same_names naming_b new_name_b entry_b attributes_b addresses_b zero_tail_b inode_b counted_b lead_b is_slot entry_at filled naming allowed desk_allowed framed_b header_b free_counts_b blank_block_b blanks_b body_b is_sound enter created written drop_link unlinked set_parent moved put_file add_block put_size zero_rest cut_to is_kind zero_inode less_free more_free create_plan write_plan shorten_plan holds_none unlink_plan is_below rename_to rename_new_plan room_in make_room fresh_header empty_root fresh_store fresh_desk start_image start_desk next_inode target_block locked_step free_step step_of copied_entry copied_entries copied_block put_counts finish_image desk_framed image_blocks image_allowed is_running blocks_fit desk_fits lacks_addresses image_fits notes_fit has_slot slot_names inode_named outcome next run started start step is_copied note_made note_taken cuts_image cut_image zeroed guard_of locks_any three_guards start_guards decision live cut_entries clear_marks set_marks behind behind_all file_byte file_bytes asked_of pairs blocks_of joined header_is inode_is entries_of desk_is after_twelve
reaches_end = refl

-- the parts together
ran : run (starts ∷ over_the_edge) (fresh 3 29) ≡ behind_all (call (shorten 3 768) ∷ replicate 18 advances) after_twelve
unfolding run over_the_edge
ran =
    behind_run 3 29 over_the_edge (next starts (fresh 3 29)) going
    ∙ ap (behind_all over_the_edge) opening.is
    ∙ behind_two (call (create 1 name_a File) ∷ call (create 1 name_b File) ∷ call (write 2 0 (replicate 768 7)) ∷ [])
    (call (write 3 0 (replicate 832 5)) ∷ advances ∷ advances ∷ advances ∷ call (write 2 768 (replicate 64 6)) ∷ advances ∷ (replicate 12 advances ++ (call (shorten 3 768) ∷ replicate 18 advances)))
    (opened (fresh 3 29)) after_two reaches_two
    ∙ behind_two (call (write 3 0 (replicate 832 5)) ∷ [])
    (advances ∷ advances ∷ advances ∷ call (write 2 768 (replicate 64 6)) ∷ advances ∷ (replicate 12 advances ++ (call (shorten 3 768) ∷ replicate 18 advances))) after_two after_three reaches_three
    ∙ behind_two (advances ∷ advances ∷ advances ∷ call (write 2 768 (replicate 64 6)) ∷ advances ∷ replicate 12 advances) (call (shorten 3 768) ∷ replicate 18 advances) after_three after_twelve reaches_twelve

asked : asked_of (run (starts ∷ over_the_edge) (fresh 3 29)) ≡ asked_at_end
asked = ap asked_of ran ∙ reaches_end

pub over_the_edge_lem : ((desk_of (run (starts ∷ over_the_edge) (fresh 3 29)).desk).state ≡ finished)
    × ((table (kth_block (run (starts ∷ over_the_edge) (fresh 3 29)).image 3 2) 15 ≡ 2 ∷ 3 ∷ 4 ∷ 5 ∷ 6 ∷ 7 ∷ 8 ∷ 9 ∷ 10 ∷ 11 ∷ 12 ∷ 28 ∷ 13 ∷ 29 ∷ 0 ∷ [])
    × ((table (kth_block (run (starts ∷ over_the_edge) (fresh 3 29)).image 3 3) 13 ≡ 14 ∷ 15 ∷ 16 ∷ 17 ∷ 18 ∷ 19 ∷ 20 ∷ 21 ∷ 22 ∷ 23 ∷ 24 ∷ 26 ∷ 0 ∷ [])
    × ((file_bytes (run (starts ∷ over_the_edge) (fresh 3 29)).image 3 2 0 832 ≡ replicate 768 7 ++ replicate 64 6)
    × ((file_bytes (run (starts ∷ over_the_edge) (fresh 3 29)).image 3 3 0 768 ≡ replicate 768 5)
    × ((header_of (run (starts ∷ over_the_edge) (fresh 3 29)).image).free_blocks ≡ 2)))))
unfolding asked_of
over_the_edge_lem = (
  ap (λ (x : Asked). x.state) asked,
  (
    ap (λ (x : Asked). x.blocks2) asked,
    (ap (λ (x : Asked). x.blocks3) asked, (ap (λ (x : Asked). x.bytes2) asked, (ap (λ (x : Asked). x.bytes3) asked, ap (λ (x : Asked). x.free) asked))),
  ),
)
