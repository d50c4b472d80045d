-- The track cases that run a list on a concrete store: antt computes them.
use Rattle.std.specs.Prelude.{Err, Ok}
use Rattle.bounded.specs.Below.{all_below, some_below}
use Rattle.bounded.specs.Climb.{leads_b}
use Rattle.bounded.specs.Count.{count, tally}
use Rattle.bounded.specs.Search.{first_from, first}
use Rattle.bounded.specs.Table.{table}
use Rattle.octets.specs.Octets.{zeroed, part, splice, num_at, to_bytes, put_num, word_bytes}
use Rattle.marks.specs.Mark.{digit, marked, with_mark, without_mark}
use Rattle.names.specs.Entry.{entry_inode, is_empty, same_byte, same_name, spelled, name_length, entry_name, legal_entry, entry_for}
use Rattle.names.specs.Name.{folded, plain_byte, is_dots, legal_name}
use Rattle.blocks.specs.Block.{block_of, put_in_block, zero_block, blocks_used, bytes_place, is_long, further_of, kth_by, row_by, put_kth, put_row, kth_block, allowed}
use Rattle.blocks.specs.Free.{named_by, lowest_by, long_but}
use Rattle.ledger.specs.Change.{across, added, grown, kept}
use Rattle.ledger.specs.Nth.{lowest_from, nth_free}
use Rattle.growth.specs.Extend.{zero_blocks, put_size, put_blocks, taken, extended, cut_blocks}
use Rattle.layout.specs.Header.{header_of, put_free, put_complete, put_header, header_rest_zero, less_free, more_free}
use Rattle.layout.specs.Inode.{kind_of, spare_of, links_of, size_of, parent_of, put_links, attribute_entry, put_attributes, address_of, put_address, addresses_of, put_addresses, inode_of, put_inode, is_kind, zero_inode, free_inode}
use Rattle.directory.specs.Slot.{slots, slot_at, entry_of, slot_has_name, find_slot, slot_empty, empty_slot, put_entry, clear_entry, most_slots}
use Rattle.desk.specs.Desk.{desk_of, put_desk, copied_of, put_copied, marks_of, put_marks, mark_of, set_mark, clear_mark, clear_notes, is_copied}
use Rattle.sound.specs.Entry.{same_names}
use Rattle.sound.specs.Place.{is_slot, entry_at, filled, naming}
use Rattle.sound.specs.Test.{attributes_b, addresses_b, zero_tail_b, inode_b, naming_b, new_name_b, entry_b, counted_b, lead_b, framed_b, header_b, free_counts_b, blank_block_b, blanks_b, body_b, is_sound}
use Rattle.content.specs.Apply.{written}
use Rattle.content.specs.Content.{put_file, add_block, zero_rest, cut_to}
use Rattle.content.specs.Plan.{write_plan, shorten_plan}
use Rattle.entries.specs.Apply.{enter, created, drop_link, unlinked, set_parent, moved}
use Rattle.entries.specs.Plan.{look_up_plan, create_plan, holds_none, unlink_plan, is_below, rename_to, rename_new_plan, over_of, over_plan}
use Rattle.entries.specs.Room.{room_in, make_room}
use Rattle.files.specs.Guard.{guard_of}
use Rattle.format.specs.Format.{fresh_header, empty_root, fresh_store, fresh_desk}
use Rattle.checkpoint.specs.Copier.{start_image, start_desk, next_inode, target_block, locked_step, free_step, step_of, copied_entry, copied_entries, copied_block, put_counts, finish_image}
use Rattle.checkpoint.specs.Fit.{desk_framed, image_blocks, image_allowed, is_running, blocks_fit, desk_fits, lacks_addresses, image_fits, notes_fit}
use Rattle.checkpoint.specs.Image.{has_slot, slot_names, inode_named}
use Rattle.checkpoint.specs.List.{outcome, next, run, call, advances, starts, Finish, last, more}
use Rattle.checkpoint.specs.Live.{World, three_guards, decision, live, started, start, step, start_guards}
use Rattle.checkpoint.specs.Notes.{note_made, note_taken, cuts_image, cut_image, cut_entries, clear_marks, set_marks}
use Rattle.desk.specs.Desk as desk
use Prim.Native.Nat.{ℕ, ◌*◌}
use mathlib.Core.Path.{◌≡◌, refl, ap}
use mathlib.Core.List.{List, [], ◌∷◌, ◌++◌}
use lib.ListN.{replicate}
use Rattle.desk.specs.Sizes.{finished, desk_allowed}
use Rattle.desk.specs.Next.{locks_any}
use Rattle.answers.specs.declared.Refusal.TheVariants.{NameTaken, NotEmpty, IntoItself, KindsDiffer}
use Rattle.answers.specs.Told.{told}
use Rattle.files.specs.Effect.{look_up, rename, rename_new}
use Rattle.cases.specs.Worlds.{fresh, name_a, name_b, reused_block, moved_directory, unlinked_file, parent_and_child, replaced_file, taken_names}

pub three_steps : ((outcome advances (run (starts ∷ advances ∷ advances ∷ []) (fresh 1 1))).answer ≡ told (Ok 3))
    × ((desk_of (run (starts ∷ advances ∷ advances ∷ advances ∷ []) (fresh 1 1)).desk).state ≡ finished)
unfolding fresh desk.desk_rest_zero all_below some_below leads_b count first_from first table part splice num_at to_bytes put_num word_bytes digit marked with_mark without_mark entry_inode is_empty folded same_byte same_name spelled name_length entry_name legal_entry entry_for plain_byte is_dots legal_name block_of put_in_block zero_block blocks_used bytes_place is_long further_of kth_by row_by put_kth put_row free_inode named_by lowest_by long_but across added grown kept lowest_from nth_free zero_blocks put_blocks taken extended cut_blocks header_of put_free put_complete put_header header_rest_zero kind_of spare_of links_of size_of parent_of put_links attribute_entry put_attributes address_of put_address addresses_of put_addresses inode_of put_inode slots slot_at entry_of slot_has_name find_slot slot_empty empty_slot put_entry clear_entry desk_of put_desk copied_of put_copied marks_of put_marks mark_of set_mark clear_mark clear_notes same_names naming_b new_name_b entry_b attributes_b addresses_b zero_tail_b inode_b counted_b lead_b is_slot entry_at filled naming allowed desk_allowed framed_b header_b free_counts_b blank_block_b blanks_b body_b is_sound enter created written drop_link unlinked set_parent moved put_file add_block put_size zero_rest cut_to is_kind zero_inode less_free more_free create_plan write_plan shorten_plan holds_none unlink_plan is_below rename_to rename_new_plan room_in make_room fresh_header empty_root fresh_store fresh_desk start_image start_desk next_inode target_block locked_step free_step step_of copied_entry copied_entries copied_block put_counts finish_image desk_framed image_blocks image_allowed is_running blocks_fit desk_fits lacks_addresses image_fits notes_fit has_slot slot_names inode_named outcome next run started start step is_copied note_made note_taken cuts_image cut_image zeroed guard_of locks_any three_guards start_guards decision live cut_entries clear_marks set_marks
three_steps = (refl, refl)

-- the same three steps end in a finish
pub finish : Finish (advances ∷ advances ∷ advances ∷ []) (next starts (fresh 1 1))
unfolding fresh desk.desk_rest_zero all_below some_below leads_b count first_from first table part splice num_at to_bytes put_num word_bytes digit marked with_mark without_mark entry_inode is_empty folded same_byte same_name spelled name_length entry_name legal_entry entry_for plain_byte is_dots legal_name block_of put_in_block zero_block blocks_used bytes_place is_long further_of kth_by row_by put_kth put_row free_inode named_by lowest_by long_but across added grown kept lowest_from nth_free zero_blocks put_blocks taken extended cut_blocks header_of put_free put_complete put_header header_rest_zero kind_of spare_of links_of size_of parent_of put_links attribute_entry put_attributes address_of put_address addresses_of put_addresses inode_of put_inode slots slot_at entry_of slot_has_name find_slot slot_empty empty_slot put_entry clear_entry desk_of put_desk copied_of put_copied marks_of put_marks mark_of set_mark clear_mark clear_notes same_names naming_b new_name_b entry_b attributes_b addresses_b zero_tail_b inode_b counted_b lead_b is_slot entry_at filled naming allowed desk_allowed framed_b header_b free_counts_b blank_block_b blanks_b body_b is_sound enter created written drop_link unlinked set_parent moved put_file add_block put_size zero_rest cut_to is_kind zero_inode less_free more_free create_plan write_plan shorten_plan holds_none unlink_plan is_below rename_to rename_new_plan room_in make_room fresh_header empty_root fresh_store fresh_desk start_image start_desk next_inode target_block locked_step free_step step_of copied_entry copied_entries copied_block put_counts finish_image desk_framed image_blocks image_allowed is_running blocks_fit desk_fits lacks_addresses image_fits notes_fit has_slot slot_names inode_named outcome next run started start step is_copied note_made note_taken cuts_image cut_image zeroed guard_of locks_any three_guards start_guards decision live cut_entries clear_marks set_marks
finish = more {e = advances} refl refl (more {e = advances} refl refl (last refl))

-- what is asked of the desk and the image when the list has run: one record, so that the list is run once
record Reused : Type 0 where
  state : ℕ
  block2 : ℕ
  bytes2 : List ℕ
  size2 : ℕ
  block3 : ℕ
  bytes3 : List ℕ
  size3 : ℕ

reused_in : World → Reused
reused_in w =
    record {
      state = (desk_of w.desk).state;
      block2 = kth_block w.image 3 2 0;
      bytes2 = block_of w.image 3 2;
      size2 = size_of w.image 2;
      block3 = kth_block w.image 3 3 0;
      bytes3 = block_of w.image 3 3;
      size3 = size_of w.image 3;
    }

reused : reused_in (run reused_block (fresh 3 3))
    ≡ record { state = finished; block2 = 2; bytes2 = replicate 64 7; size2 = 64; block3 = 3; bytes3 = replicate 10 5 ++ replicate 54 0; size3 = 10 }
unfolding fresh reused_block desk.desk_rest_zero all_below some_below leads_b count first_from first table part splice num_at to_bytes put_num word_bytes digit marked with_mark without_mark entry_inode is_empty folded same_byte same_name spelled name_length entry_name legal_entry entry_for plain_byte is_dots legal_name block_of put_in_block zero_block blocks_used bytes_place is_long further_of kth_by row_by put_kth put_row free_inode named_by lowest_by long_but across added grown kept lowest_from nth_free zero_blocks put_blocks taken extended cut_blocks header_of put_free put_complete put_header header_rest_zero kind_of spare_of links_of size_of parent_of put_links attribute_entry put_attributes address_of put_address addresses_of put_addresses inode_of put_inode slots slot_at entry_of slot_has_name find_slot slot_empty empty_slot put_entry clear_entry desk_of put_desk copied_of put_copied marks_of put_marks mark_of set_mark clear_mark clear_notes same_names naming_b new_name_b entry_b attributes_b addresses_b zero_tail_b inode_b counted_b lead_b is_slot entry_at filled naming allowed desk_allowed framed_b header_b free_counts_b blank_block_b blanks_b body_b is_sound enter created written drop_link unlinked set_parent moved put_file add_block put_size zero_rest cut_to is_kind zero_inode less_free more_free create_plan write_plan shorten_plan holds_none unlink_plan is_below rename_to rename_new_plan room_in make_room fresh_header empty_root fresh_store fresh_desk start_image start_desk next_inode target_block locked_step free_step step_of copied_entry copied_entries copied_block put_counts finish_image desk_framed image_blocks image_allowed is_running blocks_fit desk_fits lacks_addresses image_fits notes_fit has_slot slot_names inode_named outcome next run started start step is_copied note_made note_taken cuts_image cut_image zeroed guard_of locks_any three_guards start_guards decision live cut_entries clear_marks set_marks reused_in
reused = refl

pub reused_block_lem : ((desk_of (run reused_block (fresh 3 3)).desk).state ≡ finished)
    × ((kth_block (run reused_block (fresh 3 3)).image 3 2 0 ≡ 2)
    × ((block_of (run reused_block (fresh 3 3)).image 3 2 ≡ replicate 64 7)
    × ((size_of (run reused_block (fresh 3 3)).image 2 ≡ 64)
    × ((kth_block (run reused_block (fresh 3 3)).image 3 3 0 ≡ 3)
    × ((block_of (run reused_block (fresh 3 3)).image 3 3 ≡ replicate 10 5 ++ replicate 54 0)
    × (size_of (run reused_block (fresh 3 3)).image 3 ≡ 10))))))
unfolding guard_of locks_any three_guards start_guards decision live cut_entries clear_marks set_marks reused_in
reused_block_lem = (
  ap (λ (x : Reused). x.state) reused,
  (
    ap (λ (x : Reused). x.block2) reused,
    (
      ap (λ (x : Reused). x.bytes2) reused,
      (
        ap (λ (x : Reused). x.size2) reused,
        (
          ap (λ (x : Reused). x.block3) reused,
          (ap (λ (x : Reused). x.bytes3) reused, ap (λ (x : Reused). x.size3) reused),
        ),
      ),
    ),
  ),
)

pub moved_directory_lem : ((desk_of (run moved_directory (fresh 3 3)).desk).state ≡ finished)
    × ((tally (naming (run moved_directory (fresh 3 3)).image 3) (most_slots * 3) 2 ≡ 1)
    × (naming (run moved_directory (fresh 3 3)).image 3 0 ≡ 2))
unfolding fresh moved_directory desk.desk_rest_zero all_below some_below leads_b count first_from first table part splice num_at to_bytes put_num word_bytes digit marked with_mark without_mark entry_inode is_empty folded same_byte same_name spelled name_length entry_name legal_entry entry_for plain_byte is_dots legal_name block_of put_in_block zero_block blocks_used bytes_place is_long further_of kth_by row_by put_kth put_row free_inode named_by lowest_by long_but across added grown kept lowest_from nth_free zero_blocks put_blocks taken extended cut_blocks header_of put_free put_complete put_header header_rest_zero kind_of spare_of links_of size_of parent_of put_links attribute_entry put_attributes address_of put_address addresses_of put_addresses inode_of put_inode slots slot_at entry_of slot_has_name find_slot slot_empty empty_slot put_entry clear_entry desk_of put_desk copied_of put_copied marks_of put_marks mark_of set_mark clear_mark clear_notes same_names naming_b new_name_b entry_b attributes_b addresses_b zero_tail_b inode_b counted_b lead_b is_slot entry_at filled naming allowed desk_allowed framed_b header_b free_counts_b blank_block_b blanks_b body_b is_sound enter created written drop_link unlinked set_parent moved put_file add_block put_size zero_rest cut_to is_kind zero_inode less_free more_free create_plan write_plan shorten_plan holds_none unlink_plan is_below rename_to rename_new_plan room_in make_room fresh_header empty_root fresh_store fresh_desk start_image start_desk next_inode target_block locked_step free_step step_of copied_entry copied_entries copied_block put_counts finish_image desk_framed image_blocks image_allowed is_running blocks_fit desk_fits lacks_addresses image_fits notes_fit has_slot slot_names inode_named outcome next run started start step is_copied note_made note_taken cuts_image cut_image zeroed guard_of locks_any three_guards start_guards decision live cut_entries clear_marks set_marks
moved_directory_lem = (refl, (refl, refl))

pub unlinked_file_lem : ((desk_of (run unlinked_file (fresh 2 2)).desk).state ≡ finished)
    × (tally (naming (run unlinked_file (fresh 2 2)).image 2) (most_slots * 2) 2 ≡ 0)
unfolding fresh unlinked_file desk.desk_rest_zero all_below some_below leads_b count first_from first table part splice num_at to_bytes put_num word_bytes digit marked with_mark without_mark entry_inode is_empty folded same_byte same_name spelled name_length entry_name legal_entry entry_for plain_byte is_dots legal_name block_of put_in_block zero_block blocks_used bytes_place is_long further_of kth_by row_by put_kth put_row free_inode named_by lowest_by long_but across added grown kept lowest_from nth_free zero_blocks put_blocks taken extended cut_blocks header_of put_free put_complete put_header header_rest_zero kind_of spare_of links_of size_of parent_of put_links attribute_entry put_attributes address_of put_address addresses_of put_addresses inode_of put_inode slots slot_at entry_of slot_has_name find_slot slot_empty empty_slot put_entry clear_entry desk_of put_desk copied_of put_copied marks_of put_marks mark_of set_mark clear_mark clear_notes same_names naming_b new_name_b entry_b attributes_b addresses_b zero_tail_b inode_b counted_b lead_b is_slot entry_at filled naming allowed desk_allowed framed_b header_b free_counts_b blank_block_b blanks_b body_b is_sound enter created written drop_link unlinked set_parent moved put_file add_block put_size zero_rest cut_to is_kind zero_inode less_free more_free create_plan write_plan shorten_plan holds_none unlink_plan is_below rename_to rename_new_plan room_in make_room fresh_header empty_root fresh_store fresh_desk start_image start_desk next_inode target_block locked_step free_step step_of copied_entry copied_entries copied_block put_counts finish_image desk_framed image_blocks image_allowed is_running blocks_fit desk_fits lacks_addresses image_fits notes_fit has_slot slot_names inode_named outcome next run started start step is_copied note_made note_taken cuts_image cut_image zeroed guard_of locks_any three_guards start_guards decision live cut_entries clear_marks set_marks
unlinked_file_lem = (refl, refl)

pub into_child : (outcome (call (rename 1 name_a 3 name_a)) (run parent_and_child (fresh 3 3))).answer ≡ told (Err IntoItself)
unfolding fresh parent_and_child desk.desk_rest_zero all_below some_below leads_b count first_from first table part splice num_at to_bytes put_num word_bytes digit marked with_mark without_mark entry_inode is_empty folded same_byte same_name spelled name_length entry_name legal_entry entry_for plain_byte is_dots legal_name block_of put_in_block zero_block blocks_used bytes_place is_long further_of kth_by row_by put_kth put_row free_inode named_by lowest_by long_but across added grown kept lowest_from nth_free zero_blocks put_blocks taken extended cut_blocks header_of put_free put_complete put_header header_rest_zero kind_of spare_of links_of size_of parent_of put_links attribute_entry put_attributes address_of put_address addresses_of put_addresses inode_of put_inode slots slot_at entry_of slot_has_name find_slot slot_empty empty_slot put_entry clear_entry desk_of put_desk copied_of put_copied marks_of put_marks mark_of set_mark clear_mark clear_notes same_names naming_b new_name_b entry_b attributes_b addresses_b zero_tail_b inode_b counted_b lead_b is_slot entry_at filled naming allowed desk_allowed framed_b header_b free_counts_b blank_block_b blanks_b body_b is_sound enter created written drop_link unlinked set_parent moved put_file add_block put_size zero_rest cut_to is_kind zero_inode less_free more_free create_plan write_plan shorten_plan holds_none unlink_plan is_below rename_to rename_new_plan room_in make_room fresh_header empty_root fresh_store fresh_desk start_image start_desk next_inode target_block locked_step free_step step_of copied_entry copied_entries copied_block put_counts finish_image desk_framed image_blocks image_allowed is_running blocks_fit desk_fits lacks_addresses image_fits notes_fit has_slot slot_names inode_named outcome next run started start step is_copied note_made note_taken cuts_image cut_image zeroed guard_of locks_any three_guards start_guards decision live cut_entries clear_marks set_marks
into_child = refl

pub replaced_file_lem : ((desk_of (run replaced_file (fresh 3 1)).desk).state ≡ finished)
    × ((tally (naming (run replaced_file (fresh 3 1)).image 3) (most_slots * 3) 2 ≡ 0)
    × (naming (run replaced_file (fresh 3 1)).image 3 1 ≡ 3))
unfolding fresh replaced_file desk.desk_rest_zero all_below some_below leads_b count first_from first table part splice num_at to_bytes put_num word_bytes digit marked with_mark without_mark entry_inode is_empty folded same_byte same_name spelled name_length entry_name legal_entry entry_for plain_byte is_dots legal_name block_of put_in_block zero_block blocks_used bytes_place is_long further_of kth_by row_by put_kth put_row free_inode named_by lowest_by long_but across added grown kept lowest_from nth_free zero_blocks put_blocks taken extended cut_blocks header_of put_free put_complete put_header header_rest_zero kind_of spare_of links_of size_of parent_of put_links attribute_entry put_attributes address_of put_address addresses_of put_addresses inode_of put_inode slots slot_at entry_of slot_has_name find_slot slot_empty empty_slot put_entry clear_entry desk_of put_desk copied_of put_copied marks_of put_marks mark_of set_mark clear_mark clear_notes same_names naming_b new_name_b entry_b attributes_b addresses_b zero_tail_b inode_b counted_b lead_b is_slot entry_at filled naming allowed desk_allowed framed_b header_b free_counts_b blank_block_b blanks_b body_b is_sound enter created written drop_link unlinked set_parent moved put_file add_block put_size zero_rest cut_to is_kind zero_inode less_free more_free create_plan write_plan shorten_plan holds_none unlink_plan is_below rename_to rename_new_plan look_up_plan over_of over_plan room_in make_room fresh_header empty_root fresh_store fresh_desk start_image start_desk next_inode target_block locked_step free_step step_of copied_entry copied_entries copied_block put_counts finish_image desk_framed image_blocks image_allowed is_running blocks_fit desk_fits lacks_addresses image_fits notes_fit has_slot slot_names inode_named outcome next run started start step is_copied note_made note_taken cuts_image cut_image zeroed guard_of locks_any three_guards start_guards decision live cut_entries clear_marks set_marks
replaced_file_lem = (refl, (refl, refl))

pub onto_taken : (outcome (call (look_up 3 name_a)) (next (call (rename 1 name_b 3 name_a)) (run taken_names (fresh 5 3)))).answer ≡ told (Ok 4)
unfolding fresh taken_names desk.desk_rest_zero all_below some_below leads_b count first_from first table part splice num_at to_bytes put_num word_bytes digit marked with_mark without_mark entry_inode is_empty folded same_byte same_name spelled name_length entry_name legal_entry entry_for plain_byte is_dots legal_name block_of put_in_block zero_block blocks_used bytes_place is_long further_of kth_by row_by put_kth put_row free_inode named_by lowest_by long_but across added grown kept lowest_from nth_free zero_blocks put_blocks taken extended cut_blocks header_of put_free put_complete put_header header_rest_zero kind_of spare_of links_of size_of parent_of put_links attribute_entry put_attributes address_of put_address addresses_of put_addresses inode_of put_inode slots slot_at entry_of slot_has_name find_slot slot_empty empty_slot put_entry clear_entry desk_of put_desk copied_of put_copied marks_of put_marks mark_of set_mark clear_mark clear_notes same_names naming_b new_name_b entry_b attributes_b addresses_b zero_tail_b inode_b counted_b lead_b is_slot entry_at filled naming allowed desk_allowed framed_b header_b free_counts_b blank_block_b blanks_b body_b is_sound enter created written drop_link unlinked set_parent moved put_file add_block put_size zero_rest cut_to is_kind zero_inode less_free more_free create_plan write_plan shorten_plan holds_none unlink_plan is_below rename_to rename_new_plan look_up_plan over_of over_plan room_in make_room fresh_header empty_root fresh_store fresh_desk start_image start_desk next_inode target_block locked_step free_step step_of copied_entry copied_entries copied_block put_counts finish_image desk_framed image_blocks image_allowed is_running blocks_fit desk_fits lacks_addresses image_fits notes_fit has_slot slot_names inode_named outcome next run started start step is_copied note_made note_taken cuts_image cut_image zeroed guard_of locks_any three_guards start_guards decision live cut_entries clear_marks set_marks
onto_taken = refl

pub onto_full : (outcome (call (rename 1 name_b 1 name_a)) (run taken_names (fresh 5 3))).answer ≡ told (Err NotEmpty)
unfolding fresh taken_names desk.desk_rest_zero all_below some_below leads_b count first_from first table part splice num_at to_bytes put_num word_bytes digit marked with_mark without_mark entry_inode is_empty folded same_byte same_name spelled name_length entry_name legal_entry entry_for plain_byte is_dots legal_name block_of put_in_block zero_block blocks_used bytes_place is_long further_of kth_by row_by put_kth put_row free_inode named_by lowest_by long_but across added grown kept lowest_from nth_free zero_blocks put_blocks taken extended cut_blocks header_of put_free put_complete put_header header_rest_zero kind_of spare_of links_of size_of parent_of put_links attribute_entry put_attributes address_of put_address addresses_of put_addresses inode_of put_inode slots slot_at entry_of slot_has_name find_slot slot_empty empty_slot put_entry clear_entry desk_of put_desk copied_of put_copied marks_of put_marks mark_of set_mark clear_mark clear_notes same_names naming_b new_name_b entry_b attributes_b addresses_b zero_tail_b inode_b counted_b lead_b is_slot entry_at filled naming allowed desk_allowed framed_b header_b free_counts_b blank_block_b blanks_b body_b is_sound enter created written drop_link unlinked set_parent moved put_file add_block put_size zero_rest cut_to is_kind zero_inode less_free more_free create_plan write_plan shorten_plan holds_none unlink_plan is_below rename_to rename_new_plan look_up_plan over_of over_plan room_in make_room fresh_header empty_root fresh_store fresh_desk start_image start_desk next_inode target_block locked_step free_step step_of copied_entry copied_entries copied_block put_counts finish_image desk_framed image_blocks image_allowed is_running blocks_fit desk_fits lacks_addresses image_fits notes_fit has_slot slot_names inode_named outcome next run started start step is_copied note_made note_taken cuts_image cut_image zeroed guard_of locks_any three_guards start_guards decision live cut_entries clear_marks set_marks
onto_full = refl

pub onto_other_kind : (outcome (call (rename 1 name_a 1 name_b)) (run taken_names (fresh 5 3))).answer ≡ told (Err KindsDiffer)
unfolding fresh taken_names desk.desk_rest_zero all_below some_below leads_b count first_from first table part splice num_at to_bytes put_num word_bytes digit marked with_mark without_mark entry_inode is_empty folded same_byte same_name spelled name_length entry_name legal_entry entry_for plain_byte is_dots legal_name block_of put_in_block zero_block blocks_used bytes_place is_long further_of kth_by row_by put_kth put_row free_inode named_by lowest_by long_but across added grown kept lowest_from nth_free zero_blocks put_blocks taken extended cut_blocks header_of put_free put_complete put_header header_rest_zero kind_of spare_of links_of size_of parent_of put_links attribute_entry put_attributes address_of put_address addresses_of put_addresses inode_of put_inode slots slot_at entry_of slot_has_name find_slot slot_empty empty_slot put_entry clear_entry desk_of put_desk copied_of put_copied marks_of put_marks mark_of set_mark clear_mark clear_notes same_names naming_b new_name_b entry_b attributes_b addresses_b zero_tail_b inode_b counted_b lead_b is_slot entry_at filled naming allowed desk_allowed framed_b header_b free_counts_b blank_block_b blanks_b body_b is_sound enter created written drop_link unlinked set_parent moved put_file add_block put_size zero_rest cut_to is_kind zero_inode less_free more_free create_plan write_plan shorten_plan holds_none unlink_plan is_below rename_to rename_new_plan look_up_plan over_of over_plan room_in make_room fresh_header empty_root fresh_store fresh_desk start_image start_desk next_inode target_block locked_step free_step step_of copied_entry copied_entries copied_block put_counts finish_image desk_framed image_blocks image_allowed is_running blocks_fit desk_fits lacks_addresses image_fits notes_fit has_slot slot_names inode_named outcome next run started start step is_copied note_made note_taken cuts_image cut_image zeroed guard_of locks_any three_guards start_guards decision live cut_entries clear_marks set_marks
onto_other_kind = refl

pub into_child_taken : (outcome (call (rename 1 name_a 3 name_a)) (run taken_names (fresh 5 3))).answer ≡ told (Err IntoItself)
unfolding fresh taken_names desk.desk_rest_zero all_below some_below leads_b count first_from first table part splice num_at to_bytes put_num word_bytes digit marked with_mark without_mark entry_inode is_empty folded same_byte same_name spelled name_length entry_name legal_entry entry_for plain_byte is_dots legal_name block_of put_in_block zero_block blocks_used bytes_place is_long further_of kth_by row_by put_kth put_row free_inode named_by lowest_by long_but across added grown kept lowest_from nth_free zero_blocks put_blocks taken extended cut_blocks header_of put_free put_complete put_header header_rest_zero kind_of spare_of links_of size_of parent_of put_links attribute_entry put_attributes address_of put_address addresses_of put_addresses inode_of put_inode slots slot_at entry_of slot_has_name find_slot slot_empty empty_slot put_entry clear_entry desk_of put_desk copied_of put_copied marks_of put_marks mark_of set_mark clear_mark clear_notes same_names naming_b new_name_b entry_b attributes_b addresses_b zero_tail_b inode_b counted_b lead_b is_slot entry_at filled naming allowed desk_allowed framed_b header_b free_counts_b blank_block_b blanks_b body_b is_sound enter created written drop_link unlinked set_parent moved put_file add_block put_size zero_rest cut_to is_kind zero_inode less_free more_free create_plan write_plan shorten_plan holds_none unlink_plan is_below rename_to rename_new_plan look_up_plan over_of over_plan room_in make_room fresh_header empty_root fresh_store fresh_desk start_image start_desk next_inode target_block locked_step free_step step_of copied_entry copied_entries copied_block put_counts finish_image desk_framed image_blocks image_allowed is_running blocks_fit desk_fits lacks_addresses image_fits notes_fit has_slot slot_names inode_named outcome next run started start step is_copied note_made note_taken cuts_image cut_image zeroed guard_of locks_any three_guards start_guards decision live cut_entries clear_marks set_marks
into_child_taken = refl

pub recorder_keeps : (outcome (call (rename_new 1 name_b 3 name_a)) (run taken_names (fresh 5 3))).answer ≡ told (Err NameTaken)
unfolding fresh taken_names desk.desk_rest_zero all_below some_below leads_b count first_from first table part splice num_at to_bytes put_num word_bytes digit marked with_mark without_mark entry_inode is_empty folded same_byte same_name spelled name_length entry_name legal_entry entry_for plain_byte is_dots legal_name block_of put_in_block zero_block blocks_used bytes_place is_long further_of kth_by row_by put_kth put_row free_inode named_by lowest_by long_but across added grown kept lowest_from nth_free zero_blocks put_blocks taken extended cut_blocks header_of put_free put_complete put_header header_rest_zero kind_of spare_of links_of size_of parent_of put_links attribute_entry put_attributes address_of put_address addresses_of put_addresses inode_of put_inode slots slot_at entry_of slot_has_name find_slot slot_empty empty_slot put_entry clear_entry desk_of put_desk copied_of put_copied marks_of put_marks mark_of set_mark clear_mark clear_notes same_names naming_b new_name_b entry_b attributes_b addresses_b zero_tail_b inode_b counted_b lead_b is_slot entry_at filled naming allowed desk_allowed framed_b header_b free_counts_b blank_block_b blanks_b body_b is_sound enter created written drop_link unlinked set_parent moved put_file add_block put_size zero_rest cut_to is_kind zero_inode less_free more_free create_plan write_plan shorten_plan holds_none unlink_plan is_below rename_to rename_new_plan look_up_plan over_of over_plan room_in make_room fresh_header empty_root fresh_store fresh_desk start_image start_desk next_inode target_block locked_step free_step step_of copied_entry copied_entries copied_block put_counts finish_image desk_framed image_blocks image_allowed is_running blocks_fit desk_fits lacks_addresses image_fits notes_fit has_slot slot_names inode_named outcome next run started start step is_copied note_made note_taken cuts_image cut_image zeroed guard_of locks_any three_guards start_guards decision live cut_entries clear_marks set_marks
recorder_keeps = refl
