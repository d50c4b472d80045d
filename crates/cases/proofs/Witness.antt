-- The track cases of any store, on stores that are shown: antt computes them.
use Rattle.std.specs.Prelude.{Err, Ok}
use Rattle.bounded.specs.Below.{all_below, some_below}
use Rattle.bounded.specs.Climb.{leads_b}
use Rattle.bounded.specs.Count.{count}
use Rattle.bounded.specs.Search.{first_from, first}
use Rattle.bounded.specs.Table.{table}
use Rattle.octets.specs.Octets.{zeroed, part, splice, num_at, to_bytes, put_num, word_bytes}
use Rattle.marks.specs.Mark.{digit, marked, with_mark, without_mark}
use Rattle.names.specs.Entry.{entry_inode, is_empty, same_byte, same_name, spelled, name_length, entry_name, legal_entry, entry_for}
use Rattle.names.specs.Name.{folded, plain_byte, is_dots, legal_name}
use Rattle.blocks.specs.Block.{block_of, put_in_block, zero_block, blocks_used, bytes_place, is_long, further_of, kth_by, row_by, put_kth, put_row, allowed, store_length}
use Rattle.blocks.specs.Free.{named_by, lowest_by, long_but}
use Rattle.ledger.specs.Change.{across, added, grown, kept}
use Rattle.ledger.specs.Nth.{lowest_from, nth_free}
use Rattle.growth.specs.Extend.{zero_blocks, put_size, put_blocks, taken, extended, cut_blocks}
use Rattle.layout.specs.Header.{header_of, put_free, put_complete, put_header, header_rest_zero, less_free, more_free}
use Rattle.layout.specs.Inode.{kind_of, spare_of, links_of, size_of, parent_of, put_links, attribute_entry, put_attributes, address_of, put_address, addresses_of, put_addresses, inode_of, put_inode, is_kind, zero_inode, free_inode}
use Rattle.directory.specs.Slot.{slots, slot_at, entry_of, slot_has_name, find_slot, slot_empty, empty_slot, put_entry, clear_entry}
use Rattle.desk.specs.Desk.{desk_of, put_desk, copied_of, put_copied, marks_of, put_marks, mark_of, set_mark, clear_mark, clear_notes, is_copied}
use Rattle.sound.specs.Entry.{same_names}
use Rattle.sound.specs.Place.{is_slot, entry_at, filled, naming}
use Rattle.sound.specs.Test.{attributes_b, addresses_b, zero_tail_b, inode_b, naming_b, new_name_b, entry_b, counted_b, lead_b, framed_b, header_b, free_counts_b, blank_block_b, blanks_b, body_b, is_sound}
use Rattle.content.specs.Apply.{written}
use Rattle.content.specs.Content.{put_file, add_block, zero_rest, cut_to}
use Rattle.content.specs.Plan.{write_plan, shorten_plan}
use Rattle.entries.specs.Apply.{enter, created, linked, drop_link, unlinked, set_parent, moved}
use Rattle.entries.specs.Plan.{create_plan, link_plan, holds_none, unlink_plan, is_below, rename_to, rename_new_plan}
use Rattle.entries.specs.Room.{room_in, make_room}
use Rattle.files.specs.Guard.{guard_of}
use Rattle.format.specs.Format.{fresh_header, empty_root, fresh_store, fresh_desk}
use Rattle.checkpoint.specs.Copier.{start_image, start_desk, next_inode, target_block, locked_step, free_step, step_of, copied_entry, copied_entries, copied_block, put_counts, finish_image}
use Rattle.checkpoint.specs.Fit.{desk_framed, image_blocks, image_allowed, is_running, blocks_fit, desk_fits, lacks_addresses, image_fits, notes_fit}
use Rattle.checkpoint.specs.Image.{has_slot, slot_names, inode_named}
use Rattle.checkpoint.specs.List.{outcome, next, run, accepted, call, starts}
use Rattle.checkpoint.specs.Live.{World, three_guards, decision, live, started, start, step, start_guards}
use Rattle.checkpoint.specs.Notes.{note_made, note_taken, cuts_image, cut_image, cut_entries, clear_marks, set_marks}
use Rattle.desk.specs.Desk as desk
use Prim.Native.Nat.{ℕ, zero, suc, ◌+◌, ◌*◌, ◌-◌, ◌/◌, ◌%◌}
use mathlib.Core.Path.{◌≡◌, refl, ap, ◌∙◌}
use mathlib.Core.Bool.{true}
use mathlib.Core.List.{List, [], ◌∷◌, ◌++◌}
use lib.ListN.{replicate}
use Rattle.desk.specs.Sizes.{desk_allowed}
use Rattle.desk.specs.Next.{locks_any}
use Rattle.answers.specs.declared.Refusal.TheVariants.{IllegalName, PastEnd, NoSlot}
use Rattle.answers.specs.Told.{told}
use Rattle.files.specs.Effect.{create, write}
use Rattle.entries.specs.declared.Kind.TheVariants.{File}
use Rattle.cases.specs.Worlds.{fresh, one_file, ten_bytes, linked_from, entered}
use Rattle.names.specs.Name.{name_bytes}
use Rattle.layout.specs.Sizes.{most_file_bytes, block_bytes}
use Rattle.cases.proofs.Behind.{behind, behind_all, behind_run, behind_two}
use Rattle.cases.proofs.Edge.{pairs, joined, inode_is}
use Rattle.checkpoint.proofs.Run.Starts.{Opens, opens, opened, opened_runs}
use Rattle.checkpoint.proofs.Run.Lists.{Going, runs}

pub fourteen_shown : (outcome (call (create 1 (replicate name_bytes 97) File)) (fresh 2 1)).answer ≡ told (Ok 2)
unfolding fresh desk.desk_rest_zero all_below some_below leads_b count first_from first table part splice num_at to_bytes put_num word_bytes digit marked with_mark without_mark entry_inode is_empty folded same_byte same_name spelled name_length entry_name legal_entry entry_for plain_byte is_dots legal_name block_of put_in_block zero_block blocks_used bytes_place is_long further_of kth_by row_by put_kth put_row free_inode named_by lowest_by long_but across added grown kept lowest_from nth_free zero_blocks put_blocks taken extended cut_blocks header_of put_free put_complete put_header header_rest_zero kind_of spare_of links_of size_of parent_of put_links attribute_entry put_attributes address_of put_address addresses_of put_addresses inode_of put_inode slots slot_at entry_of slot_has_name find_slot slot_empty empty_slot put_entry clear_entry desk_of put_desk copied_of put_copied marks_of put_marks mark_of set_mark clear_mark clear_notes same_names naming_b new_name_b entry_b attributes_b addresses_b zero_tail_b inode_b counted_b lead_b is_slot entry_at filled naming allowed desk_allowed framed_b header_b free_counts_b blank_block_b blanks_b body_b is_sound enter created written drop_link unlinked set_parent moved put_file add_block put_size zero_rest cut_to is_kind zero_inode less_free more_free create_plan write_plan shorten_plan holds_none unlink_plan is_below rename_to rename_new_plan room_in make_room fresh_header empty_root fresh_store fresh_desk start_image start_desk next_inode target_block locked_step free_step step_of copied_entry copied_entries copied_block put_counts finish_image desk_framed image_blocks image_allowed is_running blocks_fit desk_fits lacks_addresses image_fits notes_fit has_slot slot_names inode_named outcome next run started start step is_copied note_made note_taken cuts_image cut_image zeroed guard_of locks_any three_guards start_guards decision live cut_entries clear_marks set_marks
fourteen_shown = refl

pub fifteen_shown : (outcome (call (create 1 (replicate (name_bytes + 1) 97) File)) (fresh 2 1)).answer ≡ told (Err IllegalName)
unfolding fresh desk.desk_rest_zero all_below some_below leads_b count first_from first table part splice num_at to_bytes put_num word_bytes digit marked with_mark without_mark entry_inode is_empty folded same_byte same_name spelled name_length entry_name legal_entry entry_for plain_byte is_dots legal_name block_of put_in_block zero_block blocks_used bytes_place is_long further_of kth_by row_by put_kth put_row free_inode named_by lowest_by long_but across added grown kept lowest_from nth_free zero_blocks put_blocks taken extended cut_blocks header_of put_free put_complete put_header header_rest_zero kind_of spare_of links_of size_of parent_of put_links attribute_entry put_attributes address_of put_address addresses_of put_addresses inode_of put_inode slots slot_at entry_of slot_has_name find_slot slot_empty empty_slot put_entry clear_entry desk_of put_desk copied_of put_copied marks_of put_marks mark_of set_mark clear_mark clear_notes same_names naming_b new_name_b entry_b attributes_b addresses_b zero_tail_b inode_b counted_b lead_b is_slot entry_at filled naming allowed desk_allowed framed_b header_b free_counts_b blank_block_b blanks_b body_b is_sound enter created written drop_link unlinked set_parent moved put_file add_block put_size zero_rest cut_to is_kind zero_inode less_free more_free create_plan write_plan shorten_plan holds_none unlink_plan is_below rename_to rename_new_plan room_in make_room fresh_header empty_root fresh_store fresh_desk start_image start_desk next_inode target_block locked_step free_step step_of copied_entry copied_entries copied_block put_counts finish_image desk_framed image_blocks image_allowed is_running blocks_fit desk_fits lacks_addresses image_fits notes_fit has_slot slot_names inode_named outcome next run started start step is_copied note_made note_taken cuts_image cut_image zeroed guard_of locks_any three_guards start_guards decision live cut_entries clear_marks set_marks
fifteen_shown = refl

pub at_size_shown : (outcome (call (write 2 10 (7 ∷ []))) (run ten_bytes (fresh 2 2))).answer ≡ told (Ok 11)
unfolding fresh desk.desk_rest_zero all_below some_below leads_b count first_from first table part splice num_at to_bytes put_num word_bytes digit marked with_mark without_mark entry_inode is_empty folded same_byte same_name spelled name_length entry_name legal_entry entry_for plain_byte is_dots legal_name block_of put_in_block zero_block blocks_used bytes_place is_long further_of kth_by row_by put_kth put_row free_inode named_by lowest_by long_but across added grown kept lowest_from nth_free zero_blocks put_blocks taken extended cut_blocks header_of put_free put_complete put_header header_rest_zero kind_of spare_of links_of size_of parent_of put_links attribute_entry put_attributes address_of put_address addresses_of put_addresses inode_of put_inode slots slot_at entry_of slot_has_name find_slot slot_empty empty_slot put_entry clear_entry desk_of put_desk copied_of put_copied marks_of put_marks mark_of set_mark clear_mark clear_notes same_names naming_b new_name_b entry_b attributes_b addresses_b zero_tail_b inode_b counted_b lead_b is_slot entry_at filled naming allowed desk_allowed framed_b header_b free_counts_b blank_block_b blanks_b body_b is_sound enter created written drop_link unlinked set_parent moved put_file add_block put_size zero_rest cut_to is_kind zero_inode less_free more_free create_plan write_plan shorten_plan holds_none unlink_plan is_below rename_to rename_new_plan room_in make_room fresh_header empty_root fresh_store fresh_desk start_image start_desk next_inode target_block locked_step free_step step_of copied_entry copied_entries copied_block put_counts finish_image desk_framed image_blocks image_allowed is_running blocks_fit desk_fits lacks_addresses image_fits notes_fit has_slot slot_names inode_named outcome next run started start step is_copied note_made note_taken cuts_image cut_image zeroed guard_of locks_any three_guards start_guards decision live cut_entries clear_marks set_marks ten_bytes
at_size_shown = refl

pub past_size_shown : (outcome (call (write 2 11 (7 ∷ []))) (run ten_bytes (fresh 2 2))).answer ≡ told (Err PastEnd)
unfolding fresh desk.desk_rest_zero all_below some_below leads_b count first_from first table part splice num_at to_bytes put_num word_bytes digit marked with_mark without_mark entry_inode is_empty folded same_byte same_name spelled name_length entry_name legal_entry entry_for plain_byte is_dots legal_name block_of put_in_block zero_block blocks_used bytes_place is_long further_of kth_by row_by put_kth put_row free_inode named_by lowest_by long_but across added grown kept lowest_from nth_free zero_blocks put_blocks taken extended cut_blocks header_of put_free put_complete put_header header_rest_zero kind_of spare_of links_of size_of parent_of put_links attribute_entry put_attributes address_of put_address addresses_of put_addresses inode_of put_inode slots slot_at entry_of slot_has_name find_slot slot_empty empty_slot put_entry clear_entry desk_of put_desk copied_of put_copied marks_of put_marks mark_of set_mark clear_mark clear_notes same_names naming_b new_name_b entry_b attributes_b addresses_b zero_tail_b inode_b counted_b lead_b is_slot entry_at filled naming allowed desk_allowed framed_b header_b free_counts_b blank_block_b blanks_b body_b is_sound enter created written drop_link unlinked set_parent moved put_file add_block put_size zero_rest cut_to is_kind zero_inode less_free more_free create_plan write_plan shorten_plan holds_none unlink_plan is_below rename_to rename_new_plan room_in make_room fresh_header empty_root fresh_store fresh_desk start_image start_desk next_inode target_block locked_step free_step step_of copied_entry copied_entries copied_block put_counts finish_image desk_framed image_blocks image_allowed is_running blocks_fit desk_fits lacks_addresses image_fits notes_fit has_slot slot_names inode_named outcome next run started start step is_copied note_made note_taken cuts_image cut_image zeroed guard_of locks_any three_guards start_guards decision live cut_entries clear_marks set_marks ten_bytes
past_size_shown = refl

pub end_shown : (outcome (call (write 2 0 (replicate most_file_bytes 7))) (run one_file (fresh 2 45))).answer ≡ told (Ok most_file_bytes)
unfolding fresh desk.desk_rest_zero all_below some_below leads_b count first_from first table part splice num_at to_bytes put_num word_bytes digit marked with_mark without_mark entry_inode is_empty folded same_byte same_name spelled name_length entry_name legal_entry entry_for plain_byte is_dots legal_name block_of put_in_block zero_block blocks_used bytes_place is_long further_of kth_by row_by put_kth put_row free_inode named_by lowest_by long_but across added grown kept lowest_from nth_free zero_blocks put_blocks taken extended cut_blocks header_of put_free put_complete put_header header_rest_zero kind_of spare_of links_of size_of parent_of put_links attribute_entry put_attributes address_of put_address addresses_of put_addresses inode_of put_inode slots slot_at entry_of slot_has_name find_slot slot_empty empty_slot put_entry clear_entry desk_of put_desk copied_of put_copied marks_of put_marks mark_of set_mark clear_mark clear_notes same_names naming_b new_name_b entry_b attributes_b addresses_b zero_tail_b inode_b counted_b lead_b is_slot entry_at filled naming allowed desk_allowed framed_b header_b free_counts_b blank_block_b blanks_b body_b is_sound enter created written drop_link unlinked set_parent moved put_file add_block put_size zero_rest cut_to is_kind zero_inode less_free more_free create_plan write_plan shorten_plan holds_none unlink_plan is_below rename_to rename_new_plan room_in make_room fresh_header empty_root fresh_store fresh_desk start_image start_desk next_inode target_block locked_step free_step step_of copied_entry copied_entries copied_block put_counts finish_image desk_framed image_blocks image_allowed is_running blocks_fit desk_fits lacks_addresses image_fits notes_fit has_slot slot_names inode_named outcome next run started start step is_copied note_made note_taken cuts_image cut_image zeroed guard_of locks_any three_guards start_guards decision live cut_entries clear_marks set_marks one_file
end_shown = refl

pub past_end_shown : (outcome (call (write 2 0 (replicate (most_file_bytes + 1) 7))) (run one_file (fresh 2 45))).answer ≡ told (Err PastEnd)
unfolding fresh desk.desk_rest_zero all_below some_below leads_b count first_from first table part splice num_at to_bytes put_num word_bytes digit marked with_mark without_mark entry_inode is_empty folded same_byte same_name spelled name_length entry_name legal_entry entry_for plain_byte is_dots legal_name block_of put_in_block zero_block blocks_used bytes_place is_long further_of kth_by row_by put_kth put_row free_inode named_by lowest_by long_but across added grown kept lowest_from nth_free zero_blocks put_blocks taken extended cut_blocks header_of put_free put_complete put_header header_rest_zero kind_of spare_of links_of size_of parent_of put_links attribute_entry put_attributes address_of put_address addresses_of put_addresses inode_of put_inode slots slot_at entry_of slot_has_name find_slot slot_empty empty_slot put_entry clear_entry desk_of put_desk copied_of put_copied marks_of put_marks mark_of set_mark clear_mark clear_notes same_names naming_b new_name_b entry_b attributes_b addresses_b zero_tail_b inode_b counted_b lead_b is_slot entry_at filled naming allowed desk_allowed framed_b header_b free_counts_b blank_block_b blanks_b body_b is_sound enter created written drop_link unlinked set_parent moved put_file add_block put_size zero_rest cut_to is_kind zero_inode less_free more_free create_plan write_plan shorten_plan holds_none unlink_plan is_below rename_to rename_new_plan room_in make_room fresh_header empty_root fresh_store fresh_desk start_image start_desk next_inode target_block locked_step free_step step_of copied_entry copied_entries copied_block put_counts finish_image desk_framed image_blocks image_allowed is_running blocks_fit desk_fits lacks_addresses image_fits notes_fit has_slot slot_names inode_named outcome next run started start step is_copied note_made note_taken cuts_image cut_image zeroed guard_of locks_any three_guards start_guards decision live cut_entries clear_marks set_marks one_file
past_end_shown = refl

-- ---- entries: the root with k of them in c blocks while a copy runs, part by part behind the guards
begins : accepted starts (fresh 3 13) ≡ true
unfolding fresh desk.desk_rest_zero all_below some_below leads_b count first_from first table part splice num_at to_bytes put_num word_bytes digit marked with_mark without_mark entry_inode is_empty folded same_byte same_name spelled name_length entry_name legal_entry entry_for plain_byte is_dots legal_name block_of put_in_block zero_block blocks_used bytes_place is_long further_of kth_by row_by put_kth put_row free_inode named_by lowest_by long_but across added grown kept lowest_from nth_free zero_blocks put_blocks taken extended cut_blocks header_of put_free put_complete put_header header_rest_zero kind_of spare_of links_of size_of parent_of put_links attribute_entry put_attributes address_of put_address addresses_of put_addresses inode_of put_inode slots slot_at entry_of slot_has_name find_slot slot_empty empty_slot put_entry clear_entry desk_of put_desk copied_of put_copied marks_of put_marks mark_of set_mark clear_mark clear_notes same_names naming_b new_name_b entry_b attributes_b addresses_b zero_tail_b inode_b counted_b lead_b is_slot entry_at filled naming allowed desk_allowed framed_b header_b free_counts_b blank_block_b blanks_b body_b is_sound enter created written drop_link unlinked set_parent moved put_file add_block put_size zero_rest cut_to is_kind zero_inode less_free more_free create_plan write_plan shorten_plan holds_none unlink_plan is_below rename_to rename_new_plan room_in make_room fresh_header empty_root fresh_store fresh_desk start_image start_desk next_inode target_block locked_step free_step step_of copied_entry copied_entries copied_block put_counts finish_image desk_framed image_blocks image_allowed is_running blocks_fit desk_fits lacks_addresses image_fits notes_fit has_slot slot_names inode_named outcome next run started start step is_copied note_made note_taken cuts_image cut_image zeroed guard_of locks_any three_guards start_guards decision live cut_entries clear_marks set_marks
begins = refl

opening : Opens (fresh 3 13)
opening = opens (fresh 3 13) begins

going : Going 3 13 (next starts (fresh 3 13))
unfolding fresh desk.desk_rest_zero all_below some_below leads_b count first_from first table part splice num_at to_bytes put_num word_bytes digit marked with_mark without_mark entry_inode is_empty folded same_byte same_name spelled name_length entry_name legal_entry entry_for plain_byte is_dots legal_name block_of put_in_block zero_block blocks_used bytes_place is_long further_of kth_by row_by put_kth put_row free_inode named_by lowest_by long_but across added grown kept lowest_from nth_free zero_blocks put_blocks taken extended cut_blocks header_of put_free put_complete put_header header_rest_zero kind_of spare_of links_of size_of parent_of put_links attribute_entry put_attributes address_of put_address addresses_of put_addresses inode_of put_inode slots slot_at entry_of slot_has_name find_slot slot_empty empty_slot put_entry clear_entry desk_of put_desk copied_of put_copied marks_of put_marks mark_of set_mark clear_mark clear_notes same_names naming_b new_name_b entry_b attributes_b addresses_b zero_tail_b inode_b counted_b lead_b is_slot entry_at filled naming allowed desk_allowed framed_b header_b free_counts_b blank_block_b blanks_b body_b is_sound enter created written drop_link unlinked set_parent moved put_file add_block put_size zero_rest cut_to is_kind zero_inode less_free more_free create_plan write_plan shorten_plan holds_none unlink_plan is_below rename_to rename_new_plan room_in make_room fresh_header empty_root fresh_store fresh_desk start_image start_desk next_inode target_block locked_step free_step step_of copied_entry copied_entries copied_block put_counts finish_image desk_framed image_blocks image_allowed is_running blocks_fit desk_fits lacks_addresses image_fits notes_fit has_slot slot_names inode_named outcome next run started start step is_copied note_made note_taken cuts_image cut_image zeroed guard_of locks_any three_guards start_guards decision live cut_entries clear_marks set_marks
going = runs (opened_runs 3 13 (fresh 3 13) opening refl refl).runs

-- entries of file 2 by the names of one byte from a on
entries_from : ℕ → ℕ → List ℕ
entries_from a zero = []
entries_from a (suc k) = 2 ∷ 0 ∷ a ∷ (replicate 13 0 ++ entries_from (a + 1) k)

-- the mark bits of the root, eight to a byte, are those of its entries
root_with : ℕ → ℕ → List ℕ → World
root_with k c marks = record {
  store = joined ((3 ∷ 0 ∷ 13 ∷ 0 ∷ 1 ∷ 0 ∷ (13 - c) ∷ 0 ∷ 1 ∷ 0 ∷ 1 ∷ 0 ∷ 0 ∷ 0 ∷ 0 ∷ 0 ∷ [])
      ∷ inode_is 2 0 (block_bytes * c % 256) (block_bytes * c / 256) ∷ inode_is 1 k 0 0 ∷ replicate 8 0
      ∷ pairs 1 c ∷ replicate (72 - 2 * c) 0 ∷ entries_from 97 k ∷ replicate (16 * (52 - k)) 0 ∷ []);
  image = joined ((3 ∷ 0 ∷ 13 ∷ 0 ∷ 0 ∷ 0 ∷ 0 ∷ 0 ∷ 0 ∷ 0 ∷ 1 ∷ []) ∷ replicate (store_length 3 13 - 11) 0 ∷ []);
  desk = joined ((3 ∷ 0 ∷ 13 ∷ 0 ∷ 1 ∷ []) ∷ replicate 14 0 ∷ marks ∷ replicate 16 0 ∷ []);
}

to_12 : behind_all (entered 12) (opened (fresh 3 13)) ≡ root_with 12 3 (255 ∷ 15 ∷ 0 ∷ 0 ∷ 0 ∷ 0 ∷ 0 ∷ 0 ∷ [])
unfolding fresh desk.desk_rest_zero all_below some_below leads_b count first_from first table part splice num_at to_bytes put_num word_bytes digit marked with_mark without_mark entry_inode is_empty folded same_byte same_name spelled name_length entry_name legal_entry entry_for plain_byte is_dots legal_name block_of put_in_block zero_block blocks_used bytes_place is_long further_of kth_by row_by put_kth put_row free_inode named_by lowest_by long_but across added grown kept lowest_from nth_free zero_blocks put_blocks taken extended cut_blocks header_of put_free put_complete put_header header_rest_zero kind_of spare_of links_of size_of parent_of put_links attribute_entry put_attributes address_of put_address addresses_of put_addresses inode_of put_inode slots slot_at entry_of slot_has_name find_slot slot_empty empty_slot put_entry clear_entry desk_of put_desk copied_of put_copied marks_of put_marks mark_of set_mark clear_mark clear_notes same_names naming_b new_name_b entry_b attributes_b addresses_b zero_tail_b inode_b counted_b lead_b is_slot entry_at filled naming allowed desk_allowed framed_b header_b free_counts_b blank_block_b blanks_b body_b is_sound enter created written drop_link unlinked set_parent moved put_file add_block put_size zero_rest cut_to is_kind zero_inode less_free more_free create_plan write_plan shorten_plan holds_none unlink_plan is_below rename_to rename_new_plan room_in make_room fresh_header empty_root fresh_store fresh_desk start_image start_desk next_inode target_block locked_step free_step step_of copied_entry copied_entries copied_block put_counts finish_image desk_framed image_blocks image_allowed is_running blocks_fit desk_fits lacks_addresses image_fits notes_fit has_slot slot_names inode_named outcome next run started start step is_copied note_made note_taken cuts_image cut_image zeroed guard_of locks_any three_guards start_guards decision live cut_entries clear_marks set_marks entered linked_from linked link_plan behind behind_all entries_from root_with joined inode_is pairs
to_12 = refl

to_24 : behind_all (linked_from 109 12) (root_with 12 3 (255 ∷ 15 ∷ 0 ∷ 0 ∷ 0 ∷ 0 ∷ 0 ∷ 0 ∷ [])) ≡ root_with 24 6 (255 ∷ 255 ∷ 255 ∷ 0 ∷ 0 ∷ 0 ∷ 0 ∷ 0 ∷ [])
unfolding fresh desk.desk_rest_zero all_below some_below leads_b count first_from first table part splice num_at to_bytes put_num word_bytes digit marked with_mark without_mark entry_inode is_empty folded same_byte same_name spelled name_length entry_name legal_entry entry_for plain_byte is_dots legal_name block_of put_in_block zero_block blocks_used bytes_place is_long further_of kth_by row_by put_kth put_row free_inode named_by lowest_by long_but across added grown kept lowest_from nth_free zero_blocks put_blocks taken extended cut_blocks header_of put_free put_complete put_header header_rest_zero kind_of spare_of links_of size_of parent_of put_links attribute_entry put_attributes address_of put_address addresses_of put_addresses inode_of put_inode slots slot_at entry_of slot_has_name find_slot slot_empty empty_slot put_entry clear_entry desk_of put_desk copied_of put_copied marks_of put_marks mark_of set_mark clear_mark clear_notes same_names naming_b new_name_b entry_b attributes_b addresses_b zero_tail_b inode_b counted_b lead_b is_slot entry_at filled naming allowed desk_allowed framed_b header_b free_counts_b blank_block_b blanks_b body_b is_sound enter created written drop_link unlinked set_parent moved put_file add_block put_size zero_rest cut_to is_kind zero_inode less_free more_free create_plan write_plan shorten_plan holds_none unlink_plan is_below rename_to rename_new_plan room_in make_room fresh_header empty_root fresh_store fresh_desk start_image start_desk next_inode target_block locked_step free_step step_of copied_entry copied_entries copied_block put_counts finish_image desk_framed image_blocks image_allowed is_running blocks_fit desk_fits lacks_addresses image_fits notes_fit has_slot slot_names inode_named outcome next run started start step is_copied note_made note_taken cuts_image cut_image zeroed guard_of locks_any three_guards start_guards decision live cut_entries clear_marks set_marks entered linked_from linked link_plan behind behind_all entries_from root_with joined inode_is pairs
to_24 = refl

to_34 : behind_all (linked_from 121 10) (root_with 24 6 (255 ∷ 255 ∷ 255 ∷ 0 ∷ 0 ∷ 0 ∷ 0 ∷ 0 ∷ [])) ≡ root_with 34 9 (255 ∷ 255 ∷ 255 ∷ 255 ∷ 3 ∷ 0 ∷ 0 ∷ 0 ∷ [])
unfolding fresh desk.desk_rest_zero all_below some_below leads_b count first_from first table part splice num_at to_bytes put_num word_bytes digit marked with_mark without_mark entry_inode is_empty folded same_byte same_name spelled name_length entry_name legal_entry entry_for plain_byte is_dots legal_name block_of put_in_block zero_block blocks_used bytes_place is_long further_of kth_by row_by put_kth put_row free_inode named_by lowest_by long_but across added grown kept lowest_from nth_free zero_blocks put_blocks taken extended cut_blocks header_of put_free put_complete put_header header_rest_zero kind_of spare_of links_of size_of parent_of put_links attribute_entry put_attributes address_of put_address addresses_of put_addresses inode_of put_inode slots slot_at entry_of slot_has_name find_slot slot_empty empty_slot put_entry clear_entry desk_of put_desk copied_of put_copied marks_of put_marks mark_of set_mark clear_mark clear_notes same_names naming_b new_name_b entry_b attributes_b addresses_b zero_tail_b inode_b counted_b lead_b is_slot entry_at filled naming allowed desk_allowed framed_b header_b free_counts_b blank_block_b blanks_b body_b is_sound enter created written drop_link unlinked set_parent moved put_file add_block put_size zero_rest cut_to is_kind zero_inode less_free more_free create_plan write_plan shorten_plan holds_none unlink_plan is_below rename_to rename_new_plan room_in make_room fresh_header empty_root fresh_store fresh_desk start_image start_desk next_inode target_block locked_step free_step step_of copied_entry copied_entries copied_block put_counts finish_image desk_framed image_blocks image_allowed is_running blocks_fit desk_fits lacks_addresses image_fits notes_fit has_slot slot_names inode_named outcome next run started start step is_copied note_made note_taken cuts_image cut_image zeroed guard_of locks_any three_guards start_guards decision live cut_entries clear_marks set_marks entered linked_from linked link_plan behind behind_all entries_from root_with joined inode_is pairs
to_34 = refl

to_44 : behind_all (linked_from 131 10) (root_with 34 9 (255 ∷ 255 ∷ 255 ∷ 255 ∷ 3 ∷ 0 ∷ 0 ∷ 0 ∷ [])) ≡ root_with 44 11 (255 ∷ 255 ∷ 255 ∷ 255 ∷ 255 ∷ 15 ∷ 0 ∷ 0 ∷ [])
unfolding fresh desk.desk_rest_zero all_below some_below leads_b count first_from first table part splice num_at to_bytes put_num word_bytes digit marked with_mark without_mark entry_inode is_empty folded same_byte same_name spelled name_length entry_name legal_entry entry_for plain_byte is_dots legal_name block_of put_in_block zero_block blocks_used bytes_place is_long further_of kth_by row_by put_kth put_row free_inode named_by lowest_by long_but across added grown kept lowest_from nth_free zero_blocks put_blocks taken extended cut_blocks header_of put_free put_complete put_header header_rest_zero kind_of spare_of links_of size_of parent_of put_links attribute_entry put_attributes address_of put_address addresses_of put_addresses inode_of put_inode slots slot_at entry_of slot_has_name find_slot slot_empty empty_slot put_entry clear_entry desk_of put_desk copied_of put_copied marks_of put_marks mark_of set_mark clear_mark clear_notes same_names naming_b new_name_b entry_b attributes_b addresses_b zero_tail_b inode_b counted_b lead_b is_slot entry_at filled naming allowed desk_allowed framed_b header_b free_counts_b blank_block_b blanks_b body_b is_sound enter created written drop_link unlinked set_parent moved put_file add_block put_size zero_rest cut_to is_kind zero_inode less_free more_free create_plan write_plan shorten_plan holds_none unlink_plan is_below rename_to rename_new_plan room_in make_room fresh_header empty_root fresh_store fresh_desk start_image start_desk next_inode target_block locked_step free_step step_of copied_entry copied_entries copied_block put_counts finish_image desk_framed image_blocks image_allowed is_running blocks_fit desk_fits lacks_addresses image_fits notes_fit has_slot slot_names inode_named outcome next run started start step is_copied note_made note_taken cuts_image cut_image zeroed guard_of locks_any three_guards start_guards decision live cut_entries clear_marks set_marks entered linked_from linked link_plan behind behind_all entries_from root_with joined inode_is pairs
to_44 = refl

to_45 : behind_all (linked_from 141 1) (root_with 44 11 (255 ∷ 255 ∷ 255 ∷ 255 ∷ 255 ∷ 15 ∷ 0 ∷ 0 ∷ [])) ≡ root_with 45 12 (255 ∷ 255 ∷ 255 ∷ 255 ∷ 255 ∷ 31 ∷ 0 ∷ 0 ∷ [])
unfolding fresh desk.desk_rest_zero all_below some_below leads_b count first_from first table part splice num_at to_bytes put_num word_bytes digit marked with_mark without_mark entry_inode is_empty folded same_byte same_name spelled name_length entry_name legal_entry entry_for plain_byte is_dots legal_name block_of put_in_block zero_block blocks_used bytes_place is_long further_of kth_by row_by put_kth put_row free_inode named_by lowest_by long_but across added grown kept lowest_from nth_free zero_blocks put_blocks taken extended cut_blocks header_of put_free put_complete put_header header_rest_zero kind_of spare_of links_of size_of parent_of put_links attribute_entry put_attributes address_of put_address addresses_of put_addresses inode_of put_inode slots slot_at entry_of slot_has_name find_slot slot_empty empty_slot put_entry clear_entry desk_of put_desk copied_of put_copied marks_of put_marks mark_of set_mark clear_mark clear_notes same_names naming_b new_name_b entry_b attributes_b addresses_b zero_tail_b inode_b counted_b lead_b is_slot entry_at filled naming allowed desk_allowed framed_b header_b free_counts_b blank_block_b blanks_b body_b is_sound enter created written drop_link unlinked set_parent moved put_file add_block put_size zero_rest cut_to is_kind zero_inode less_free more_free create_plan write_plan shorten_plan holds_none unlink_plan is_below rename_to rename_new_plan room_in make_room fresh_header empty_root fresh_store fresh_desk start_image start_desk next_inode target_block locked_step free_step step_of copied_entry copied_entries copied_block put_counts finish_image desk_framed image_blocks image_allowed is_running blocks_fit desk_fits lacks_addresses image_fits notes_fit has_slot slot_names inode_named outcome next run started start step is_copied note_made note_taken cuts_image cut_image zeroed guard_of locks_any three_guards start_guards decision live cut_entries clear_marks set_marks entered linked_from linked link_plan behind behind_all entries_from root_with joined inode_is pairs
to_45 = refl

to_47 : behind_all (linked_from 142 2) (root_with 45 12 (255 ∷ 255 ∷ 255 ∷ 255 ∷ 255 ∷ 31 ∷ 0 ∷ 0 ∷ [])) ≡ root_with 47 12 (255 ∷ 255 ∷ 255 ∷ 255 ∷ 255 ∷ 127 ∷ 0 ∷ 0 ∷ [])
unfolding fresh desk.desk_rest_zero all_below some_below leads_b count first_from first table part splice num_at to_bytes put_num word_bytes digit marked with_mark without_mark entry_inode is_empty folded same_byte same_name spelled name_length entry_name legal_entry entry_for plain_byte is_dots legal_name block_of put_in_block zero_block blocks_used bytes_place is_long further_of kth_by row_by put_kth put_row free_inode named_by lowest_by long_but across added grown kept lowest_from nth_free zero_blocks put_blocks taken extended cut_blocks header_of put_free put_complete put_header header_rest_zero kind_of spare_of links_of size_of parent_of put_links attribute_entry put_attributes address_of put_address addresses_of put_addresses inode_of put_inode slots slot_at entry_of slot_has_name find_slot slot_empty empty_slot put_entry clear_entry desk_of put_desk copied_of put_copied marks_of put_marks mark_of set_mark clear_mark clear_notes same_names naming_b new_name_b entry_b attributes_b addresses_b zero_tail_b inode_b counted_b lead_b is_slot entry_at filled naming allowed desk_allowed framed_b header_b free_counts_b blank_block_b blanks_b body_b is_sound enter created written drop_link unlinked set_parent moved put_file add_block put_size zero_rest cut_to is_kind zero_inode less_free more_free create_plan write_plan shorten_plan holds_none unlink_plan is_below rename_to rename_new_plan room_in make_room fresh_header empty_root fresh_store fresh_desk start_image start_desk next_inode target_block locked_step free_step step_of copied_entry copied_entries copied_block put_counts finish_image desk_framed image_blocks image_allowed is_running blocks_fit desk_fits lacks_addresses image_fits notes_fit has_slot slot_names inode_named outcome next run started start step is_copied note_made note_taken cuts_image cut_image zeroed guard_of locks_any three_guards start_guards decision live cut_entries clear_marks set_marks entered linked_from linked link_plan behind behind_all entries_from root_with joined inode_is pairs
to_47 = refl

to_48 : behind_all (linked_from 144 1) (root_with 47 12 (255 ∷ 255 ∷ 255 ∷ 255 ∷ 255 ∷ 127 ∷ 0 ∷ 0 ∷ [])) ≡ root_with 48 12 (255 ∷ 255 ∷ 255 ∷ 255 ∷ 255 ∷ 255 ∷ 0 ∷ 0 ∷ [])
unfolding fresh desk.desk_rest_zero all_below some_below leads_b count first_from first table part splice num_at to_bytes put_num word_bytes digit marked with_mark without_mark entry_inode is_empty folded same_byte same_name spelled name_length entry_name legal_entry entry_for plain_byte is_dots legal_name block_of put_in_block zero_block blocks_used bytes_place is_long further_of kth_by row_by put_kth put_row free_inode named_by lowest_by long_but across added grown kept lowest_from nth_free zero_blocks put_blocks taken extended cut_blocks header_of put_free put_complete put_header header_rest_zero kind_of spare_of links_of size_of parent_of put_links attribute_entry put_attributes address_of put_address addresses_of put_addresses inode_of put_inode slots slot_at entry_of slot_has_name find_slot slot_empty empty_slot put_entry clear_entry desk_of put_desk copied_of put_copied marks_of put_marks mark_of set_mark clear_mark clear_notes same_names naming_b new_name_b entry_b attributes_b addresses_b zero_tail_b inode_b counted_b lead_b is_slot entry_at filled naming allowed desk_allowed framed_b header_b free_counts_b blank_block_b blanks_b body_b is_sound enter created written drop_link unlinked set_parent moved put_file add_block put_size zero_rest cut_to is_kind zero_inode less_free more_free create_plan write_plan shorten_plan holds_none unlink_plan is_below rename_to rename_new_plan room_in make_room fresh_header empty_root fresh_store fresh_desk start_image start_desk next_inode target_block locked_step free_step step_of copied_entry copied_entries copied_block put_counts finish_image desk_framed image_blocks image_allowed is_running blocks_fit desk_fits lacks_addresses image_fits notes_fit has_slot slot_names inode_named outcome next run started start step is_copied note_made note_taken cuts_image cut_image zeroed guard_of locks_any three_guards start_guards decision live cut_entries clear_marks set_marks entered linked_from linked link_plan behind behind_all entries_from root_with joined inode_is pairs
to_48 = refl

-- together: behind the guards, and so by the calls
entered_44 : behind_all (entered 44) (opened (fresh 3 13)) ≡ (root_with 44 11 (255 ∷ 255 ∷ 255 ∷ 255 ∷ 255 ∷ 15 ∷ 0 ∷ 0 ∷ []))
unfolding entered linked_from
entered_44 =
    behind_two (entered 12) (linked_from 109 12 ++ (linked_from 121 10 ++ linked_from 131 10)) (opened (fresh 3 13)) (root_with 12 3 (255 ∷ 15 ∷ 0 ∷ 0 ∷ 0 ∷ 0 ∷ 0 ∷ 0 ∷ [])) to_12
    ∙ behind_two (linked_from 109 12) (linked_from 121 10 ++ linked_from 131 10) (root_with 12 3 (255 ∷ 15 ∷ 0 ∷ 0 ∷ 0 ∷ 0 ∷ 0 ∷ 0 ∷ [])) (root_with 24 6 (255 ∷ 255 ∷ 255 ∷ 0 ∷ 0 ∷ 0 ∷ 0 ∷ 0 ∷ [])) to_24
    ∙ behind_two (linked_from 121 10) (linked_from 131 10) (root_with 24 6 (255 ∷ 255 ∷ 255 ∷ 0 ∷ 0 ∷ 0 ∷ 0 ∷ 0 ∷ [])) (root_with 34 9 (255 ∷ 255 ∷ 255 ∷ 255 ∷ 3 ∷ 0 ∷ 0 ∷ 0 ∷ [])) to_34
    ∙ to_44

entered_45 : behind_all (entered 45) (opened (fresh 3 13)) ≡ (root_with 45 12 (255 ∷ 255 ∷ 255 ∷ 255 ∷ 255 ∷ 31 ∷ 0 ∷ 0 ∷ []))
unfolding entered linked_from
entered_45 = behind_two (entered 44) (linked_from 141 1) (opened (fresh 3 13)) (root_with 44 11 (255 ∷ 255 ∷ 255 ∷ 255 ∷ 255 ∷ 15 ∷ 0 ∷ 0 ∷ [])) entered_44 ∙ to_45

entered_47 : behind_all (entered 47) (opened (fresh 3 13)) ≡ (root_with 47 12 (255 ∷ 255 ∷ 255 ∷ 255 ∷ 255 ∷ 127 ∷ 0 ∷ 0 ∷ []))
unfolding entered linked_from
entered_47 = behind_two (entered 45) (linked_from 142 2) (opened (fresh 3 13)) (root_with 45 12 (255 ∷ 255 ∷ 255 ∷ 255 ∷ 255 ∷ 31 ∷ 0 ∷ 0 ∷ [])) entered_45 ∙ to_47

entered_48 : behind_all (entered 48) (opened (fresh 3 13)) ≡ (root_with 48 12 (255 ∷ 255 ∷ 255 ∷ 255 ∷ 255 ∷ 255 ∷ 0 ∷ 0 ∷ []))
unfolding entered linked_from
entered_48 = behind_two (entered 47) (linked_from 144 1) (opened (fresh 3 13)) (root_with 47 12 (255 ∷ 255 ∷ 255 ∷ 255 ∷ 255 ∷ 127 ∷ 0 ∷ 0 ∷ [])) entered_47 ∙ to_48

ran : (k : ℕ) (w : World) → behind_all (entered k) (opened (fresh 3 13)) ≡ w → run (starts ∷ entered k) (fresh 3 13) ≡ w
unfolding run
ran k w e = behind_run 3 13 (entered k) (next starts (fresh 3 13)) going ∙ ap (behind_all (entered k)) opening.is ∙ e

eleven : blocks_used (size_of (root_with 44 11 (255 ∷ 255 ∷ 255 ∷ 255 ∷ 255 ∷ 15 ∷ 0 ∷ 0 ∷ [])).store 1) ≡ 11
unfolding fresh desk.desk_rest_zero all_below some_below leads_b count first_from first table part splice num_at to_bytes put_num word_bytes digit marked with_mark without_mark entry_inode is_empty folded same_byte same_name spelled name_length entry_name legal_entry entry_for plain_byte is_dots legal_name block_of put_in_block zero_block blocks_used bytes_place is_long further_of kth_by row_by put_kth put_row free_inode named_by lowest_by long_but across added grown kept lowest_from nth_free zero_blocks put_blocks taken extended cut_blocks header_of put_free put_complete put_header header_rest_zero kind_of spare_of links_of size_of parent_of put_links attribute_entry put_attributes address_of put_address addresses_of put_addresses inode_of put_inode slots slot_at entry_of slot_has_name find_slot slot_empty empty_slot put_entry clear_entry desk_of put_desk copied_of put_copied marks_of put_marks mark_of set_mark clear_mark clear_notes same_names naming_b new_name_b entry_b attributes_b addresses_b zero_tail_b inode_b counted_b lead_b is_slot entry_at filled naming allowed desk_allowed framed_b header_b free_counts_b blank_block_b blanks_b body_b is_sound enter created written drop_link unlinked set_parent moved put_file add_block put_size zero_rest cut_to is_kind zero_inode less_free more_free create_plan write_plan shorten_plan holds_none unlink_plan is_below rename_to rename_new_plan room_in make_room fresh_header empty_root fresh_store fresh_desk start_image start_desk next_inode target_block locked_step free_step step_of copied_entry copied_entries copied_block put_counts finish_image desk_framed image_blocks image_allowed is_running blocks_fit desk_fits lacks_addresses image_fits notes_fit has_slot slot_names inode_named outcome next run started start step is_copied note_made note_taken cuts_image cut_image zeroed guard_of locks_any three_guards start_guards decision live cut_entries clear_marks set_marks entered linked_from linked link_plan behind behind_all entries_from root_with joined inode_is pairs
eleven = refl

twelve : blocks_used (size_of (root_with 45 12 (255 ∷ 255 ∷ 255 ∷ 255 ∷ 255 ∷ 31 ∷ 0 ∷ 0 ∷ [])).store 1) ≡ 12
unfolding fresh desk.desk_rest_zero all_below some_below leads_b count first_from first table part splice num_at to_bytes put_num word_bytes digit marked with_mark without_mark entry_inode is_empty folded same_byte same_name spelled name_length entry_name legal_entry entry_for plain_byte is_dots legal_name block_of put_in_block zero_block blocks_used bytes_place is_long further_of kth_by row_by put_kth put_row free_inode named_by lowest_by long_but across added grown kept lowest_from nth_free zero_blocks put_blocks taken extended cut_blocks header_of put_free put_complete put_header header_rest_zero kind_of spare_of links_of size_of parent_of put_links attribute_entry put_attributes address_of put_address addresses_of put_addresses inode_of put_inode slots slot_at entry_of slot_has_name find_slot slot_empty empty_slot put_entry clear_entry desk_of put_desk copied_of put_copied marks_of put_marks mark_of set_mark clear_mark clear_notes same_names naming_b new_name_b entry_b attributes_b addresses_b zero_tail_b inode_b counted_b lead_b is_slot entry_at filled naming allowed desk_allowed framed_b header_b free_counts_b blank_block_b blanks_b body_b is_sound enter created written drop_link unlinked set_parent moved put_file add_block put_size zero_rest cut_to is_kind zero_inode less_free more_free create_plan write_plan shorten_plan holds_none unlink_plan is_below rename_to rename_new_plan room_in make_room fresh_header empty_root fresh_store fresh_desk start_image start_desk next_inode target_block locked_step free_step step_of copied_entry copied_entries copied_block put_counts finish_image desk_framed image_blocks image_allowed is_running blocks_fit desk_fits lacks_addresses image_fits notes_fit has_slot slot_names inode_named outcome next run started start step is_copied note_made note_taken cuts_image cut_image zeroed guard_of locks_any three_guards start_guards decision live cut_entries clear_marks set_marks entered linked_from linked link_plan behind behind_all entries_from root_with joined inode_is pairs
twelve = refl

one_more : (outcome (call (create 1 (96 ∷ []) File)) (root_with 47 12 (255 ∷ 255 ∷ 255 ∷ 255 ∷ 255 ∷ 127 ∷ 0 ∷ 0 ∷ []))).answer ≡ told (Ok 3)
unfolding fresh desk.desk_rest_zero all_below some_below leads_b count first_from first table part splice num_at to_bytes put_num word_bytes digit marked with_mark without_mark entry_inode is_empty folded same_byte same_name spelled name_length entry_name legal_entry entry_for plain_byte is_dots legal_name block_of put_in_block zero_block blocks_used bytes_place is_long further_of kth_by row_by put_kth put_row free_inode named_by lowest_by long_but across added grown kept lowest_from nth_free zero_blocks put_blocks taken extended cut_blocks header_of put_free put_complete put_header header_rest_zero kind_of spare_of links_of size_of parent_of put_links attribute_entry put_attributes address_of put_address addresses_of put_addresses inode_of put_inode slots slot_at entry_of slot_has_name find_slot slot_empty empty_slot put_entry clear_entry desk_of put_desk copied_of put_copied marks_of put_marks mark_of set_mark clear_mark clear_notes same_names naming_b new_name_b entry_b attributes_b addresses_b zero_tail_b inode_b counted_b lead_b is_slot entry_at filled naming allowed desk_allowed framed_b header_b free_counts_b blank_block_b blanks_b body_b is_sound enter created written drop_link unlinked set_parent moved put_file add_block put_size zero_rest cut_to is_kind zero_inode less_free more_free create_plan write_plan shorten_plan holds_none unlink_plan is_below rename_to rename_new_plan room_in make_room fresh_header empty_root fresh_store fresh_desk start_image start_desk next_inode target_block locked_step free_step step_of copied_entry copied_entries copied_block put_counts finish_image desk_framed image_blocks image_allowed is_running blocks_fit desk_fits lacks_addresses image_fits notes_fit has_slot slot_names inode_named outcome next run started start step is_copied note_made note_taken cuts_image cut_image zeroed guard_of locks_any three_guards start_guards decision live cut_entries clear_marks set_marks entered linked_from linked link_plan behind behind_all entries_from root_with joined inode_is pairs
one_more = refl

no_more : (outcome (call (create 1 (96 ∷ []) File)) (root_with 48 12 (255 ∷ 255 ∷ 255 ∷ 255 ∷ 255 ∷ 255 ∷ 0 ∷ 0 ∷ []))).answer ≡ told (Err NoSlot)
unfolding fresh desk.desk_rest_zero all_below some_below leads_b count first_from first table part splice num_at to_bytes put_num word_bytes digit marked with_mark without_mark entry_inode is_empty folded same_byte same_name spelled name_length entry_name legal_entry entry_for plain_byte is_dots legal_name block_of put_in_block zero_block blocks_used bytes_place is_long further_of kth_by row_by put_kth put_row free_inode named_by lowest_by long_but across added grown kept lowest_from nth_free zero_blocks put_blocks taken extended cut_blocks header_of put_free put_complete put_header header_rest_zero kind_of spare_of links_of size_of parent_of put_links attribute_entry put_attributes address_of put_address addresses_of put_addresses inode_of put_inode slots slot_at entry_of slot_has_name find_slot slot_empty empty_slot put_entry clear_entry desk_of put_desk copied_of put_copied marks_of put_marks mark_of set_mark clear_mark clear_notes same_names naming_b new_name_b entry_b attributes_b addresses_b zero_tail_b inode_b counted_b lead_b is_slot entry_at filled naming allowed desk_allowed framed_b header_b free_counts_b blank_block_b blanks_b body_b is_sound enter created written drop_link unlinked set_parent moved put_file add_block put_size zero_rest cut_to is_kind zero_inode less_free more_free create_plan write_plan shorten_plan holds_none unlink_plan is_below rename_to rename_new_plan room_in make_room fresh_header empty_root fresh_store fresh_desk start_image start_desk next_inode target_block locked_step free_step step_of copied_entry copied_entries copied_block put_counts finish_image desk_framed image_blocks image_allowed is_running blocks_fit desk_fits lacks_addresses image_fits notes_fit has_slot slot_names inode_named outcome next run started start step is_copied note_made note_taken cuts_image cut_image zeroed guard_of locks_any three_guards start_guards decision live cut_entries clear_marks set_marks entered linked_from linked link_plan behind behind_all entries_from root_with joined inode_is pairs
no_more = refl

pub twelfth_block : (blocks_used (size_of (run (starts ∷ entered 44) (fresh 3 13)).store 1) ≡ 11)
    × (blocks_used (size_of (run (starts ∷ entered 45) (fresh 3 13)).store 1) ≡ 12)
twelfth_block = (
  ap (λ (w : World). blocks_used (size_of w.store 1)) (ran 44 (root_with 44 11 (255 ∷ 255 ∷ 255 ∷ 255 ∷ 255 ∷ 15 ∷ 0 ∷ 0 ∷ [])) entered_44) ∙ eleven,
  ap (λ (w : World). blocks_used (size_of w.store 1)) (ran 45 (root_with 45 12 (255 ∷ 255 ∷ 255 ∷ 255 ∷ 255 ∷ 31 ∷ 0 ∷ 0 ∷ [])) entered_45) ∙ twelve,
)

pub last_slot_shown : (outcome (call (create 1 (96 ∷ []) File)) (run (starts ∷ entered 47) (fresh 3 13))).answer ≡ told (Ok 3)
last_slot_shown = ap (λ (w : World). (outcome (call (create 1 (96 ∷ []) File)) w).answer) (ran 47 (root_with 47 12 (255 ∷ 255 ∷ 255 ∷ 255 ∷ 255 ∷ 127 ∷ 0 ∷ 0 ∷ [])) entered_47) ∙ one_more

pub no_slot_shown : (outcome (call (create 1 (96 ∷ []) File)) (run (starts ∷ entered 48) (fresh 3 13))).answer ≡ told (Err NoSlot)
no_slot_shown = ap (λ (w : World). (outcome (call (create 1 (96 ∷ []) File)) w).answer) (ran 48 (root_with 48 12 (255 ∷ 255 ∷ 255 ∷ 255 ∷ 255 ∷ 255 ∷ 0 ∷ 0 ∷ [])) entered_48) ∙ no_more
