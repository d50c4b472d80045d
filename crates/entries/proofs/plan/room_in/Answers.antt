use mathlib.Core.Path.{sym, ◌∙◌}
use Rattle.preservation.proofs.StoreLaws.{sized_at, kind_dir}
use Rattle.content.proofs.TakeLaws.{rows_fit, lowest_own}
use Rattle.entries.proofs.EntryPlanLaws.{room_empty, room_none, room_blockless, room_more}
use Rattle.entries.proofs.plan.room_in.Goals as goal

pub empty_slot-requires : goal.empty_slot-requires
empty_slot-requires c = (kind_dir c.requires.0 c.args.d c.requires.1)

pub returns-in-Some : goal.returns-in-Some
returns-in-Some c = room_empty _ _ _ _ _ (sym c.empty_slot.ensures ∙ c.in-Some.is)

pub slot_count-slots-requires : goal.slot_count-slots-requires
slot_count-slots-requires c = (kind_dir c.requires.0 c.args.d c.requires.1)

pub returns-then-slots-ge-MOST_SLOTS : goal.returns-then-slots-ge-MOST_SLOTS
returns-then-slots-ge-MOST_SLOTS c = room_none _ _ _ _ _ (sym c.empty_slot.ensures ∙ c.in_default.is) c.slot_count-slots.ensures.0 c.if-slots-ge-MOST_SLOTS.true

pub free_block-requires : goal.free_block-requires
free_block-requires c = let p = c.requires in (rows_fit p.0, (sized_at p.0).blocks)

pub returns-in_default-free_block : goal.returns-in_default-free_block
returns-in_default-free_block c = room_blockless _ _ _ _ _ (sym c.empty_slot.ensures ∙ c.in_default.is) c.slot_count-slots.ensures.0 c.if-slots-ge-MOST_SLOTS.false (sym (lowest_own _ _ _) ∙ sym c.free_block.ensures ∙ c.in_default-free_block.is)

pub returns : goal.returns
returns c = room_more _ _ _ _ _ (sym c.empty_slot.ensures ∙ c.in_default.is) c.slot_count-slots.ensures.0 _ c.if-slots-ge-MOST_SLOTS.false (sym (lowest_own _ _ _) ∙ sym c.free_block.ensures ∙ c.in-Some-free_block.is)
