use Rattle.std.proofs.Common.{sym, ◌∙◌}
use Rattle.script_listing.proofs.TextLaws.{slot_entry, slot_none}
use Rattle.text.proofs.PutLaws.{put_same}
use Rattle.script_listing.proofs.put_slot.Goals as goal

pub returns-then-is_filled : goal.returns-then-is_filled
returns-then-is_filled c = put_same _ _ _ _ _ _ (slot_entry _ _ _ (sym c.is_filled.ensures ∙ c.if-is_filled.true)) c.put_entry.ensures

pub returns-else-is_filled : goal.returns-else-is_filled
returns-else-is_filled c = slot_none _ _ _ _ _ (sym c.is_filled.ensures ∙ c.if-is_filled.false)
