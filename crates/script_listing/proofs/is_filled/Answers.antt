use Rattle.std.proofs.Common.{sym, ◌∙◌}
use Rattle.script_listing.proofs.PlaceLaws.{no_entry, has_entry}
use Rattle.script_listing.proofs.is_filled.Goals as goal

pub returns-then-is_slot : goal.returns-then-is_slot
returns-then-is_slot c = has_entry _ _ c.args.p (sym c.is_slot.ensures ∙ c.if-is_slot.true) _ _ c.entry_at.ensures.0 c.is_empty.ensures

pub returns-else-is_slot : goal.returns-else-is_slot
returns-else-is_slot c = c.if-is_slot.false ∙ no_entry _ _ c.args.p (sym c.is_slot.ensures ∙ c.if-is_slot.false)
