use mathlib.Core.Path.{◌∙◌}
use Rattle.octets.specs.Octets.{zeroed}
use Rattle.directory.specs.Slot.{clear_entry}
use Rattle.directory.proofs.clear_entry.Goals as goal

pub returns : goal.returns
unfolding clear_entry zeroed
returns c = c.zero_range.ensures ∙ rw c.slot_at-o.ensures.0
