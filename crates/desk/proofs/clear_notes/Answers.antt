use Rattle.desk.specs.Desk.{clear_notes}
use Rattle.desk.proofs.clear_notes.Goals as goal

pub returns : goal.returns
unfolding clear_notes
returns c = c.zero_range.ensures
