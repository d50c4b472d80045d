use Rattle.desk.specs.Desk.{clear_mark}
use Rattle.desk.proofs.clear_mark.Goals as goal

pub returns : goal.returns
unfolding clear_mark
returns c = cc
