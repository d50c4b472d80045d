use Rattle.desk.specs.Desk.{mark_of}
use Rattle.desk.proofs.is_marked.Goals as goal

pub returns : goal.returns
unfolding mark_of
returns c = cc
