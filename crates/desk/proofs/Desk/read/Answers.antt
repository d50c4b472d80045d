use Rattle.desk.specs.Desk.{desk_of}
use Rattle.desk.proofs.Desk.read.Goals as goal

pub returns : goal.returns
unfolding desk_of
returns c = cc
