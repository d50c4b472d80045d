use Rattle.desk.specs.Desk.{set_mark}
use Rattle.desk.proofs.set_mark.Goals as goal

pub returns : goal.returns
unfolding set_mark
returns c = cc
