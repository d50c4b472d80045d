use Rattle.desk.specs.Desk.{copied_of}
use Rattle.desk.proofs.copied_byte.Goals as goal

pub returns : goal.returns
unfolding copied_of
returns c = c.get_8.ensures
