use Rattle.desk.specs.Desk.{marks_of}
use Rattle.desk.proofs.mark_word.Goals as goal

pub returns : goal.returns
unfolding marks_of
returns c = c.get_64.ensures
