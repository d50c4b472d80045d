use Rattle.desk.specs.Desk.{put_marks}
use Rattle.desk.proofs.put_mark_word.Goals as goal

pub returns : goal.returns
unfolding put_marks
returns c = c.put_64.ensures
