use Rattle.desk.specs.Desk.{put_copied}
use Rattle.desk.proofs.put_copied.Goals as goal

pub returns : goal.returns
unfolding put_copied
returns c = c.put_8.ensures
