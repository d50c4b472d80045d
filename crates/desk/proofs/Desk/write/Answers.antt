use Rattle.desk.specs.Desk.{put_desk}
use Rattle.desk.proofs.Desk.write.Goals as goal

pub returns : goal.returns
unfolding put_desk
returns c = cc
