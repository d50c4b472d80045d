use Rattle.files.proofs.CallLaws.{looked}
use Rattle.files.proofs.plain.do_look_up.Goals as goal

pub returns : goal.returns
returns c = looked _ c.look_up_plan.ensures
