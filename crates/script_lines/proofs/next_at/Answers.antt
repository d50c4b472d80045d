use Rattle.script_lines.proofs.LineLaws.{next_is}
use Rattle.script_lines.proofs.next_at.Goals as goal

pub returns : goal.returns
returns c = next_is _ _ _ c.find.ensures.0
