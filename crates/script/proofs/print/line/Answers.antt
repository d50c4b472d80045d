use Rattle.std.proofs.Common.{arith}
use Rattle.script.proofs.ScriptLaws.{front_length}
use Rattle.script.proofs.print.line.Goals as goal

pub returns : goal.returns
returns c = (c.put_line-end.ensures.desk_after, front_length _ _ _ _ _ _ c.requires.2 (omega arith) c.put_line-end.ensures.put c.front-text.ensures)
