use Rattle.script_lines.proofs.LineLaws.{cut_line, line_past}
use Rattle.script_lines.proofs.line_at.Goals as goal

pub returns-then-end-at : goal.returns-then-end-at
returns-then-end-at c = line_past _ c.args.at _ c.find-end.ensures.0 c.if-end-at.true

pub returns : goal.returns
returns c = cut_line _ _ _ c.find-end.ensures.0
