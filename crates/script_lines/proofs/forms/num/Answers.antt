use Rattle.std.proofs.Common.{rules}
use Rattle.script_lines.specs.Ask.{num}
use Rattle.script_lines.proofs.forms.num.Goals as goal

pub returns : goal.returns
unfolding num
returns c = search rules
