use native.Mathlib.Omega.{arith}
use Rattle.script_lines.proofs.AskLaws.{short_long, short_is}
use Rattle.script_lines.proofs.forms.short_number.Goals as goal

pub returns-then-s-gt-MOST_DIGITS : goal.returns-then-s-gt-MOST_DIGITS
returns-then-s-gt-MOST_DIGITS c = short_long _ (omega arith)

pub returns : goal.returns
returns c = short_is _ (omega arith) _ c.number.ensures
