use Rattle.std.proofs.Common.{rules}
use Rattle.script_lines.specs.Ask.{end_fits}
use Rattle.script_lines.proofs.forms.end_fits.Goals as goal

pub returns-then-is_word : goal.returns-then-is_word
unfolding end_fits
returns-then-is_word c = search rules

pub returns-else-is_word : goal.returns-else-is_word
unfolding end_fits
returns-else-is_word c = search rules
