use mathlib.Core.Path.{◌∙◌}
use Rattle.content.proofs.RowLaws.{row_across_not, row_across_is}
use borrow.Author.Rules.{rules}
use Rattle.content.proofs.apply.row_across.Goals as goal

pub returns-then-crosses : goal.returns-then-crosses
returns-then-crosses c = c.swap.ensures.by_index.3 0 ∙ row_across_is c.args.row (search rules) c.args.crosses c.if-crosses.true

pub returns-else-crosses : goal.returns-else-crosses
returns-else-crosses c = row_across_not c.args.row (search rules) c.args.crosses c.if-crosses.false
