use mathlib.Core.Path.{sym, ap, ◌∙◌}
use mathlib.Core.Bool.{not}
use Rattle.image.proofs.FitLaws.{entries_short, entries_most}
use Rattle.bursts.proofs.kept.further_fit.Goals as goal

pub returns-then-not-is_long : goal.returns-then-not-is_long
returns-then-not-is_long c = ap not c.if-not-is_long.true ∙ entries_short _ _ _ _ _ (sym c.is_long.ensures ∙ c.if-not-is_long.true)

pub returns-else-not-is_long : goal.returns-else-not-is_long
returns-else-not-is_long c =
    let p = c.requires in
    entries_most _ _ _ _ _ (sym c.is_long.ensures ∙ c.if-not-is_long.false) _ _ p.2 c.largest_further.ensures.0
