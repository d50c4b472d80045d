use mathlib.Core.Path.{sym, ◌∙◌}
use Rattle.preservation.proofs.StoreLaws.{kind_fits}
use Rattle.content.proofs.plan.shorten_plan.Goals as goal

pub size-requires : goal.size-requires
size-requires c = kind_fits c.requires _ _ (sym c.is_kind.ensures ∙ c.if-not-is_kind.false)
