use Rattle.entries.proofs.TakePlanLaws.{within_new, within_taken}
use mathlib.Core.Path.{sym, ◌∙◌}
use native.Mathlib.Omega.{arith}
use Rattle.entries.proofs.plan.rename_within.Goals as goal

pub returns-in_default : goal.returns-in_default
returns-in_default c = within_new _ _ _ _ _ _ (sym c.find_slot.ensures ∙ c.in_default.is)

pub returns : goal.returns
returns c = within_taken _ _ _ _ _ _ _ (sym c.find_slot.ensures ∙ c.in-Some.is) (omega arith)
