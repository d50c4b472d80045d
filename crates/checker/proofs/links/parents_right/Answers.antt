use mathlib.Core.Path.{sym, ◌∙◌}
use native.Mathlib.Omega.{arith}
use Rattle.bounded.proofs.BelowLaws.{all_none, all_more, all_stopped}
use Rattle.checker.proofs.LinkLaws.{known_start}
use Rattle.checker.proofs.links.parents_right.Goals as goal

pub loop-k-init : goal.loop-k-init
loop-k-init c = (omega arith, all_none _, known_start _)

pub returns-then-not-parent_right : goal.returns-then-not-parent_right
returns-then-not-parent_right c = all_stopped _ _ c.loop-k.k (omega arith) (sym c.parent_right.ensures.0 ∙ c.if-not-parent_right.true)

pub loop-k-preserved : goal.loop-k-preserved
loop-k-preserved c =
    (omega arith, all_more _ _ c.loop-k.invariant.1 (sym c.parent_right.ensures.0 ∙ c.if-not-parent_right.false), c.parent_right.ensures.1)
