use Rattle.entries.proofs.TakePlanLaws.{below_within, below_away}
use Rattle.entries.proofs.plan.moves_below.Goals as goal

pub returns-then-d-e : goal.returns-then-d-e
returns-then-d-e c = below_within _ _ _ _ _ 0 c.if-d-e.true

pub returns : goal.returns
returns c = below_away _ _ _ _ _ 0 _ c.if-d-e.false c.is_below.ensures
