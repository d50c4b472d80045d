use mathlib.Core.Path.{◌∙◌}
use native.Mathlib.Omega.{arith}
use Rattle.checker.proofs.LinkLaws.{climbing_turn, climbing_known, climbing_end}
use Rattle.checker.proofs.links.climbs.Goals as goal

pub returns-then-known-at : goal.returns-then-known-at
returns-then-known-at c =
    let p = c.requires in
    climbing_known _ _ _ p.4 _ p.3 _ _ c.loop.invariant p.2 c.if-known-at.true

pub loop-preserved : goal.loop-preserved
loop-preserved c =
    let p = c.requires in
    climbing_turn _ _ _ p.4 _ p.3 _ _ c.loop.invariant _ c.if-known-at.false (omega arith) (c.from-at.ensures ∙ c.parent.ensures)

pub returns : goal.returns
returns c =
    let p = c.requires in
    climbing_end _ _ _ p.4 _ p.3 _ _ c.loop.invariant p.2 (omega arith)
