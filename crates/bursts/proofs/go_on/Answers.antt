use Rattle.bursts.proofs.TurnLaws.{rests}
use Rattle.copier.proofs.StepLaws.{at_rest, at_work}
use Rattle.bursts.proofs.go_on.Goals as goal

pub returns-then-not-runs : goal.returns-then-not-runs
returns-then-not-runs c =
    let a = c.args in
    let p = c.requires in
    rests a.s.now a.m.now a.d.now a.count p.3 p.1 (at_rest a.s.now a.m.now a.d.now _ p.0 _ c.runs.ensures c.if-not-runs.true-raw)

pub turns-requires : goal.turns-requires
turns-requires c =
    let a = c.args in
    let p = c.requires in
    (p.0, p.1, p.2, at_work a.s.now a.m.now a.d.now _ p.0 _ c.runs.ensures c.if-not-runs.false-raw, p.4)
