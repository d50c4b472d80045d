use Rattle.bursts.proofs.TurnLaws.{turn_long, turn_late, turn_going}
use Rattle.bursts.proofs.take_one.Goals as goal

pub read-h-requires : goal.read-h-requires
read-h-requires c =
    let a = c.args in
    turn_long a.s.now a.m.now a.d.now a.n _ _ c.requires

pub returns-then-h : goal.returns-then-h
returns-then-h c =
    let a = c.args in
    turn_late a.s.now a.m.now a.d.now a.n _ _ c.requires _ c.read-h.ensures c.if-h.true

pub free_step-requires : goal.free_step-requires
free_step-requires c =
    let a = c.args in
    (turn_going a.s.now a.m.now a.d.now a.n _ _ c.requires _ c.read-h.ensures c.if-h.false, c.requires, c.if-h-eq0.true)

pub locked_step-requires : goal.locked_step-requires
locked_step-requires c =
    let a = c.args in
    (turn_going a.s.now a.m.now a.d.now a.n _ _ c.requires _ c.read-h.ensures c.if-h.false, c.requires, c.if-h-eq0.false)
