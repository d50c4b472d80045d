use Rattle.checkpoint.specs.Copier.{step_of, free_step, locked_step}
use Rattle.copier.proofs.FiveLaws.{step_free, step_locked, does_same}
use Rattle.copier.proofs.ReadyLaws.{ready_held, ready_locked, ready_free, ready_open}
use Rattle.copier.proofs.five.advance.Goals as goal

pub free_step-requires : goal.free_step-requires
free_step-requires c =
    let a = c.args in
    (ready_held a.s.now a.m.now a.d.now a.n c.requires.1 c.requires.2 c.requires.3 _ c.requires.0, ready_free a.s.now a.m.now a.d.now a.n c.requires.1 c.requires.2 c.requires.3 _ c.requires.0 c.if-h-eq0.true)

pub returns-then-h-eq0 : goal.returns-then-h-eq0
returns-then-h-eq0 c =
    let a = c.args in
    does_same a.s.now a.m.now a.d.now a.n (step_of a.s.now a.m.now a.d.now a.n) (free_step a.m.now a.d.now a.n) (step_free a.s.now a.m.now a.d.now a.n _ c.requires.0 c.if-h-eq0.true) _ (c.free_step.ensures a.s.now)

pub locked_step-requires : goal.locked_step-requires
locked_step-requires c =
    let a = c.args in
    (ready_held a.s.now a.m.now a.d.now a.n c.requires.1 c.requires.2 c.requires.3 _ c.requires.0, ready_locked a.s.now a.m.now a.d.now a.n c.requires.1 c.requires.2 c.requires.3 _ c.requires.0 c.if-h-eq0.false, ready_open a.s.now a.m.now a.d.now a.n c.requires.1 c.requires.2 c.requires.3 _ c.requires.0 c.if-h-eq0.false)

pub returns-else-h-eq0 : goal.returns-else-h-eq0
returns-else-h-eq0 c =
    let a = c.args in
    let h = a.h in
    does_same a.s.now a.m.now a.d.now a.n (step_of a.s.now a.m.now a.d.now a.n) (locked_step a.s.now a.m.now a.n h.blocks h.locked h.transferred) (step_locked a.s.now a.m.now a.d.now a.n _ c.requires.0 c.if-h-eq0.false) _ c.locked_step.ensures
