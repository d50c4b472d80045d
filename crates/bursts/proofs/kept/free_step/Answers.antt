use mathlib.Core.Path.{ap}
use Rattle.std.specs.Prelude.{Ok}
use native.Mathlib.Omega.{arith}
use Rattle.bursts.proofs.StepTurns.{going_held, going_addressed, free_names, free_maps, free_most, finish_ends, lock_asks, lock_few, lock_ends, lock_goes}
use Rattle.bursts.proofs.kept.free_step.Goals as goal

pub next_lock-requires : goal.next_lock-requires
next_lock-requires c =
    let a = c.args in
    let p = c.requires in
    ((going_addressed a.s.now a.m.now a.d.now a.n a.h p.0).few, (going_held a.s.now a.m.now a.d.now a.n a.h p.0).long)

pub finish-requires : goal.finish-requires
finish-requires c =
    let a = c.args in
    let p = c.requires in
    (going_held a.s.now a.m.now a.d.now a.n a.h p.0, going_addressed a.s.now a.m.now a.d.now a.n a.h p.0, free_most a.s.now a.m.now a.d.now a.n a.h p.0 p.2 _ _ p.1, free_maps a.s.now a.m.now a.d.now a.n a.h p.0 p.2 _ _ p.1, free_names a.s.now a.m.now a.d.now a.n a.h p.0 p.2 _ _ p.1)

pub returns-in_default : goal.returns-in_default
returns-in_default c =
    let a = c.args in
    let p = c.requires in
    finish_ends a.s.now a.m.now a.d.now a.n a.h p.0 p.2 a.map.now _ p.1 _ c.next_lock.ensures c.in_default.is _ _ _ c.finish.ensures

pub may_hold-holds-requires : goal.may_hold-holds-requires
may_hold-holds-requires c =
    let a = c.args in
    let p = c.requires in
    lock_asks a.s.now a.m.now a.d.now a.n a.h p.0 p.2 a.map.now _ p.1 _ c.next_lock.ensures c.in-Some.i c.in-Some.is

pub lock-requires : goal.lock-requires
lock-requires c =
    let a = c.args in
    let p = c.requires in
    let w = going_held a.s.now a.m.now a.d.now a.n a.h p.0 in
    (w.read, omega (arith, w.long), w.steps, lock_few a.s.now a.m.now a.d.now a.n a.h p.0 p.2 a.map.now _ p.1 _ c.next_lock.ensures c.in-Some.i c.in-Some.is)

pub returns-then-holds : goal.returns-then-holds
returns-then-holds c =
    let a = c.args in
    let p = c.requires in
    let r = c.if-holds.true in
    lock_goes a.s.now a.m.now a.d.now a.n a.h p.0 p.2 a.map.now _ p.1 _ c.next_lock.ensures c.in-Some.i c.in-Some.is _ _ (ap Ok c.lock.ensures.0) c.lock.ensures.1 _ c.may_hold-holds.ensures.0 r _ (c.may_hold-holds.ensures.1 r (free_maps a.s.now a.m.now a.d.now a.n a.h p.0 p.2 _ _ p.1))

pub returns : goal.returns
returns c =
    let a = c.args in
    let p = c.requires in
    lock_ends a.s.now a.m.now a.d.now a.n a.h p.0 p.2 a.map.now _ p.1 _ c.next_lock.ensures c.in-Some.i c.in-Some.is _ _ (ap Ok c.lock.ensures.0) c.lock.ensures.1 _ c.may_hold-holds.ensures.0 c.if-holds.false
