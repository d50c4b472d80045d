use native.Mathlib.Omega.{arith}
use Rattle.bursts.proofs.StepTurns.{going_held, going_area, going_locked, going_open, block_stops, block_target, block_stands, block_rows, block_goes}
use Rattle.bursts.proofs.kept.block_step.Goals as goal

pub kth_used-own-requires : goal.kth_used-own-requires
kth_used-own-requires c =
    let a = c.args in
    let p = c.requires in
    let l = going_locked a.s.now a.m.now a.d.now a.n a.h p.0 p.2 in
    (l.store, l.low, l.high, p.3)

pub place-requires : goal.place-requires
place-requires c =
    let a = c.args in
    let p = c.requires in
    (p.1.long, (going_open a.s.now a.m.now a.d.now a.n a.h p.0 p.2).sized.blocks)

pub stop-requires : goal.stop-requires
stop-requires c =
    let a = c.args in
    let w = going_held a.s.now a.m.now a.d.now a.n a.h c.requires.0 in
    (w.read, omega (arith, w.long))

pub returns-in_default : goal.returns-in_default
returns-in_default c =
    let a = c.args in
    let p = c.requires in
    λ counts _. block_stops a.s.now a.m.now a.d.now a.n a.h p.0 p.2 a.map.now p.1 p.3 _ c.kth_used-own.ensures _ c.place.ensures c.in_default.is _ _ c.stop.ensures.0 c.stop.ensures.1 counts

pub standing-old-requires : goal.standing-old-requires
standing-old-requires c =
    let a = c.args in
    let p = c.requires in
    block_stands a.s.now a.m.now a.d.now a.n a.h p.0 p.2 a.map.now p.1 p.3 _ c.kth_used-own.ensures _ c.place.ensures c.in-Some.c c.in-Some.is

pub copy-requires : goal.copy-requires
copy-requires c =
    let a = c.args in
    let p = c.requires in
    (going_held a.s.now a.m.now a.d.now a.n a.h p.0, going_locked a.s.now a.m.now a.d.now a.n a.h p.0 p.2, p.3, block_target a.s.now a.m.now a.d.now a.n a.h p.0 p.2 a.map.now p.1 p.3 _ c.kth_used-own.ensures _ c.place.ensures c.in-Some.c c.in-Some.is)

pub renew-requires : goal.renew-requires
renew-requires c =
    let a = c.args in
    let p = c.requires in
    (block_rows a.s.now a.m.now a.d.now a.n a.h p.0 p.2 a.map.now p.1 p.3 _ c.kth_used-own.ensures _ c.place.ensures c.in-Some.c c.in-Some.is _ _ _ c.copy.ensures, going_area a.s.now a.m.now a.d.now a.n a.h p.0, (going_locked a.s.now a.m.now a.d.now a.n a.h p.0 p.2).high, (block_target a.s.now a.m.now a.d.now a.n a.h p.0 p.2 a.map.now p.1 p.3 _ c.kth_used-own.ensures _ c.place.ensures c.in-Some.c c.in-Some.is).most)

pub returns : goal.returns
returns c =
    let a = c.args in
    let p = c.requires in
    block_goes a.s.now a.m.now a.d.now a.n a.h p.0 p.2 a.map.now p.1 p.3 _ c.kth_used-own.ensures _ c.place.ensures c.in-Some.c c.in-Some.is _ _ _ c.copy.ensures _ c.standing-old.ensures _ c.renew.ensures
