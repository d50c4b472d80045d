use Rattle.bursts.proofs.StepTurns.{going_fits}
use Rattle.bursts.proofs.kept.locked_step.Goals as goal

pub size-requires : goal.size-requires
size-requires c =
    let a = c.args in
    let p = c.requires in
    (going_fits a.s.now a.m.now a.d.now a.n a.h p.0 p.2).0
