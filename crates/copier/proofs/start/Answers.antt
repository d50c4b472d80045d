use Rattle.copier.proofs.StartLaws.{start_room, start_stopped, start_through}
use Rattle.copier.proofs.start.Goals as goal

pub begin-requires : goal.begin-requires
begin-requires c = let r = start_room _ _ _ _ c.start_guards.ensures c.in_ok-w.was in (r.read, r.few, r.image, r.desk)

pub returns : goal.returns
returns c =
    let g = c.start_guards.ensures in
    start_through _ _ _ _ g _ _ _ _ c.in_ok-w.was (c.begin.ensures _ (start_room _ _ _ _ g c.in_ok-w.was).count)

pub returns-in_err-w : goal.returns-in_err-w
returns-in_err-w c = start_stopped _ _ _ _ c.start_guards.ensures _ _ c.from_residual.ensures.1 c.in_err-w.was
