use mathlib.Core.Path.{refl}
use Rattle.files.specs.Effect.{unlink}
use Rattle.live.proofs.CallLaws.{let_through, uncounted_fits}
use Rattle.live.proofs.ReturnLaws.{call_through, call_stopped}
use Rattle.live.proofs.unlink.Goals as goal

pub unlink-requires : goal.unlink-requires
unlink-requires c = let p = let_through _ _ _ _ c.three_guards.ensures c.in_ok-w.was in (uncounted_fits p.0, p.1)

pub returns : goal.returns
returns c =
    let a = c.args in
    call_through (unlink a.dir a.name.now) refl _ _ _ _ c.three_guards.ensures _ _ _ _ c.in_ok-w.was c.unlink.ensures

pub returns-in_err-w : goal.returns-in_err-w
returns-in_err-w c =
    let a = c.args in
    call_stopped (unlink a.dir a.name.now) refl _ _ _ _ c.three_guards.ensures _ _ c.from_residual.ensures.1 c.in_err-w.was
