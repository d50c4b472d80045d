use mathlib.Core.Path.{refl}
use Rattle.files.specs.Effect.{create}
use Rattle.live.proofs.CallLaws.{let_through}
use Rattle.live.proofs.ReturnLaws.{call_through, call_stopped}
use Rattle.live.proofs.create.Goals as goal

pub create-requires : goal.create-requires
create-requires c = (let_through _ _ _ _ c.three_guards.ensures c.in_ok-w.was).0

pub returns : goal.returns
returns c =
    let a = c.args in
    call_through (create a.dir a.name.now a.kind) refl _ _ _ _ c.three_guards.ensures _ _ _ _ c.in_ok-w.was (c.create.ensures _)

pub returns-in_err-w : goal.returns-in_err-w
returns-in_err-w c =
    let a = c.args in
    call_stopped (create a.dir a.name.now a.kind) refl _ _ _ _ c.three_guards.ensures _ _ c.from_residual.ensures.1 c.in_err-w.was
