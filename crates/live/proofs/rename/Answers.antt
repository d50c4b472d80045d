use mathlib.Core.Path.{refl}
use Rattle.files.specs.Effect.{rename}
use Rattle.live.proofs.CallLaws.{let_through}
use Rattle.live.proofs.ReturnLaws.{call_through, call_stopped}
use Rattle.live.proofs.rename.Goals as goal

pub rename-requires : goal.rename-requires
rename-requires c = let_through _ _ _ _ c.three_guards.ensures c.in_ok-w.was

pub returns : goal.returns
returns c =
    let a = c.args in
    call_through (rename a.dir a.name.now a.to_dir a.to_name.now) refl _ _ _ _ c.three_guards.ensures _ _ _ _ c.in_ok-w.was c.rename.ensures

pub returns-in_err-w : goal.returns-in_err-w
returns-in_err-w c =
    let a = c.args in
    call_stopped (rename a.dir a.name.now a.to_dir a.to_name.now) refl _ _ _ _ c.three_guards.ensures _ _ c.from_residual.ensures.1 c.in_err-w.was
