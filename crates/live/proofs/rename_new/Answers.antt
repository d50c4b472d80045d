use mathlib.Core.Path.{refl}
use borrow.Author.Rules.{rules}
use Rattle.files.specs.Effect.{rename_new}
use Rattle.live.proofs.CallLaws.{let_through}
use Rattle.live.proofs.ReturnLaws.{call_through, call_stopped}
use Rattle.live.proofs.rename_new.Goals as goal

pub rename_new-requires : goal.rename_new-requires
rename_new-requires c = let_through _ _ _ _ c.three_guards.ensures c.in_ok-w.was

pub returns : goal.returns
returns c =
    let a = c.args in
    call_through (rename_new a.dir a.name.now a.to_dir a.to_name.now) refl _ _ _ _ c.three_guards.ensures _ _ _ _ c.in_ok-w.was (search rules)

pub returns-in_err-w : goal.returns-in_err-w
returns-in_err-w c =
    let a = c.args in
    call_stopped (rename_new a.dir a.name.now a.to_dir a.to_name.now) refl _ _ _ _ c.three_guards.ensures _ _ c.from_residual.ensures.1 c.in_err-w.was
