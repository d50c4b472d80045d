use mathlib.Core.Path.{sym, ◌∙◌}
use Rattle.files.specs.Effect.{create}
use Rattle.files.proofs.CallLaws.{passed, call_through, call_stopped}
use Rattle.files.proofs.plain.create.Goals as goal

pub do_create-requires : goal.do_create-requires
do_create-requires c = passed _ _ _ (sym c.guard.ensures ∙ c.in_ok-counts.was)

pub returns : goal.returns
returns c = let a = c.args in call_through (create a.dir a.name.now a.kind) _ _ c.guard.ensures _ _ _ c.in_ok-counts.was c.do_create.ensures

pub returns-in_err-counts : goal.returns-in_err-counts
returns-in_err-counts c = let a = c.args in call_stopped (create a.dir a.name.now a.kind) _ _ c.guard.ensures _ _ c.from_residual.ensures.1 c.in_err-counts.was
