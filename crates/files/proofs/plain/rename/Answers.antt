use mathlib.Core.Path.{sym, ◌∙◌}
use Rattle.files.specs.Effect.{rename}
use Rattle.files.proofs.CallLaws.{passed, call_through, call_stopped}
use Rattle.files.proofs.plain.rename.Goals as goal

pub do_rename-requires : goal.do_rename-requires
do_rename-requires c = passed _ _ _ (sym c.guard.ensures ∙ c.in_ok-counts.was)

pub returns : goal.returns
returns c = let a = c.args in call_through (rename a.dir a.name.now a.to_dir a.to_name.now) _ _ c.guard.ensures _ _ _ c.in_ok-counts.was c.do_rename.ensures

pub returns-in_err-counts : goal.returns-in_err-counts
returns-in_err-counts c = let a = c.args in call_stopped (rename a.dir a.name.now a.to_dir a.to_name.now) _ _ c.guard.ensures _ _ c.from_residual.ensures.1 c.in_err-counts.was
