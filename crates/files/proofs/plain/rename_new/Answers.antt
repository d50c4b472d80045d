use mathlib.Core.Path.{sym, ◌∙◌}
use Rattle.files.specs.Effect.{rename_new}
use Rattle.files.proofs.CallLaws.{passed, call_through, call_stopped}
use Rattle.files.proofs.plain.rename_new.Goals as goal

pub do_rename_new-requires : goal.do_rename_new-requires
do_rename_new-requires c = passed _ _ _ (sym c.guard.ensures ∙ c.in_ok-counts.was)

pub returns : goal.returns
returns c = let a = c.args in call_through (rename_new a.dir a.name.now a.to_dir a.to_name.now) _ _ c.guard.ensures _ _ _ c.in_ok-counts.was c.do_rename_new.ensures

pub returns-in_err-counts : goal.returns-in_err-counts
returns-in_err-counts c = let a = c.args in call_stopped (rename_new a.dir a.name.now a.to_dir a.to_name.now) _ _ c.guard.ensures _ _ c.from_residual.ensures.1 c.in_err-counts.was
