use mathlib.Core.Path.{refl, sym, ap, ◌∙◌}
use native.Mathlib.Omega.{arith}
use Rattle.content.proofs.PlanFacts.{shortens}
use Rattle.files.specs.Effect.{do_shorten}
use Rattle.checkpoint.specs.Notes.{cut_entries, clear_marks, set_marks}
use Rattle.live.proofs.CallLaws.{ends_refused, ends_busy, ends_done}
use Rattle.live.proofs.work.shorten.Goals as goal

pub returns-in_err-unlocked : goal.returns-in_err-unlocked
returns-in_err-unlocked c =
    let a = c.args in
    λ m d e. ends_busy _ _ _ (ap (do_shorten a.s.now a.w.inodes a.i) (sym c.in_ok-y.was ∙ c.shorten_plan.ensures)) _ e _ c.unlocked.ensures _ c.in_err-unlocked.was _ c.from_residual-in_err-unlocked.ensures.1

pub shorten_file-requires : goal.shorten_file-requires
shorten_file-requires c =
    let f = shortens _ _ _ _ _ (sym c.shorten_plan.ensures ∙ c.in_ok-y.was) in
    let l = f.inside in
    let g = f.size in
    (c.requires, f.file, omega arith)

pub returns : goal.returns
unfolding cut_entries clear_marks set_marks
returns c =
    let a = c.args in
    λ m d e. ends_done _ _ _ (ap (do_shorten a.s.now a.w.inodes a.i) (sym c.in_ok-y.was ∙ c.shorten_plan.ensures)) _ e _ c.unlocked.ensures _ c.in_ok-unlocked.was _ c.requires.inodes _ _ _ c.shorten_file.ensures refl refl

pub returns-in_err-y : goal.returns-in_err-y
returns-in_err-y c =
    let a = c.args in
    λ m d e. ends_refused _ _ _ _ c.from_residual.ensures.1 (ap (do_shorten a.s.now a.w.inodes a.i) (sym c.in_err-y.was ∙ c.shorten_plan.ensures))
