use mathlib.Core.Path.{refl, sym, ap, ◌∙◌}
use Rattle.files.specs.Effect.{do_write}
use Rattle.checkpoint.specs.Notes.{cut_entries, clear_marks, set_marks}
use Rattle.live.proofs.CallLaws.{ends_refused, ends_busy, ends_done}
use Rattle.live.proofs.work.write.Goals as goal

pub returns-in_err-unlocked : goal.returns-in_err-unlocked
returns-in_err-unlocked c =
    let a = c.args in
    λ m d e. ends_busy _ _ _ (ap (do_write a.s.now a.w.inodes a.w.blocks a.i a.o a.xs.now) (sym c.in_ok-z.was ∙ c.write_plan.ensures)) _ e _ c.unlocked.ensures _ c.in_err-unlocked.was _ c.from_residual-in_err-unlocked.ensures.1

pub write_file-requires : goal.write_file-requires
write_file-requires c =
    (c.requires, sym c.write_plan.ensures ∙ c.in_ok-z.was)

pub returns : goal.returns
unfolding cut_entries clear_marks set_marks
returns c =
    let a = c.args in
    λ m d e. ends_done _ _ _ (ap (do_write a.s.now a.w.inodes a.w.blocks a.i a.o a.xs.now) (sym c.in_ok-z.was ∙ c.write_plan.ensures)) _ e _ c.unlocked.ensures _ c.in_ok-unlocked.was _ c.requires.inodes _ _ _ c.write_file.ensures refl refl

pub returns-in_err-z : goal.returns-in_err-z
returns-in_err-z c =
    let a = c.args in
    λ m d e. ends_refused _ _ _ _ c.from_residual.ensures.1 (ap (do_write a.s.now a.w.inodes a.w.blocks a.i a.o a.xs.now) (sym c.in_err-z.was ∙ c.write_plan.ensures))
