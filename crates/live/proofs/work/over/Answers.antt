use Rattle.std.specs.Prelude.{Ok}
use mathlib.Core.Bool.{Bool, ◌||◌}
use mathlib.Core.Path.{refl, sym, ap, ap₂, ◌∙◌}
use Rattle.desk.specs.Next.{locks_any}
use Rattle.files.specs.Effect.{watched, do_over}
use Rattle.checkpoint.specs.Notes.{cut_entries, clear_marks, set_marks}
use Rattle.checkpoint.specs.Live.{world}
use Rattle.live.proofs.CallLaws.{is_busy, busy_exit, is_free, ends_refused, ends_busy, ends_done}
use Rattle.live.proofs.OverLaws.{over_busy, over_fits, over_unrefused, over_done}
use Rattle.live.proofs.work.over.Goals as goal

pub returns-in_err-unlocked-in-Over : goal.returns-in_err-unlocked-in-Over
returns-in_err-unlocked-in-Over c =
    let a = c.args in
    let k = c.unlocked.ensures in
    busy_exit _ _ k _ c.in_err-unlocked-in-Over.was _ c.from_residual-in_err-unlocked-in-Over.ensures.1 _ _ _
    ∙ over_busy (world a.s.now a.m.now a.d.now) a.w.inodes a.w.blocks a.from a.name.now a.to a.other.now _ _ c.requires.0.sound (sym c.over_plan.ensures ∙ c.in_ok-inode.was ∙ ap Ok c.in-Over.is) a.w.desk c.requires.0.read _ (locks_any a.w.desk (watched a.from a.to c.in-Over.inode)) refl refl
    (ap (λ (y : Bool). y || locks_any a.w.desk (watched a.from a.to c.in-Over.inode)) (is_busy _ _ k _ c.in_err-unlocked-in-Over.was))

pub returns-in_err-rename_unlocked-in-Over : goal.returns-in_err-rename_unlocked-in-Over
returns-in_err-rename_unlocked-in-Over c =
    let a = c.args in
    let k = c.unlocked.ensures in
    let r = c.rename_unlocked.ensures in
    busy_exit _ _ r _ c.in_err-rename_unlocked-in-Over.was _ c.from_residual-in_err-rename_unlocked-in-Over.ensures.1 _ _ _
    ∙ over_busy (world a.s.now a.m.now a.d.now) a.w.inodes a.w.blocks a.from a.name.now a.to a.other.now _ _ c.requires.0.sound (sym c.over_plan.ensures ∙ c.in_ok-inode.was ∙ ap Ok c.in-Over.is) a.w.desk c.requires.0.read _ _ refl refl (ap₂ ◌||◌ (is_free _ _ k _ c.in_ok-unlocked-in-Over.was) (is_busy _ _ r _ c.in_err-rename_unlocked-in-Over.was))

pub rename_new-requires : goal.rename_new-requires
rename_new-requires c =
    let a = c.args in
    let u = c.unlink in
    over_fits (world a.s.now a.m.now a.d.now) a.w.inodes a.w.blocks a.from a.name.now a.to a.other.now _ _ c.requires.0.sound (sym c.over_plan.ensures ∙ c.in_ok-inode.was ∙ ap Ok c.in-Over.is) a.w.desk c.requires.0.read _ _ refl refl (is_free _ _ c.unlocked.ensures _ c.in_ok-unlocked-in-Over.was) (is_free _ _ c.rename_unlocked.ensures _ c.in_ok-rename_unlocked-in-Over.was) (world u.new.s u.new.m u.new.d) u.result u.ensures c.requires.0 c.requires.1

pub returns-in_err-unlink-in-Over : goal.returns-in_err-unlink-in-Over
returns-in_err-unlink-in-Over c =
    let a = c.args in
    let u = c.unlink in
    absurd (over_unrefused (world a.s.now a.m.now a.d.now) a.w.inodes a.w.blocks a.from a.name.now a.to a.other.now _ _ c.requires.0.sound (sym c.over_plan.ensures ∙ c.in_ok-inode.was ∙ ap Ok c.in-Over.is) a.w.desk c.requires.0.read _ _ refl refl (is_free _ _ c.unlocked.ensures _ c.in_ok-unlocked-in-Over.was) (is_free _ _ c.rename_unlocked.ensures _ c.in_ok-rename_unlocked-in-Over.was) (world u.new.s u.new.m u.new.d) u.result u.ensures _ c.in_err-unlink-in-Over.was)

pub returns-in_ok-unlink-in-Over : goal.returns-in_ok-unlink-in-Over
returns-in_ok-unlink-in-Over c =
    let a = c.args in
    let u = c.unlink in
    over_done (world a.s.now a.m.now a.d.now) a.w.inodes a.w.blocks a.from a.name.now a.to a.other.now _ _ c.requires.0.sound (sym c.over_plan.ensures ∙ c.in_ok-inode.was ∙ ap Ok c.in-Over.is) a.w.desk c.requires.0.read _ _ refl refl (is_free _ _ c.unlocked.ensures _ c.in_ok-unlocked-in-Over.was) (is_free _ _ c.rename_unlocked.ensures _ c.in_ok-rename_unlocked-in-Over.was) (world u.new.s u.new.m u.new.d) u.result u.ensures _ c.rename_new.ensures

pub returns-in_err-rename_unlocked-in-Same : goal.returns-in_err-rename_unlocked-in-Same
returns-in_err-rename_unlocked-in-Same c =
    let a = c.args in
    ends_busy _ _ _ (ap (do_over a.s.now a.w.inodes a.w.blocks a.from a.name.now a.to a.other.now) (sym (c.in_ok-inode.was ∙ ap Ok c.in-Same.is) ∙ c.over_plan.ensures)) _ c.requires.0.read _ c.rename_unlocked-in-Same.ensures _ c.in_err-rename_unlocked-in-Same.was _ c.from_residual-in_err-rename_unlocked-in-Same.ensures.1

pub returns-in_ok-rename_unlocked-in-Same : goal.returns-in_ok-rename_unlocked-in-Same
unfolding cut_entries clear_marks set_marks
returns-in_ok-rename_unlocked-in-Same c =
    let a = c.args in
    ends_done _ _ _ (ap (do_over a.s.now a.w.inodes a.w.blocks a.from a.name.now a.to a.other.now) (sym (c.in_ok-inode.was ∙ ap Ok c.in-Same.is) ∙ c.over_plan.ensures)) _ c.requires.0.read _ c.rename_unlocked-in-Same.ensures _ c.in_ok-rename_unlocked-in-Same.was _ c.requires.0.sound.inodes _ _ _ refl refl refl

pub returns-in_err-inode : goal.returns-in_err-inode
returns-in_err-inode c =
    let a = c.args in
    ends_refused _ _ _ _ c.from_residual.ensures.1 (ap (do_over a.s.now a.w.inodes a.w.blocks a.from a.name.now a.to a.other.now) (sym c.in_err-inode.was ∙ c.over_plan.ensures))
