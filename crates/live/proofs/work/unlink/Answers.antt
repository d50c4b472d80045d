use mathlib.Core.Path.{sym, ap, ◌∙◌}
use native.Mathlib.Omega.{arith}
use Rattle.directory.proofs.SlotLaws.{find_below}
use Rattle.preservation.proofs.SlotPlaceLaws.{found_here}
use Rattle.entries.proofs.PlanFacts.{unlinks}
use Rattle.files.specs.Effect.{unlink, do_unlink}
use Rattle.checkpoint.specs.Notes.{cut_entries, clear_marks, set_marks}
use Rattle.live.proofs.CallLaws.{effect_laws, ends_refused, ends_busy, ends_done}
use Rattle.live.proofs.work.unlink.Goals as goal

pub returns-in_err-unlocked : goal.returns-in_err-unlocked
returns-in_err-unlocked c =
    let a = c.args in
    ends_busy _ _ _ (ap (do_unlink a.s.now a.w.inodes a.dir) (sym c.in_ok-plan.was ∙ c.unlink_plan.ensures)) _ c.requires.0.read _ c.unlocked.ensures _ c.in_err-unlocked.was _ c.from_residual-in_err-unlocked.ensures.1

pub unlink-requires : goal.unlink-requires
unlink-requires c =
    let p = c.requires.0 in
    let f = (unlinks _ _ _ _ _ _ (sym c.unlink_plan.ensures ∙ c.in_ok-plan.was)).entry in
    let e = f.inode in
    let l = (found_here p.sound _ _ _ f.directory f.legal f.found).low in
    let m = (found_here p.sound _ _ _ f.directory f.legal f.found).high in
    (p.sound, f.directory, find_below _ _ _ _ _ f.found, omega arith, omega arith)

pub cut_image-requires : goal.cut_image-requires
cut_image-requires c =
    let a = c.args in
    let p = c.requires.0 in
    let f = (unlinks _ _ _ _ _ _ (sym c.unlink_plan.ensures ∙ c.in_ok-plan.was)).entry in
    let e = f.inode in
    let l = (found_here p.sound _ _ _ f.directory f.legal f.found).low in
    let k = (effect_laws (unlink a.dir a.name.now) p _ (ap (do_unlink a.s.now a.w.inodes a.dir) (sym c.in_ok-plan.was ∙ c.unlink_plan.ensures))).stood.0 in
    (p.read, c.requires.1, p.long, k.low, k.high, k.small, omega arith)

pub note_taken-requires : goal.note_taken-requires
note_taken-requires c =
    let a = c.args in
    let k = (effect_laws (unlink a.dir a.name.now) c.requires.0 _ (ap (do_unlink a.s.now a.w.inodes a.dir) (sym c.in_ok-plan.was ∙ c.unlink_plan.ensures))).stood.0 in
    (c.requires.0.read, k.low, k.high, c.requires.0.long, k.small)

pub returns : goal.returns
unfolding cut_entries clear_marks set_marks
returns c =
    let a = c.args in
    ends_done _ _ _ (ap (do_unlink a.s.now a.w.inodes a.dir) (sym c.in_ok-plan.was ∙ c.unlink_plan.ensures)) _ c.requires.0.read _ c.unlocked.ensures _ c.in_ok-unlocked.was _ c.requires.0.sound.inodes _ _ _ c.unlink.ensures c.cut_image.ensures c.note_taken.ensures

pub returns-in_err-plan : goal.returns-in_err-plan
returns-in_err-plan c =
    let a = c.args in
    ends_refused _ _ _ _ c.from_residual.ensures.1 (ap (do_unlink a.s.now a.w.inodes a.dir) (sym c.in_err-plan.was ∙ c.unlink_plan.ensures))
