use Rattle.std.specs.Prelude.{Ok}
use mathlib.Core.Path.{refl, sym, ap, ◌∙◌}
use native.Mathlib.Omega.{arith}
use Rattle.names.proofs.NameLaws.{legal_bounds}
use Rattle.directory.proofs.SlotLaws.{find_below}
use Rattle.preservation.proofs.StoreLaws.{uncounted}
use Rattle.preservation.proofs.SlotPlaceLaws.{found_here}
use Rattle.entries.proofs.PlanFacts.{renames, moves}
use Rattle.files.specs.Effect.{rename_new, do_rename}
use Rattle.checkpoint.specs.Notes.{note_made, cut_entries, clear_marks, set_marks}
use Rattle.live.proofs.NoteLaws.{still_long, still_read}
use Rattle.live.proofs.CallLaws.{effect_laws, ends_refused, ends_busy, ends_done}
use Rattle.live.proofs.work.rename_new.Goals as goal

pub returns-in_err-unlocked-in-Rename : goal.returns-in_err-unlocked-in-Rename
returns-in_err-unlocked-in-Rename c =
    let a = c.args in
    ends_busy _ _ _ (ap (do_rename a.s.now a.w.inodes a.from a.to a.other.now) (sym (c.in_ok-slot.was ∙ ap Ok c.in-Rename.is) ∙ c.rename_new_plan.ensures)) _ c.requires.0.read _ c.unlocked.ensures _ c.in_err-unlocked-in-Rename.was _ c.from_residual-in_err-unlocked-in-Rename.ensures.1

pub rename-requires : goal.rename-requires
rename-requires c =
    let p = c.requires.0 in
    let g = (renames _ _ _ _ _ _ _ _ _ (sym c.rename_new_plan.ensures ∙ c.in_ok-slot.was ∙ ap Ok c.in-Rename.is)).0 in
    let f = g.entry in
    let e = f.inode in
    let m = (found_here p.sound _ _ _ f.directory f.legal f.found).high in
    (uncounted p.sound, f.directory, find_below _ _ _ _ _ f.found, omega arith, (legal_bounds _ g.legal).1)

pub returns-in_err-unlocked-in-Move : goal.returns-in_err-unlocked-in-Move
returns-in_err-unlocked-in-Move c =
    let a = c.args in
    ends_busy _ _ _ (ap (do_rename a.s.now a.w.inodes a.from a.to a.other.now) (sym (c.in_ok-slot.was ∙ ap Ok c.in-Move.is) ∙ c.rename_new_plan.ensures)) _ c.requires.0.read _ c.unlocked-in-Move.ensures _ c.in_err-unlocked-in-Move.was _ c.from_residual-in_err-unlocked-in-Move.ensures.1

pub move_entry-requires : goal.move_entry-requires
move_entry-requires c =
    let p = c.requires.0 in
    let g = moves _ _ _ _ _ _ _ _ _ _ (sym c.rename_new_plan.ensures ∙ c.in_ok-slot.was ∙ ap Ok c.in-Move.is) in
    let f = g.0.entry in
    let e = f.inode in
    let l = (found_here p.sound _ _ _ f.directory f.legal f.found).low in
    let m = (found_here p.sound _ _ _ f.directory f.legal f.found).high in
    record { sound_store = (p.sound, g.0.new.directory, g.1.room); d_value = (f.directory, find_below _ _ _ _ _ f.found, omega arith, omega arith, (legal_bounds _ g.0.new.legal).1) }

pub cut_image-requires : goal.cut_image-requires
cut_image-requires c =
    let a = c.args in
    let p = c.requires.0 in
    let f = (moves _ _ _ _ _ _ _ _ _ _ (sym c.rename_new_plan.ensures ∙ c.in_ok-slot.was ∙ ap Ok c.in-Move.is)).0.entry in
    let e = f.inode in
    let l = (found_here p.sound _ _ _ f.directory f.legal f.found).low in
    let k = (effect_laws (rename_new a.from a.name.now a.to a.other.now) c.requires.0 _ (ap (do_rename a.s.now a.w.inodes a.from a.to a.other.now) (sym (c.in_ok-slot.was ∙ ap Ok c.in-Move.is) ∙ c.rename_new_plan.ensures))).stood.0 in
    (p.read, c.requires.1, p.long, k.low, k.high, k.small, omega arith)

pub note_taken-requires : goal.note_taken-requires
note_taken-requires c =
    let a = c.args in
    let k = (effect_laws (rename_new a.from a.name.now a.to a.other.now) c.requires.0 _ (ap (do_rename a.s.now a.w.inodes a.from a.to a.other.now) (sym (c.in_ok-slot.was ∙ ap Ok c.in-Move.is) ∙ c.rename_new_plan.ensures))).stood.0 in
    (c.requires.0.read, k.low, k.high, c.requires.0.long, k.small)

pub note_made-requires : goal.note_made-requires
note_made-requires c =
    let a = c.args in
    let q = c.note_taken.ensures in
    let k = (effect_laws (rename_new a.from a.name.now a.to a.other.now) c.requires.0 _ (ap (do_rename a.s.now a.w.inodes a.from a.to a.other.now) (sym (c.in_ok-slot.was ∙ ap Ok c.in-Move.is) ∙ c.rename_new_plan.ensures))).stands.0 in
    (still_read _ _ _ _ _ q _ c.requires.0.read, k.low, k.high, still_long _ _ _ _ _ q _ c.requires.0.long, k.small)

pub returns-in_ok-unlocked-in-Rename : goal.returns-in_ok-unlocked-in-Rename
unfolding cut_entries clear_marks set_marks
returns-in_ok-unlocked-in-Rename c =
    let a = c.args in
    ends_done _ _ _ (ap (do_rename a.s.now a.w.inodes a.from a.to a.other.now) (sym (c.in_ok-slot.was ∙ ap Ok c.in-Rename.is) ∙ c.rename_new_plan.ensures)) _ c.requires.0.read _ c.unlocked.ensures _ c.in_ok-unlocked-in-Rename.was _ c.requires.0.sound.inodes _ _ _ c.rename.ensures refl refl

pub returns-in_ok-unlocked-in-Move : goal.returns-in_ok-unlocked-in-Move
unfolding cut_entries clear_marks set_marks
returns-in_ok-unlocked-in-Move c =
    let a = c.args in
    ends_done _ _ _ (ap (do_rename a.s.now a.w.inodes a.from a.to a.other.now) (sym (c.in_ok-slot.was ∙ ap Ok c.in-Move.is) ∙ c.rename_new_plan.ensures)) _ c.requires.0.read _ c.unlocked-in-Move.ensures _ c.in_ok-unlocked-in-Move.was _ c.requires.0.sound.inodes _ _ _ c.move_entry.ensures c.cut_image.ensures (c.note_made.ensures ∙ ap (λ y. note_made y a.w.inodes a.to c.in-Move.room.slot) c.note_taken.ensures)

pub returns-in_err-slot : goal.returns-in_err-slot
returns-in_err-slot c =
    let a = c.args in
    ends_refused _ _ _ _ c.from_residual.ensures.1 (ap (do_rename a.s.now a.w.inodes a.from a.to a.other.now) (sym c.in_err-slot.was ∙ c.rename_new_plan.ensures))
