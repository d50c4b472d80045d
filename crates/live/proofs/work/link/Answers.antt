use mathlib.Core.Path.{refl, sym, ap, ◌∙◌}
use Rattle.names.proofs.NameLaws.{legal_bounds}
use Rattle.entries.proofs.PlanFacts.{links}
use Rattle.files.specs.Effect.{link, do_link}
use Rattle.checkpoint.specs.Notes.{cut_entries, clear_marks, set_marks}
use Rattle.live.proofs.CallLaws.{effect_laws, ends_refused, ends_busy, ends_done}
use Rattle.live.proofs.work.link.Goals as goal

pub returns-in_err-unlocked : goal.returns-in_err-unlocked
returns-in_err-unlocked c =
    let a = c.args in
    λ m. ends_busy _ _ _ (ap (do_link a.s.now a.w.inodes a.dir a.name.now a.inode) (sym c.in_ok-room.was ∙ c.link_plan.ensures)) _ c.requires.read _ c.unlocked.ensures _ c.in_err-unlocked.was _ c.from_residual-in_err-unlocked.ensures.1

pub link-requires : goal.link-requires
link-requires c =
    let f = links _ _ _ _ _ _ _ (sym c.link_plan.ensures ∙ c.in_ok-room.was) in
    record { sound_store = (c.requires.sound, f.new.directory, f.room); i_value = (f.file, (legal_bounds _ f.new.legal).1) }

pub note_made-requires : goal.note_made-requires
note_made-requires c =
    let a = c.args in
    let k = (effect_laws (link a.dir a.name.now a.inode) c.requires _ (ap (do_link a.s.now a.w.inodes a.dir a.name.now a.inode) (sym c.in_ok-room.was ∙ c.link_plan.ensures))).stands.0 in
    (c.requires.read, k.low, k.high, c.requires.long, k.small)

pub returns : goal.returns
unfolding cut_entries clear_marks set_marks
returns c =
    let a = c.args in
    λ m. ends_done _ _ _ (ap (do_link a.s.now a.w.inodes a.dir a.name.now a.inode) (sym c.in_ok-room.was ∙ c.link_plan.ensures)) _ c.requires.read _ c.unlocked.ensures _ c.in_ok-unlocked.was _ c.requires.sound.inodes _ _ _ c.link.ensures refl c.note_made.ensures

pub returns-in_err-room : goal.returns-in_err-room
returns-in_err-room c =
    let a = c.args in
    λ m. ends_refused _ _ _ _ c.from_residual.ensures.1 (ap (do_link a.s.now a.w.inodes a.dir a.name.now a.inode) (sym c.in_err-room.was ∙ c.link_plan.ensures))
