use mathlib.Core.Path.{refl, sym, ap, ◌∙◌}
use Rattle.names.proofs.NameLaws.{legal_bounds}
use Rattle.entries.proofs.PlanFacts.{creates}
use Rattle.files.specs.Effect.{create, do_create}
use Rattle.checkpoint.specs.Notes.{cut_entries, clear_marks, set_marks}
use Rattle.live.proofs.CallLaws.{effect_laws, ends_refused, ends_busy, ends_done}
use Rattle.live.proofs.work.create.Goals as goal

pub returns-in_err-unlocked : goal.returns-in_err-unlocked
returns-in_err-unlocked c =
    let a = c.args in
    λ m. ends_busy _ _ _ (ap (do_create a.s.now a.w.inodes a.dir a.name.now a.kind) (sym c.in_ok-plan.was ∙ c.create_plan.ensures)) _ c.requires.read _ c.unlocked.ensures _ c.in_err-unlocked.was _ c.from_residual-in_err-unlocked.ensures.1

pub create-requires : goal.create-requires
create-requires c =
    let f = creates _ _ _ _ _ _ _ (sym c.create_plan.ensures ∙ c.in_ok-plan.was) in
    record { sound_store = (c.requires.sound, f.new.directory, f.room); n_value = (f.inode, (legal_bounds _ f.new.legal).1) }

pub note_made-requires : goal.note_made-requires
note_made-requires c =
    let a = c.args in
    let k = (effect_laws (create a.dir a.name.now a.kind) c.requires _ (ap (do_create a.s.now a.w.inodes a.dir a.name.now a.kind) (sym c.in_ok-plan.was ∙ c.create_plan.ensures))).stands.0 in
    (c.requires.read, k.low, k.high, c.requires.long, k.small)

pub returns : goal.returns
unfolding cut_entries clear_marks set_marks
returns c =
    let a = c.args in
    λ m. ends_done _ _ _ (ap (do_create a.s.now a.w.inodes a.dir a.name.now a.kind) (sym c.in_ok-plan.was ∙ c.create_plan.ensures)) _ c.requires.read _ c.unlocked.ensures _ c.in_ok-unlocked.was _ c.requires.sound.inodes _ _ _ c.create.ensures refl c.note_made.ensures

pub returns-in_err-plan : goal.returns-in_err-plan
returns-in_err-plan c =
    let a = c.args in
    λ m. ends_refused _ _ _ _ c.from_residual.ensures.1 (ap (do_create a.s.now a.w.inodes a.dir a.name.now a.kind) (sym c.in_err-plan.was ∙ c.create_plan.ensures))
