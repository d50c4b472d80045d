use Rattle.std.specs.Prelude.{Ok}
use Prim.Native.Nat.{ℕ}
use mathlib.Core.List.{List, []}
use mathlib.Core.Path.{refl, sym, ap, ◌∙◌}
use native.Mathlib.Omega.{arith}
use Rattle.names.proofs.NameLaws.{legal_bounds}
use Rattle.directory.proofs.SlotLaws.{find_below}
use Rattle.preservation.proofs.StoreLaws.{uncounted}
use Rattle.preservation.proofs.SlotPlaceLaws.{found_here}
use Rattle.entries.proofs.PlanFacts.{renames, moves}
use Rattle.files.specs.Effect.{do_rename}
use Rattle.files.specs.Plain.{plain_left, leaves}
use Rattle.files.proofs.CallLaws.{plan_refused}
use Rattle.files.proofs.plain.do_rename_new.Goals as goal

pub rename-requires : goal.rename-requires
rename-requires c =
    let p = c.requires in
    let g = (renames _ _ _ _ _ _ _ _ _ (sym c.rename_new_plan.ensures ∙ c.in_ok-slot.was ∙ ap Ok c.in-Rename.is)).0 in
    let f = g.entry in
    let e = f.inode in
    let m = (found_here p _ _ _ f.directory f.legal f.found).high in
    (uncounted p, f.directory, find_below _ _ _ _ _ f.found, omega arith, (legal_bounds _ g.legal).1)

pub move_entry-requires : goal.move_entry-requires
move_entry-requires c =
    let p = c.requires in
    let g = moves _ _ _ _ _ _ _ _ _ _ (sym c.rename_new_plan.ensures ∙ c.in_ok-slot.was ∙ ap Ok c.in-Move.is) in
    let f = g.0.entry in
    let e = f.inode in
    let l = (found_here p _ _ _ f.directory f.legal f.found).low in
    let m = (found_here p _ _ _ f.directory f.legal f.found).high in
    record { sound_store = (p, g.0.new.directory, g.1.room); d_value = (f.directory, find_below _ _ _ _ _ f.found, omega arith, omega arith, (legal_bounds _ g.0.new.legal).1) }

pub returns-in-Rename : goal.returns-in-Rename
returns-in-Rename c =
    let a = c.args in
    ap (λ (t : List ℕ). plain_left (Ok 0) t []) c.rename.ensures
    ∙ ap (λ p. leaves a.s.now [] (do_rename a.s.now a.n a.d a.e a.other.now p)) (sym (c.in_ok-slot.was ∙ ap Ok c.in-Rename.is) ∙ c.rename_new_plan.ensures)

pub returns-in-Move : goal.returns-in-Move
returns-in-Move c =
    let a = c.args in
    ap (λ (t : List ℕ). plain_left (Ok 0) t []) c.move_entry.ensures
    ∙ ap (λ p. leaves a.s.now [] (do_rename a.s.now a.n a.d a.e a.other.now p)) (sym (c.in_ok-slot.was ∙ ap Ok c.in-Move.is) ∙ c.rename_new_plan.ensures)

pub returns-in_err-slot : goal.returns-in_err-slot
returns-in_err-slot c = let a = c.args in plan_refused (do_rename a.s.now a.n a.d a.e a.other.now) _ _ _ _ _ refl (sym c.rename_new_plan.ensures ∙ c.in_err-slot.was) c.from_residual.ensures.1
