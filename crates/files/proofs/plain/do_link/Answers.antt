use Rattle.std.specs.Prelude.{Ok}
use Prim.Native.Nat.{ℕ}
use mathlib.Core.List.{List, []}
use mathlib.Core.Path.{refl, sym, ap, ◌∙◌}
use Rattle.names.proofs.NameLaws.{legal_bounds}
use Rattle.entries.proofs.PlanFacts.{links}
use Rattle.files.specs.Effect.{do_link}
use Rattle.files.specs.Plain.{plain_left, leaves}
use Rattle.files.proofs.CallLaws.{plan_refused}
use Rattle.files.proofs.plain.do_link.Goals as goal

pub link-requires : goal.link-requires
link-requires c =
    let p = c.requires in
    let f = links _ _ _ _ _ _ _ (sym c.link_plan.ensures ∙ c.in_ok-room.was) in
    record { sound_store = (p, f.new.directory, f.room); i_value = (f.file, (legal_bounds _ f.new.legal).1) }

pub returns : goal.returns
returns c =
    let a = c.args in
    ap (λ (t : List ℕ). plain_left (Ok 0) t []) c.link.ensures
    ∙ ap (λ p. leaves a.s.now [] (do_link a.s.now a.n a.d a.name.now a.i p)) (sym c.in_ok-room.was ∙ c.link_plan.ensures)

pub returns-in_err-room : goal.returns-in_err-room
returns-in_err-room c = let a = c.args in plan_refused (do_link a.s.now a.n a.d a.name.now a.i) _ _ _ _ _ refl (sym c.link_plan.ensures ∙ c.in_err-room.was) c.from_residual.ensures.1
