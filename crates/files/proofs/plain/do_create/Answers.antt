use Rattle.std.specs.Prelude.{Ok}
use Prim.Native.Nat.{ℕ}
use mathlib.Core.List.{List, []}
use mathlib.Core.Path.{refl, sym, ap, ◌∙◌}
use Rattle.names.proofs.NameLaws.{legal_bounds}
use Rattle.entries.proofs.PlanFacts.{creates}
use Rattle.files.specs.Effect.{do_create}
use Rattle.files.specs.Plain.{plain_left, leaves}
use Rattle.files.proofs.CallLaws.{plan_refused}
use Rattle.files.proofs.plain.do_create.Goals as goal

pub create-requires : goal.create-requires
create-requires c =
    let p = c.requires in
    let f = creates _ _ _ _ _ _ _ (sym c.create_plan.ensures ∙ c.in_ok-plan.was) in
    record { sound_store = (p, f.new.directory, f.room); n_value = (f.inode, (legal_bounds _ f.new.legal).1) }

pub returns : goal.returns
returns c =
    let a = c.args in
    ap (λ (t : List ℕ). plain_left (Ok c.in_ok-plan.plan.inode) t []) c.create.ensures
    ∙ ap (λ p. leaves a.s.now [] (do_create a.s.now a.n a.d a.name.now a.kind p)) (sym c.in_ok-plan.was ∙ c.create_plan.ensures)

pub returns-in_err-plan : goal.returns-in_err-plan
returns-in_err-plan c = let a = c.args in plan_refused (do_create a.s.now a.n a.d a.name.now a.kind) _ _ _ _ _ refl (sym c.create_plan.ensures ∙ c.in_err-plan.was) c.from_residual.ensures.1
