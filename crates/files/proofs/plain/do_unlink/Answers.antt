use Rattle.std.specs.Prelude.{Ok}
use Prim.Native.Nat.{ℕ}
use mathlib.Core.List.{List, []}
use mathlib.Core.Path.{refl, sym, ap, ◌∙◌}
use native.Mathlib.Omega.{arith}
use Rattle.directory.proofs.SlotLaws.{find_below}
use Rattle.preservation.proofs.SlotPlaceLaws.{found_here}
use Rattle.entries.proofs.PlanFacts.{unlinks}
use Rattle.files.specs.Effect.{do_unlink}
use Rattle.files.specs.Plain.{plain_left, leaves}
use Rattle.files.proofs.CallLaws.{plan_refused}
use Rattle.files.proofs.plain.do_unlink.Goals as goal

pub unlink-requires : goal.unlink-requires
unlink-requires c =
    let p = c.requires in
    let f = (unlinks _ _ _ _ _ _ (sym c.unlink_plan.ensures ∙ c.in_ok-plan.was)).entry in
    let e = f.inode in
    let l = (found_here p _ _ _ f.directory f.legal f.found).low in
    let m = (found_here p _ _ _ f.directory f.legal f.found).high in
    (p, f.directory, find_below _ _ _ _ _ f.found, omega arith, omega arith)

pub returns : goal.returns
returns c =
    let a = c.args in
    ap (λ (t : List ℕ). plain_left (Ok 0) t []) c.unlink.ensures
    ∙ ap (λ p. leaves a.s.now [] (do_unlink a.s.now a.n a.d p)) (sym c.in_ok-plan.was ∙ c.unlink_plan.ensures)

pub returns-in_err-plan : goal.returns-in_err-plan
returns-in_err-plan c = let a = c.args in plan_refused (do_unlink a.s.now a.n a.d) _ _ _ _ _ refl (sym c.unlink_plan.ensures ∙ c.in_err-plan.was) c.from_residual.ensures.1
