use Rattle.std.specs.Prelude.{Ok}
use Prim.Native.Nat.{ℕ}
use mathlib.Core.Path.{refl, sym, ap, ◌∙◌}
use mathlib.Core.List.{List, []}
use native.Mathlib.Omega.{arith}
use Rattle.content.proofs.PlanFacts.{shortens}
use Rattle.files.specs.Effect.{do_shorten}
use Rattle.files.specs.Plain.{plain_left, leaves}
use Rattle.files.proofs.CallLaws.{plan_refused}
use Rattle.files.proofs.plain.do_shorten.Goals as goal

pub shorten_file-requires : goal.shorten_file-requires
shorten_file-requires c =
    let p = c.requires in
    let e = sym c.shorten_plan.ensures ∙ c.in_ok-y.was in
    let f = shortens _ _ _ _ _ e in
    let l = f.inside in
    let g = f.size in
    (p, f.file, omega arith)

pub returns : goal.returns
returns c =
    let a = c.args in
    ap (λ (t : List ℕ). plain_left (Ok c.in_ok-y.y) t []) c.shorten_file.ensures
    ∙ ap (λ p. leaves a.s.now [] (do_shorten a.s.now a.n a.i p)) (sym c.in_ok-y.was ∙ c.shorten_plan.ensures)

pub returns-in_err-y : goal.returns-in_err-y
returns-in_err-y c = let a = c.args in plan_refused (do_shorten a.s.now a.n a.i) _ _ _ _ _ refl (sym c.shorten_plan.ensures ∙ c.in_err-y.was) c.from_residual.ensures.1
