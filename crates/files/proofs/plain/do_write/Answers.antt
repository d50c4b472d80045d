use Rattle.std.specs.Prelude.{Ok}
use Prim.Native.Nat.{ℕ}
use mathlib.Core.List.{List, []}
use mathlib.Core.Path.{refl, sym, ap, ◌∙◌}
use Rattle.files.specs.Effect.{do_write}
use Rattle.files.specs.Plain.{plain_left, leaves}
use Rattle.files.proofs.CallLaws.{plan_refused}
use Rattle.files.proofs.plain.do_write.Goals as goal

pub write_file-requires : goal.write_file-requires
write_file-requires c = let p = c.requires in (p, sym c.write_plan.ensures ∙ c.in_ok-z.was)

pub returns : goal.returns
returns c =
    let a = c.args in
    ap (λ (t : List ℕ). plain_left (Ok c.in_ok-z.z) t []) c.write_file.ensures
    ∙ ap (λ p. leaves a.s.now [] (do_write a.s.now a.n a.b a.i a.o a.xs.now p)) (sym c.in_ok-z.was ∙ c.write_plan.ensures)

pub returns-in_err-z : goal.returns-in_err-z
returns-in_err-z c = let a = c.args in plan_refused (do_write a.s.now a.n a.b a.i a.o a.xs.now) _ _ _ _ _ refl (sym c.write_plan.ensures ∙ c.in_err-z.was) c.from_residual.ensures.1
