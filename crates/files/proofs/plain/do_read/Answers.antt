use Rattle.std.specs.Prelude.{Ok}
use mathlib.Core.Path.{refl, sym, ap, ◌∙◌}
use native.Mathlib.Omega.{arith}
use Rattle.content.proofs.PlanFacts.{reads}
use Rattle.files.specs.Effect.{do_read}
use Rattle.files.specs.Plain.{plain_left, leaves}
use Rattle.files.proofs.CallLaws.{plan_refused}
use Rattle.files.proofs.plain.do_read.Goals as goal

pub read_file-requires : goal.read_file-requires
read_file-requires c = let p = c.requires in let r = (reads _ _ _ _ _ _ (sym c.read_plan.ensures ∙ c.in_ok-count.was)) in let m = r.count in let l = r.inside in (p, r.file, omega arith, omega arith)

pub returns : goal.returns
returns c = let a = c.args in ap (plain_left (Ok _) a.s.now) c.read_file.ensures ∙ ap (λ p. leaves a.s.now a.out.now (do_read a.s.now a.n a.i a.o a.out.now p)) (sym c.in_ok-count.was ∙ c.read_plan.ensures)

pub returns-in_err-count : goal.returns-in_err-count
returns-in_err-count c = let a = c.args in plan_refused (do_read a.s.now a.n a.i a.o a.out.now) _ _ _ _ _ refl (sym c.read_plan.ensures ∙ c.in_err-count.was) c.from_residual.ensures.1
