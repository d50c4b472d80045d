use mathlib.Core.List.{[]}
use Rattle.std.specs.Prelude.{Ok}
use mathlib.Core.Path.{refl, sym, ap, ◌∙◌}
use Rattle.files.specs.Effect.{do_over}
use Rattle.files.specs.Plain.{leaves}
use Rattle.files.proofs.OverLaws.{still_sound, over_leaves, goes_unrefused}
use Rattle.files.proofs.CallLaws.{plan_refused}
use Rattle.files.proofs.plain.do_over.Goals as goal

pub do_rename_new-requires : goal.do_rename_new-requires
do_rename_new-requires c = still_sound _ _ _ _ _ _ _ _ _ c.requires (sym c.over_plan.ensures ∙ c.in_ok-over_plan.was ∙ ap Ok c.in-Over.is) _ c.do_unlink.result c.do_unlink.ensures

pub returns-in_ok-do_unlink-in-Over : goal.returns-in_ok-do_unlink-in-Over
returns-in_ok-do_unlink-in-Over c = over_leaves _ _ _ _ _ _ _ _ _ c.requires (sym c.over_plan.ensures ∙ c.in_ok-over_plan.was ∙ ap Ok c.in-Over.is) _ c.do_unlink.result c.do_unlink.ensures _ c.do_rename_new.ensures

pub returns-in_err-do_unlink-in-Over : goal.returns-in_err-do_unlink-in-Over
returns-in_err-do_unlink-in-Over c = absurd (goes_unrefused _ _ _ _ _ _ _ _ _ c.requires (sym c.over_plan.ensures ∙ c.in_ok-over_plan.was ∙ ap Ok c.in-Over.is) _ c.do_unlink.result c.do_unlink.ensures _ c.in_err-do_unlink-in-Over.was)

pub returns-in-Same : goal.returns-in-Same
returns-in-Same c = let a = c.args in ap (λ p. leaves a.s.now [] (do_over a.s.now a.n a.b a.d a.name.now a.e a.other.now p)) (sym (c.in_ok-over_plan.was ∙ ap Ok c.in-Same.is) ∙ c.over_plan.ensures)

pub returns-in_err-over_plan : goal.returns-in_err-over_plan
returns-in_err-over_plan c = let a = c.args in plan_refused (do_over a.s.now a.n a.b a.d a.name.now a.e a.other.now) _ _ _ _ _ refl (sym c.over_plan.ensures ∙ c.in_err-over_plan.was) c.from_residual.ensures.1
