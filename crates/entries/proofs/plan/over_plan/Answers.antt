use Rattle.answers.proofs.RefusalLaws.{exit}
use mathlib.Core.Path.{sym, ◌∙◌}
use native.Mathlib.Omega.{arith}
use Rattle.preservation.proofs.SlotPlaceLaws.{found_here}
use Rattle.entries.proofs.PlanFacts.{looks, unlinks}
use Rattle.entries.proofs.TakePlanLaws.{over_unknown, over_held, over_onto}
use Rattle.entries.proofs.plan.over_plan.Goals as goal

pub over_of-requires : goal.over_of-requires
over_of-requires c =
    let p = c.requires in
    let i = (looks _ _ _ _ _ (sym c.look_up_plan.ensures ∙ c.in_ok-i.was)).1 in
    let h = (unlinks _ _ _ _ _ _ (sym c.unlink_plan.ensures ∙ c.in_ok-h.was)).entry in
    let x = found_here p _ _ _ i.directory i.legal i.found in
    let y = found_here p _ _ _ h.directory h.legal h.found in
    (p, h.directory, omega (arith, x.low, i.inode), omega (arith, x.high, i.inode), omega (arith, y.low, h.inode), omega (arith, y.high, h.inode))

pub returns-in_err-i : goal.returns-in_err-i
returns-in_err-i c = exit _ _ c.from_residual.ensures.1 ∙ over_unknown _ _ _ _ _ _ _ (sym c.look_up_plan.ensures ∙ c.in_err-i.was)

pub returns-in_err-h : goal.returns-in_err-h
returns-in_err-h c = exit _ _ c.from_residual-in_err-h.ensures.1 ∙ over_held _ _ _ _ _ _ _ (sym c.look_up_plan.ensures ∙ c.in_ok-i.was) _ (sym c.unlink_plan.ensures ∙ c.in_err-h.was)

pub returns : goal.returns
returns c = over_onto _ _ _ _ _ _ _ (sym c.look_up_plan.ensures ∙ c.in_ok-i.was) _ _ _ (sym c.unlink_plan.ensures ∙ c.in_ok-h.was) c.over_of.ensures
