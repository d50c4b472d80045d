use Rattle.std.proofs.Common.{arith, refl, sym, ◌∙◌}
use Rattle.script_run.proofs.RunLaws.{step_begin, step_refused, step_on, step_end}
use Rattle.script_run.proofs.run.take_steps.Goals as goal

pub loop-k-init : goal.loop-k-init
loop-k-init c = step_begin _ _

pub returns-in-Err : goal.returns-in-Err
returns-in-Err c = step_refused _ _ _ _ _ _ _ _ (omega arith) c.turn.ensures _ c.in-Err.is _ c.from.ensures ∙ sym c.loop-k.invariant

pub loop-k-preserved : goal.loop-k-preserved
loop-k-preserved c = c.loop-k.invariant ∙ step_on _ _ _ _ _ _ _ _ (omega arith) c.turn.ensures _ c.in-Ok.is _ _ (omega arith) refl

pub returns : goal.returns
returns c = step_end _ _ _ _ (omega arith) c.steps_so_far.ensures ∙ sym c.loop-k.invariant
