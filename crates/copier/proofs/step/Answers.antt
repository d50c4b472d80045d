use Rattle.copier.proofs.StepLaws.{step_ready, step_stopped, step_through}
use Rattle.copier.proofs.step.Goals as goal

pub go_on-requires : goal.go_on-requires
go_on-requires c = step_ready _ _ _ _ c.three_guards.ensures c.in_ok-w.was

pub returns : goal.returns
returns c = step_through _ _ _ _ c.three_guards.ensures _ _ _ _ c.in_ok-w.was c.go_on.ensures

pub returns-in_err-w : goal.returns-in_err-w
returns-in_err-w c = step_stopped _ _ _ _ c.three_guards.ensures _ _ c.from_residual.ensures.1 c.in_err-w.was
