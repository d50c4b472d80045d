use Rattle.guards.proofs.GuardLaws.{state_through, state_stopped}
use Rattle.guards.proofs.state.Goals as goal

pub returns-in_err-h : goal.returns-in_err-h
returns-in_err-h c = state_stopped _ _ _ _ c.three_guards.ensures _ _ c.from_residual.ensures.1 c.in_err-h.was

pub returns : goal.returns
returns c = state_through _ _ _ _ c.three_guards.ensures _ _ _ c.in_ok-h.was
