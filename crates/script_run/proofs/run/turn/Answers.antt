use Rattle.std.proofs.Common.{rules}
use Rattle.script_run.proofs.RunLaws.{turned_done, turned_refused}
use Rattle.script_run.proofs.run.turn.Goals as goal

pub returns-in_err-step : goal.returns-in_err-step
returns-in_err-step c = let e = turned_refused _ _ _ _ _ _ c.step.ensures _ c.in_err-step.was in search rules

pub returns : goal.returns
returns c = turned_done _ _ _ _ _ _ c.step.ensures _ _ c.in_ok-step.was c.is_complete.ensures
