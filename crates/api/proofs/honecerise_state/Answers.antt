use mathlib.Core.List.{[], ◌∷◌}
use Rattle.api.proofs.CodeLaws.{state_told, state_refused}
use Rattle.api.proofs.honecerise_state.Goals as goal

pub returns-in-Ok : goal.returns-in-Ok
returns-in-Ok c = state_told c.state.result _ _ _ _ (c.args.state.now ∷ c.args.locked.now ∷ c.args.steps.now ∷ []) c.state.ensures c.in-Ok.is

pub returns-in-Err : goal.returns-in-Err
returns-in-Err c = state_refused c.state.result _ _ _ _ c.state.ensures c.in-Err.is c.refused.ensures
