use Rattle.api.proofs.CodeLaws.{three_fits, sent_three}
use Rattle.api.proofs.ResultLaws.{step_fits}
use Rattle.api.proofs.honecerise_step.Goals as goal

pub code-requires : goal.code-requires
code-requires c = three_fits c.step.result _ _ _ _ c.step.ensures (step_fits _ _ _)

pub returns : goal.returns
returns c = sent_three c.step.result _ _ _ _ c.step.ensures (step_fits _ _ _) _ c.code.ensures
