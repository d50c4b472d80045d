use Rattle.api.proofs.CodeLaws.{three_fits, sent_three}
use Rattle.api.proofs.ResultLaws.{start_fits}
use Rattle.api.proofs.honecerise_start.Goals as goal

pub code-requires : goal.code-requires
code-requires c = three_fits c.start.result _ _ _ _ c.start.ensures (start_fits _ _ _)

pub returns : goal.returns
returns c = sent_three c.start.result _ _ _ _ c.start.ensures (start_fits _ _ _) _ c.code.ensures
