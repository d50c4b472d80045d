use Rattle.api.proofs.CodeLaws.{three_fits, sent_three}
use Rattle.api.proofs.ResultLaws.{burst_fits}
use Rattle.api.proofs.honecerise_burst.Goals as goal

pub code-requires : goal.code-requires
code-requires c = three_fits c.burst.result _ _ _ _ c.burst.ensures (burst_fits _ _)

pub returns : goal.returns
returns c = sent_three c.burst.result _ _ _ _ c.burst.ensures (burst_fits _ _) _ c.code.ensures
