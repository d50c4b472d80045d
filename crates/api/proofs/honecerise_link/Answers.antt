use Rattle.api.proofs.CodeLaws.{three_fits, sent_three}
use Rattle.api.proofs.ResultLaws.{live_fits}
use Rattle.api.proofs.honecerise_link.Goals as goal

pub code-requires : goal.code-requires
code-requires c = three_fits c.link.result _ _ _ _ c.link.ensures (live_fits _ _)

pub returns : goal.returns
returns c = sent_three c.link.result _ _ _ _ c.link.ensures (live_fits _ _) _ c.code.ensures
