use Rattle.api.proofs.CodeLaws.{three_fits, sent_three}
use Rattle.api.proofs.ResultLaws.{live_fits}
use Rattle.api.proofs.honecerise_unlink.Goals as goal

pub code-requires : goal.code-requires
code-requires c = three_fits c.unlink.result _ _ _ _ c.unlink.ensures (live_fits _ _)

pub returns : goal.returns
returns c = sent_three c.unlink.result _ _ _ _ c.unlink.ensures (live_fits _ _) _ c.code.ensures
