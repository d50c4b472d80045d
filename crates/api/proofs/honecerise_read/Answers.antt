use Rattle.api.proofs.CodeLaws.{alone_fits, sent_alone_lem}
use Rattle.api.proofs.ResultLaws.{read_fits}
use Rattle.api.proofs.honecerise_read.Goals as goal

pub code-requires : goal.code-requires
code-requires c = alone_fits c.read.result _ _ _ c.read.ensures (read_fits _ _ _ _)

pub returns : goal.returns
returns c = sent_alone_lem c.read.result _ _ _ c.read.ensures (read_fits _ _ _ _) _ c.code.ensures
