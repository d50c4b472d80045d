use Rattle.api.proofs.CodeLaws.{alone_fits, sent_alone_lem}
use Rattle.api.proofs.ResultLaws.{look_up_fits}
use Rattle.api.proofs.honecerise_look_up.Goals as goal

pub code-requires : goal.code-requires
code-requires c = alone_fits c.look_up.result _ _ _ c.look_up.ensures (look_up_fits _ _ _)

pub returns : goal.returns
returns c = sent_alone_lem c.look_up.result _ _ _ c.look_up.ensures (look_up_fits _ _ _) _ c.code.ensures
