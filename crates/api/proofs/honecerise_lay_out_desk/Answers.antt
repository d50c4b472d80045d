use Rattle.api.proofs.CodeLaws.{laid_fits, sent_laid_lem}
use Rattle.api.proofs.ResultLaws.{lay_desk_fits}
use Rattle.api.proofs.honecerise_lay_out_desk.Goals as goal

pub code-requires : goal.code-requires
code-requires c = laid_fits c.lay_out_desk.result _ _ c.lay_out_desk.ensures (lay_desk_fits _ _)

pub returns : goal.returns
returns c = sent_laid_lem c.lay_out_desk.result _ _ c.lay_out_desk.ensures (lay_desk_fits _ _) _ c.code.ensures
