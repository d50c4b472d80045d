use Rattle.api.proofs.CodeLaws.{kept_fits, sent_kept_lem}
use Rattle.api.proofs.ResultLaws.{keep_fits}
use Rattle.api.proofs.honecerise_keep.Goals as goal

pub code-requires : goal.code-requires
code-requires c = let m = c.keep in kept_fits m.result _ _ m.ensures (keep_fits _ _ _ _)

pub returns : goal.returns
returns c = let m = c.keep in sent_kept_lem m.result _ _ m.ensures (keep_fits _ _ _ _) _ c.code.ensures
