use Rattle.api.proofs.CodeLaws.{matched_fits, sent_laps_lem}
use Rattle.api.proofs.ResultLaws.{laps_fits}
use Rattle.api.proofs.honecerise_match_laps.Goals as goal

pub code-requires : goal.code-requires
code-requires c = let m = c.match_laps in matched_fits m.result _ _ m.ensures (laps_fits _ _ _)

pub returns : goal.returns
returns c = let m = c.match_laps in sent_laps_lem m.result _ _ m.ensures (laps_fits _ _ _) _ c.code.ensures
