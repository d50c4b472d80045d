use Rattle.text.proofs.ListLaws.{eq_is_word}
use Rattle.text.proofs.pieces.is_word.Goals as goal

pub returns : goal.returns
returns c = eq_is_word _ _ _ c.eq.ensures
