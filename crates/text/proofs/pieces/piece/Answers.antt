use Rattle.text.proofs.PieceLaws.{piece_is}
use Rattle.text.proofs.pieces.piece.Goals as goal

pub returns : goal.returns
returns c = piece_is _ _ _ _ _ _ c.rest-from.ensures c.find.ensures.0 c.front.ensures
