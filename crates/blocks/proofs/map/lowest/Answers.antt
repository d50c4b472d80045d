use Rattle.std.proofs.Common.{◌∙◌, sym, arith}
use Rattle.bounded.proofs.SearchLaws.{first_of_begin}
use Rattle.blocks.proofs.map.lowest.Goals as goal

pub returns : goal.returns
returns c = c.lowest_from.ensures ∙ sym (first_of_begin _ 1 _ _ (omega arith))
