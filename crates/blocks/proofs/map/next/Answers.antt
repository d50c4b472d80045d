use Rattle.std.proofs.Common.{◌∙◌, sym}
use Rattle.layout.proofs.RangeLaws.{some_found}
use Rattle.blocks.proofs.map.next.Goals as goal

pub unwrap-requires : goal.unwrap-requires
unwrap-requires c = some_found _ (λ z. c.requires.3 (sym c.lowest_from.ensures ∙ z))

pub returns : goal.returns
returns c = sym c.lowest_from.ensures ∙ c.unwrap.ensures
