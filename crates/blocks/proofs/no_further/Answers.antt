use mathlib.Core.Path.{◌∙◌}
use Rattle.blocks.proofs.KthLaws.{further_zeros}
use Rattle.blocks.proofs.no_further.Goals as goal

pub returns : goal.returns
returns c = let a = c.args in c.all_zero.ensures ∙ further_zeros _ _ _ a.j _ _ c.requires.1 c.block_at.ensures
