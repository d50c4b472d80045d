use mathlib.Core.Path.{◌∙◌}
use native.Mathlib.Omega.{arith}
use Rattle.bounded.proofs.SearchLaws.{first_ext}
use Rattle.blocks.specs.Free.{lowest_by}
use Rattle.blocks.proofs.MapLaws.{map_free}
use Rattle.blocks.proofs.free.free_block.Goals as goal

pub returns : goal.returns
unfolding lowest_by
returns c = c.lowest.ensures ∙ first_ext _ _ 1 _ (λ j l m. map_free _ _ _ _ c.named_blocks.ensures j l (omega arith))
