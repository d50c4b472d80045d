use Rattle.blocks.specs.Block.{zero_block}
use Rattle.blocks.proofs.zero_block.Goals as goal

pub returns : goal.returns
unfolding zero_block
returns c = cc
