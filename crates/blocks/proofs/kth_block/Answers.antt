use borrow.Author.Tests.{lt-ltb}
use Rattle.blocks.specs.Block.{kth_by}
use Rattle.blocks.proofs.kth_block.Goals as goal

pub returns : goal.returns
unfolding kth_by
returns c = let l = c.requires.1 in rw (lt-ltb c.args.k 12 l) (cc)
