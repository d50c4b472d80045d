-- Directories that lie inside of a store or an image: what the code asks for. n is the inode count.
use Rattle.std.specs.Prelude.{ℕ, ◌≤◌, ◌<◌, List}
use Rattle.layout.specs.Sizes.{most_directory_blocks}
use Rattle.layout.specs.Inode.{size_of}
use Rattle.layout.specs.Fits.{InodeFits}
use Rattle.blocks.specs.Block.{blocks_used, kth_block}
use Rattle.blocks.specs.Fits.{BlockFits}

-- d is an inode, and the blocks that its size uses lie inside of s
pub record DirFits (s : List ℕ) (n d : ℕ) : Type 0 where
  pub inode : InodeFits s n d
  pub few : blocks_used (size_of s d) ≤ most_directory_blocks
  pub blocks : (k : ℕ) → k < blocks_used (size_of s d) → BlockFits s n (kth_block s n d k)
