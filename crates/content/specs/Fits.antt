-- Where the bytes of a file stand. n is the inode count.
use Rattle.std.specs.Prelude.{ℕ, ◌+◌, ◌/◌, ◌%◌, ◌≤◌, ◌≡◌, true, List}
use Rattle.layout.specs.Sizes.{block_bytes}
use Rattle.layout.specs.Inode.{size_of, is_file}
use Rattle.blocks.specs.Block.{block_at, bytes_block}
use Rattle.sound.specs.Sound.{blocks_in}
use Rattle.sound.specs.Counted.{SoundStore}

-- where byte x of file i stands
unfoldable pub byte_at : List ℕ → ℕ → ℕ → ℕ → ℕ
byte_at s n i x = block_at n (bytes_block s n i (x / block_bytes)) + x % block_bytes

-- s is a sound store with a file i of z bytes or more
pub record FileFits (s : List ℕ) (n i z : ℕ) : Type 0 where
  pub sound : SoundStore s n (blocks_in s)
  pub file : is_file s n i ≡ true
  pub size : z ≤ size_of s i
