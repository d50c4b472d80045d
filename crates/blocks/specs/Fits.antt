-- What the code asks for before it reads or writes in a block. n is the inode count.
use Rattle.std.specs.Prelude.{ℕ, ◌+◌, ◌*◌, ◌≤◌, ◌<◌, ◌≡◌, ◌≢◌, Bool, true, List, length}
use Rattle.layout.specs.Sizes.{header_bytes, inode_bytes, block_bytes, most_inodes, most_image_blocks, most_blocks}
use Rattle.layout.specs.Inode.{size_of}
use Rattle.layout.specs.Fits.{InodeFits}
use Rattle.blocks.specs.Block.{store_length, block_at, address_block, row_by, blocks_used, kth_block}

-- s is as long as n inodes and b blocks are
pub record Sized (s : List ℕ) (n b : ℕ) : Type 0 where
  pub inodes : n ≤ most_inodes
  pub blocks : b ≤ most_image_blocks
  pub long : length s ≡ store_length n b

-- block b lies inside of s
pub record BlockFits (s : List ℕ) (n b : ℕ) : Type 0 where
  pub low : 1 ≤ b
  pub inside : header_bytes + inode_bytes * n + block_bytes * b ≤ length s

-- i is an inode, and the blocks that its size uses lie inside of s
pub record BlocksFit (s : List ℕ) (n i : ℕ) : Type 0 where
  pub inode : InodeFits s n i
  pub few : blocks_used (size_of s i) ≤ most_blocks
  pub blocks : (k : ℕ) → k < blocks_used (size_of s i) → BlockFits s n (kth_block s n i k)

-- the address block of inode i, where it has one, lies inside of s
abbrev pub Reaches : Bool → List ℕ → ℕ → ℕ → Type 0
Reaches long s n i = long ≡ true → address_block s n i ≢ 0 → block_at n (address_block s n i) + block_bytes ≤ length s

-- what the passes over all blocks of all inodes need: any bytes that refusal 2 or 3 lets through have it
pub record RowsFit (long : ℕ → Bool) (s : List ℕ) (n : ℕ) : Type 0 where
  pub few : n ≤ most_inodes
  pub area : header_bytes + inode_bytes * n ≤ length s
  pub most : (x : ℕ) → x < most_blocks * n → row_by long s n x ≤ most_image_blocks
  pub inside : (i : ℕ) → 1 ≤ i → i ≤ n → Reaches (long i) s n i
