-- What holds of each inode by itself. n and b are the counts of inodes and blocks, i is from 1 to n.
use Rattle.std.specs.Prelude.{ℕ, ◌/◌, ◌%◌, ◌≤◌, ◌<◌, ◌≡◌, List, eqb, get_or}
use Rattle.bounded.specs.Search.{pick}
use Rattle.layout.specs.Sizes.{most_blocks, block_bytes, most_file_bytes, most_directory_bytes}
use Rattle.layout.specs.Inode.{kind_of, spare_of, links_of, size_of, parent_of, free_kind, file_kind, directory_kind}
use Rattle.blocks.specs.Block.{block_of, blocks_used, kth_block, bytes_block}

-- the most bytes of an inode of kind k: F-1, "the limit becomes 2,752 bytes", "Directories keep twelve direct blocks."
abbrev pub most_bytes : ℕ → ℕ
most_bytes k = pick (eqb k directory_kind) most_directory_bytes most_file_bytes

-- byte o of the block that the size ends in
abbrev pub tail_byte : List ℕ → ℕ → ℕ → ℕ → ℕ
tail_byte s n i o = get_or (block_of s n (bytes_block s n i (size_of s i / block_bytes))) o 0

pub record InodeSound (s : List ℕ) (n b i : ℕ) : Type 0 where
  -- "kind (0 free, 1 file, 2 directory), a zero byte"
  pub kind : kind_of s i ≤ directory_kind
  pub spare : spare_of s i ≡ 0
  -- "Free inodes have all-zero attributes and addresses": that the addresses are 0 is said by `rest`
  pub free : kind_of s i ≡ free_kind → (links_of s i ≡ 0) × ((size_of s i ≡ 0) × (parent_of s i ≡ 0))
  -- "A size of s uses the first s/64 addresses, rounded up; the rest are 0", and F-1: a file above 768 bytes has an address block among them; each kind has its limit
  pub size : size_of s i ≤ most_bytes (kind_of s i)
  pub used : (k : ℕ) → k < most_blocks → k < blocks_used (size_of s i) → (1 ≤ kth_block s n i k) × (kth_block s n i k ≤ b)
  pub rest : (k : ℕ) → k < most_blocks → blocks_used (size_of s i) ≤ k → kth_block s n i k ≡ 0
  -- "Directory sizes are multiples of 64."
  pub directory : kind_of s i ≡ directory_kind → size_of s i % block_bytes ≡ 0
  -- "File bytes past the size in the last block are zero."
  pub tail : kind_of s i ≡ file_kind → (size_of s i % block_bytes ≡ 0 → ⊥) → (o : ℕ) → o < block_bytes → size_of s i % block_bytes ≤ o → tail_byte s n i o ≡ 0
  -- "parent directory (2; 0 for files and root)"
  pub parent : kind_of s i ≡ file_kind → parent_of s i ≡ 0
