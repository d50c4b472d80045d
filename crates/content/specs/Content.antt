-- The bytes of a file, and how they grow and shrink. n and b are the counts of inodes and blocks, i is a file or, to take one block, a directory.
use Rattle.std.specs.Prelude.{ℕ, ◌+◌, ◌*◌, ◌-◌, ◌/◌, ◌%◌, List, [], ◌∷◌, eqb, set, replicate}
use Rattle.bounded.specs.Search.{pick}
use Rattle.bounded.specs.Table.{table}
use Rattle.layout.specs.Sizes.{block_bytes}
use Rattle.layout.specs.Header.{less_free}
use Rattle.layout.specs.Inode.{inode_of, put_inode, with_blocks}
use Rattle.blocks.specs.Block.{put_in_block, zero_block, blocks_used, bytes_block}
use Rattle.growth.specs.Extend.{file_byte, cut_blocks}

-- k bytes from o on
unfoldable pub file_bytes : List ℕ → ℕ → ℕ → ℕ → ℕ → List ℕ
file_bytes s n i o k = table (λ j. file_byte s n i (o + j)) k

-- the bytes xs from o on
unfoldable pub put_file : List ℕ → ℕ → ℕ → ℕ → List ℕ → List ℕ
put_file s n i o [] = s
put_file s n i o (x ∷ xs) = put_file (put_in_block s n (bytes_block s n i (o / block_bytes)) (o % block_bytes) (x ∷ [])) n i (o + 1) xs

-- block c is the next of directory i, zeroed first, and the size goes up to its edge
unfoldable pub add_block : List ℕ → ℕ → ℕ → ℕ → List ℕ
add_block s n i c =
    let v = inode_of s n i in
    let k = blocks_used v.size in
    less_free (put_inode (zero_block s n c) n i (with_blocks v (block_bytes * (k + 1)) (set v.addresses k c))) 0 1

-- "Shortening zeroes the rest of the last block."
unfoldable pub zero_rest : List ℕ → ℕ → ℕ → ℕ → List ℕ
zero_rest s n i z =
    pick (eqb (z % block_bytes) 0) s
    (put_in_block s n (bytes_block s n i (z / block_bytes)) (z % block_bytes) (replicate (block_bytes - z % block_bytes) 0))

-- the first z bytes alone
unfoldable pub cut_to : List ℕ → ℕ → ℕ → ℕ → List ℕ
cut_to s n i z = cut_blocks (zero_rest s n i z) n i z
