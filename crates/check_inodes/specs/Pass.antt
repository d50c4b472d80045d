-- What the check's pass over the inodes tests. n and b are the counts of inodes and blocks.
use Rattle.std.specs.Prelude.{ℕ, ◌+◌, ◌-◌, ◌*◌, Bool, not, ◌&&◌, ◌||◌, List, nat_le}
use Rattle.bounded.specs.Below.{all_below}
use Rattle.bounded.specs.Count.{new_at}
use Rattle.layout.specs.Sizes.{most_blocks}
use Rattle.blocks.specs.Block.{is_long, row_of}
use Rattle.blocks.specs.Free.{block_free}
use Rattle.blocks.specs.Map.{lacks, Maps}
use Rattle.sound.specs.Test.{used_b, rest_b, blank_block_b}

-- the map has the blocks that the first x places of the row of a store or a finished image have, and no other
abbrev pub MapsOf : List ℕ → ℕ → ℕ → List ℕ → Type 0
MapsOf s n x map = Maps (is_long s) s n x map

-- an address a that the size uses, with the blocks met so far in the map: one of b blocks that the map lacks
abbrev pub used_address_b : ℕ → List ℕ → ℕ → Bool
used_address_b b map a = nat_le 1 a && (nat_le a b && lacks map a)

-- where the k-th block of inode i stands in the row of all
abbrev pub row_place : ℕ → ℕ → ℕ
row_place i k = most_blocks * (i - 1) + k

-- the row does not have it before that place
abbrev pub new_block_b : List ℕ → ℕ → ℕ → ℕ → Bool
new_block_b s n i k = new_at (row_of s n) (row_place i k)

-- and so for all 44 of its places
unfoldable pub new_blocks_b : List ℕ → ℕ → ℕ → Bool
new_blocks_b s n i = all_below (new_block_b s n i) most_blocks

-- the k-th block of inode i, tested as the pass meets it
unfoldable pub kth_b : List ℕ → ℕ → ℕ → ℕ → ℕ → Bool
kth_b s n b i k = (used_b s n b i k && rest_b s n i k) && new_block_b s n i k

-- block c, if none has it, is zero
abbrev pub blank_if_free_b : List ℕ → ℕ → ℕ → Bool
blank_if_free_b s n c = not (block_free s n c) || blank_block_b s n c
