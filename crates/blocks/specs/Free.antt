-- "A call takes the lowest free .. block .. that it needs". n is the inode count, long tells which inodes have an address block.
use Rattle.std.specs.Prelude.{ℕ, ◌*◌, Bool, not, List, eqb, Option}
use Rattle.bounded.specs.Below.{some_below}
use Rattle.bounded.specs.Search.{pick, first_from}
use Rattle.layout.specs.Sizes.{most_blocks}
use Rattle.blocks.specs.Block.{is_long, row_by}

-- some inode has block c
unfoldable pub named_by : (ℕ → Bool) → List ℕ → ℕ → ℕ → Bool
named_by long s n c = some_below (λ x. eqb (row_by long s n x) c) (most_blocks * n)

-- the lowest of the b blocks that none has
unfoldable pub lowest_by : (ℕ → Bool) → List ℕ → ℕ → ℕ → Option ℕ
lowest_by long s n b = first_from (λ c. not (named_by long s n c)) 1 b

-- ---- in a store or a finished image
abbrev pub block_named : List ℕ → ℕ → ℕ → Bool
block_named s n c = named_by (is_long s) s n c

abbrev pub block_free : List ℕ → ℕ → ℕ → Bool
block_free s n c = not (block_named s n c)

abbrev pub free_block : List ℕ → ℕ → ℕ → Option ℕ
free_block s n b = lowest_by (is_long s) s n b

-- ---- in the image of a running copy: "A file in the image has an address block by its image size, the locked inode by its store size."
-- inode l is long as told, every other by its own size
unfoldable pub long_but : List ℕ → ℕ → Bool → ℕ → Bool
long_but s l b i = pick (eqb i l) b (is_long s i)
