-- ".. being named take in the addresses there": those in address blocks, which are looked at apart from the twelve of each inode. m is the image, n the inode count, long tells which inodes have an address block.
use Rattle.std.specs.Prelude.{ℕ, ◌+◌, Bool, List, eqb}
use Rattle.bounded.specs.Below.{some_below}
use Rattle.layout.specs.Sizes.{address_count, further_count}
use Rattle.blocks.specs.Block.{kth_by}

-- block c is named in the address block of inode i
unfoldable pub behind_b : (ℕ → Bool) → List ℕ → ℕ → ℕ → ℕ → Bool
behind_b long m n c i = some_below (λ j. eqb (kth_by (long i) m n i (address_count + j)) c) further_count
