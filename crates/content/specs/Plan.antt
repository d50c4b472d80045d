-- What read, write and shorten are to do on a sound store, or a refusal: that of the first condition that holds. n is the count of inodes.
use Rattle.std.specs.Prelude.{ℕ, ◌+◌, ◌-◌, min, max, not, ◌||◌, List, ltb, Err, Ok}
use Rattle.bounded.specs.Search.{pick}
use Rattle.layout.specs.Sizes.{most_file_bytes}
use Rattle.layout.specs.Header.{header_of}
use Rattle.layout.specs.Inode.{size_of, is_file}
use Rattle.blocks.specs.Block.{blocks_used}
use Rattle.answers.specs.declared.Refusal.TheVariants.{WrongInode, PastEnd, NoBlocks}
use Rattle.answers.specs.Told.{Answer}

-- read: 5, 9; "the smaller of the out-buffer's length and the bytes left"
unfoldable pub read_plan : List ℕ → ℕ → ℕ → ℕ → ℕ → Answer
read_plan s n i o k =
    pick (not (is_file s n i)) (Err WrongInode)
    (pick (ltb (size_of s i) o) (Err PastEnd)
    (Ok (min k (size_of s i - o))))

-- write of k bytes at o: 5, 9, 12; the new size
unfoldable pub write_plan : List ℕ → ℕ → ℕ → ℕ → ℕ → Answer
write_plan s n i o k =
    let z = max (size_of s i) (o + k) in
    pick (not (is_file s n i)) (Err WrongInode)
    (pick (ltb (size_of s i) o || ltb most_file_bytes (o + k)) (Err PastEnd)
    (pick (ltb (header_of s).free_blocks (blocks_used z - blocks_used (size_of s i))) (Err NoBlocks)
    (Ok z)))

-- shorten to z: 5, 9
unfoldable pub shorten_plan : List ℕ → ℕ → ℕ → ℕ → Answer
shorten_plan s n i z =
    pick (not (is_file s n i)) (Err WrongInode)
    (pick (ltb (size_of s i) z) (Err PastEnd)
    (Ok z))
