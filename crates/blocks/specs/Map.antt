-- The map of named blocks, which the code makes in one pass over the addresses: a bit for each block. Neighbours stand in neighbouring words: the first 256 blocks have bit 0 of the words, the next 256 bit 1, and so on.
use Rattle.std.specs.Prelude.{ℕ, ◌+◌, ◌-◌, ◌/◌, ◌%◌, ◌<◌, ◌≡◌, Bool, not, List, eqb, length, get_or, set}
use Rattle.marks.specs.Mark.{marked, with_mark}
use Rattle.bounded.specs.Search.{pick}
use Rattle.bounded.specs.Seen.{Seen}
use Rattle.layout.specs.Sizes.{most_image_blocks}
use Rattle.blocks.specs.Block.{row_by}

-- the words of a map, of 16 bits each
abbrev pub map_words : ℕ
map_words = 256

-- the map has block b, from 1 on
unfoldable pub has_block : List ℕ → ℕ → Bool
has_block map b = marked (get_or map ((b - 1) % map_words) 0) ((b - 1) / map_words)

-- the map does not have block b
abbrev pub lacks : List ℕ → ℕ → Bool
lacks map b = not (has_block map b)

-- the map with block b noted; 0 is no block
unfoldable pub noted : List ℕ → ℕ → List ℕ
noted map b = pick (eqb b 0) map (set map ((b - 1) % map_words) (with_mark (get_or map ((b - 1) % map_words) 0) ((b - 1) / map_words)))

-- the map has those of the x numbers f 0, f 1, .. that are blocks, and no other
pub record MapOf (f : ℕ → ℕ) (x : ℕ) (map : List ℕ) : Type 0 where
  pub long : length map ≡ map_words
  pub seen : Seen f 1 (most_image_blocks + 1) x (has_block map)

-- the map has the blocks that the first x places of the row have, and no other
abbrev pub Maps : (ℕ → Bool) → List ℕ → ℕ → ℕ → List ℕ → Type 0
Maps long s n x map = MapOf (row_by long s n) x map

-- the map has, beside what it had before, the j blocks g 0, g 1, .., whatever row they are of
abbrev pub Notes : (ℕ → ℕ) → ℕ → List ℕ → List ℕ → Type 0
Notes g j before map = (f : ℕ → ℕ) (x : ℕ) → ((k : ℕ) → k < j → f (x + k) ≡ g k) → MapOf f x before → MapOf f (x + j) map
