-- The store's bytes after an accepted write; a shortening's are `cut_to`. n and b are the counts of inodes and blocks.
use Rattle.std.specs.Prelude.{ℕ, List}
use Rattle.growth.specs.Extend.{extended}
use Rattle.content.specs.Content.{put_file}

-- the blocks and the size first, in one go, and then the bytes
unfoldable pub written : List ℕ → ℕ → ℕ → ℕ → ℕ → List ℕ → ℕ → List ℕ
written s n b i o xs z = put_file (extended s n b i z) n i o xs
