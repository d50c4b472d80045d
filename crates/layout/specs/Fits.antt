-- What the code asks for before it reads or writes an inode. n is the inode count.
use Rattle.std.specs.Prelude.{ℕ, ◌+◌, ◌*◌, ◌≤◌, List, length}
use Rattle.layout.specs.Sizes.{header_bytes, inode_bytes, most_inodes}

-- n inodes lie inside of s
abbrev pub InodesFit : List ℕ → ℕ → Type 0
InodesFit s n = (n ≤ most_inodes) × (header_bytes + inode_bytes * n ≤ length s)

-- i is an inode of n, and the inodes lie inside of s
pub record InodeFits (s : List ℕ) (n i : ℕ) : Type 0 where
  pub low : 1 ≤ i
  pub high : i ≤ n
  pub few : n ≤ most_inodes
  pub area : header_bytes + inode_bytes * n ≤ length s
