-- What the passes over an image need of it: any bytes that refusal 3 lets through have it. n is the inode count.
use Rattle.std.specs.Prelude.{ℕ, ◌+◌, ◌*◌, ◌≤◌, ◌<◌, ◌≡◌, true, List, length}
use Rattle.layout.specs.Sizes.{header_bytes, inode_bytes, block_bytes, address_count, most_inodes, most_image_blocks}
use Rattle.layout.specs.Inode.{address_of}
use Rattle.desk.specs.declared.Desk.{Desk}
use Rattle.desk.specs.Next.{runs}

-- the inodes lie inside of m, and so does each block that an address names
pub record Addressed (m : List ℕ) (n : ℕ) : Type 0 where
  pub few : n ≤ most_inodes
  pub area : header_bytes + inode_bytes * n ≤ length m
  pub most : (x : ℕ) → x < address_count * n → address_of m n x ≤ most_image_blocks
  pub inside : (x : ℕ) → x < address_count * n → header_bytes + inode_bytes * n + block_bytes * address_of m n x ≤ length m

-- the calls read the image only while the copy runs: its direct addresses, all that a directory has, name blocks of it
abbrev pub Readable : List ℕ → Desk → ℕ → Type 0
Readable m h n = runs h ≡ true → Addressed m n
