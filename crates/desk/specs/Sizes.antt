-- "Desk, 16 + 9 × N bytes"
use Rattle.std.specs.Prelude.{ℕ, ◌+◌, ◌*◌, ◌-◌, Bool, ◌&&◌, eqb, leb}
use Rattle.layout.specs.Sizes.{most_inodes, most_blocks}

abbrev pub desk_header_bytes : ℕ
desk_header_bytes = 16

-- a copied byte and an 8-byte mark word for each inode
abbrev pub desk_inode_bytes : ℕ
desk_inode_bytes = 9

abbrev pub mark_bytes : ℕ
mark_bytes = 8

abbrev pub desk_length : ℕ → ℕ
desk_length n = desk_header_bytes + desk_inode_bytes * n

-- what refusal 1 asks of a desk: N is 1 to 256, and the length k is its own
unfoldable pub desk_allowed : ℕ → ℕ → Bool
desk_allowed n k = leb 1 n && (leb n most_inodes && eqb k (desk_length n))

-- F-1, "46 times the inode count": a lock, a step for each block and a close
abbrev pub steps_an_inode : ℕ
steps_an_inode = most_blocks + 2

-- "Then N copied bytes (0 or 1) and, in parallel, N 8-byte mark words": where those of inode i stand
abbrev pub copied_at : ℕ → ℕ
copied_at i = desk_header_bytes + (i - 1)

abbrev pub marks_at : ℕ → ℕ → ℕ
marks_at n i = desk_header_bytes + n + mark_bytes * (i - 1)

-- "4 state (0 idle, 1 running, 2 finished, 3 stopped)"
abbrev pub idle : ℕ
idle = 0

abbrev pub running : ℕ
running = 1

abbrev pub finished : ℕ
finished = 2

abbrev pub stopped : ℕ
stopped = 3
