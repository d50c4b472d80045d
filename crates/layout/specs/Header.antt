-- The header of a store or an image: its fields read and written.
use Rattle.std.specs.Prelude.{ℕ, ◌+◌, ◌-◌, Bool, ◌&&◌, List, eqb}
use Rattle.octets.specs.Octets.{num_at, put_num}
use Rattle.layout.specs.declared.header.Header.{Header}
use Rattle.layout.specs.declared.header.Counts.{Counts}

abbrev pub counts : ℕ → ℕ → Counts
counts n b = record { inodes = n; blocks = b }

-- "0-1 inode count N; 2-3 block count B; 4-5 free inodes; 6-7 free blocks; 8 is 1 if complete, else 0; 10-11 root"
unfoldable pub header_of : List ℕ → Header
header_of s = record {
  inodes = num_at 2 s 0;
  blocks = num_at 2 s 2;
  free_inodes = num_at 2 s 4;
  free_blocks = num_at 2 s 6;
  complete = num_at 1 s 8;
  root = num_at 2 s 10;
}

-- the free counts alone, and byte 8 alone
unfoldable pub put_free : List ℕ → ℕ → ℕ → List ℕ
put_free s i b = put_num 2 (put_num 2 s 4 i) 6 b

-- i inodes and b blocks fewer are free, or more
unfoldable pub less_free : List ℕ → ℕ → ℕ → List ℕ
less_free s i b = put_free s ((header_of s).free_inodes - i) ((header_of s).free_blocks - b)

unfoldable pub more_free : List ℕ → ℕ → ℕ → List ℕ
more_free s i b = put_free s ((header_of s).free_inodes + i) ((header_of s).free_blocks + b)

unfoldable pub put_complete : List ℕ → ℕ → List ℕ
put_complete s v = put_num 1 s 8 v

-- all the fields; bytes 9 and 12 to 15 stay
unfoldable pub put_header : List ℕ → Header → List ℕ
put_header s h =
    put_num 2 (put_complete (put_free (put_num 2 (put_num 2 s 0 h.inodes) 2 h.blocks) h.free_inodes h.free_blocks) h.complete) 10 h.root

-- "the rest 0": bytes 9 and 12 to 15
unfoldable pub header_rest_zero : List ℕ → Bool
header_rest_zero s = eqb (num_at 1 s 9) 0 && eqb (num_at 4 s 12) 0
