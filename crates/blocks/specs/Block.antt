-- Blocks, numbered from 1, and which of them an inode uses. n is the inode count.
use Rattle.std.specs.Prelude.{ℕ, ◌+◌, ◌*◌, ◌-◌, ◌/◌, ◌%◌, ◌≤◌, min, ◌≡◌, Bool, ◌&&◌, List, eqb, leb, ltb, get_or, take, drop}
use Rattle.bounded.specs.Search.{pick}
use Rattle.octets.specs.Octets.{part, splice, zeroed, num_at, to_bytes, word_bytes}
use Rattle.layout.specs.Sizes.{header_bytes, inode_bytes, block_bytes, most_inodes, address_count, most_blocks, address_place, most_direct_bytes}
use Rattle.layout.specs.Inode.{kind_of, size_of, address_index, address_of, put_address, put_addresses, file_kind}

-- "Length is 16 + 32 × N + 64 × B exactly."
abbrev pub store_length : ℕ → ℕ → ℕ
store_length n b = header_bytes + inode_bytes * n + block_bytes * b

-- What refusal 1 asks of a store or an image: "inode count N (1 to 256); block count B (store 1 to 1,024, image 1 to 4,096)", and the length. limit is the most blocks, k the length.
pub record Allowed (limit n b k : ℕ) : Type 0 where
  pub some_inodes : 1 ≤ n
  pub most_inodes_lem : n ≤ most_inodes
  pub some_blocks : 1 ≤ b
  pub most_blocks_lem : b ≤ limit
  pub long : k ≡ store_length n b

-- the same as a test
unfoldable pub allowed : ℕ → ℕ → ℕ → ℕ → Bool
allowed limit n b k = leb 1 n && (leb n most_inodes && (leb 1 b && (leb b limit && eqb k (store_length n b))))

-- where block b starts
abbrev pub block_at : ℕ → ℕ → ℕ
block_at n b = header_bytes + inode_bytes * n + block_bytes * (b - 1)

unfoldable pub block_of : List ℕ → ℕ → ℕ → List ℕ
block_of s n b = part s (block_at n b) block_bytes

-- s with the bytes xs in block b, from its byte o on
unfoldable pub put_in_block : List ℕ → ℕ → ℕ → ℕ → List ℕ → List ℕ
put_in_block s n b o xs = splice s (block_at n b + o) xs

-- "A new block is zeroed first."
unfoldable pub zero_block : List ℕ → ℕ → ℕ → List ℕ
zero_block s n b = zeroed s (block_at n b) block_bytes

-- 1 if a size has an address block, else 0
abbrev pub extra : ℕ → ℕ
extra size = min 1 (size - most_direct_bytes)

-- "The address block counts as a block of its file."
unfoldable pub blocks_used : ℕ → ℕ
blocks_used size = (size + (block_bytes - 1)) / block_bytes + extra size

-- where the p-th block of bytes of a file of that size stands in the order
unfoldable pub bytes_place : ℕ → ℕ → ℕ
bytes_place size p = p + min (extra size) (p - (address_place - 1))

-- "A file above 768 bytes": it has an address block
unfoldable pub is_long : List ℕ → ℕ → Bool
is_long s i = eqb (kind_of s i) file_kind && ltb most_direct_bytes (size_of s i)

-- ---- reading
abbrev pub address_block : List ℕ → ℕ → ℕ → ℕ
address_block s n i = address_of s n (address_index i address_place)

-- further address j in block a, 0 where there is no such block
unfoldable pub further_of : List ℕ → ℕ → ℕ → ℕ → ℕ
further_of s n a j = pick (eqb a 0) 0 (num_at 2 s (block_at n a + 2 * j))

-- the k-th block of inode i, 0 for none; long: it has an address block
unfoldable pub kth_by : Bool → List ℕ → ℕ → ℕ → ℕ → ℕ
kth_by long s n i k =
    pick (ltb k address_count) (address_of s n (address_index i k))
    (pick long (further_of s n (address_block s n i) (k - address_count)) 0)

-- those of all inodes in a row: 44 for each; long tells which have an address block
unfoldable pub row_by : (ℕ → Bool) → List ℕ → ℕ → ℕ → ℕ
row_by long s n x = kth_by (long (x / most_blocks + 1)) s n (x / most_blocks + 1) (x % most_blocks)

-- ---- writing
-- block c is the k-th of inode i: "gains each image address as that block is copied"
unfoldable pub put_kth : List ℕ → ℕ → ℕ → ℕ → ℕ → List ℕ
put_kth s n i k c =
    pick (ltb k address_count) (put_address s n (address_index i k) c)
    (put_in_block s n (address_block s n i) (2 * (k - address_count)) (to_bytes 2 c))

-- the blocks of inode i are the list a of 44, 0 for none
unfoldable pub put_row : Bool → List ℕ → ℕ → ℕ → List ℕ → List ℕ
put_row long s n i a =
    let t = put_addresses s n i (take address_count a) in
    pick long (put_in_block t n (get_or a address_place 0) 0 (word_bytes (drop address_count a))) t

-- ---- a store or a finished image: an inode is long by its own size
abbrev pub kth_block : List ℕ → ℕ → ℕ → ℕ → ℕ
kth_block s n i k = kth_by (is_long s i) s n i k

abbrev pub row_of : List ℕ → ℕ → ℕ → ℕ
row_of s n x = row_by (is_long s) s n x

-- the p-th block of bytes of file i
abbrev pub bytes_block : List ℕ → ℕ → ℕ → ℕ → ℕ
bytes_block s n i p = kth_block s n i (bytes_place (size_of s i) p)
