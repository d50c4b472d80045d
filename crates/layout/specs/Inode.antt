-- Inodes, numbered from 1: attributes and addresses, read and written. n is the inode count.
use Rattle.std.specs.Prelude.{ℕ, ◌+◌, ◌*◌, ◌-◌, Bool, ◌&&◌, List, ◌++◌, eqb, leb, replicate, Option}
use Rattle.octets.specs.Octets.{splice, num_at, to_bytes, put_num, word_bytes}
use Rattle.bounded.specs.Below.{all_below}
use Rattle.bounded.specs.Search.{first_from}
use Rattle.bounded.specs.Table.{table}
use Rattle.layout.specs.Sizes.{header_bytes, attribute_bytes, address_count}
use Rattle.layout.specs.declared.inode.Inode.{Inode}

-- ---- "N attribute entries of 8 bytes: kind, a zero byte, link count (2), size in bytes (2), parent directory (2)"
-- where those of inode i start
abbrev pub attributes_at : ℕ → ℕ
attributes_at i = header_bytes + attribute_bytes * (i - 1)

unfoldable pub kind_of : List ℕ → ℕ → ℕ
kind_of s i = num_at 1 s (attributes_at i)

-- the zero byte
unfoldable pub spare_of : List ℕ → ℕ → ℕ
spare_of s i = num_at 1 s (attributes_at i + 1)

unfoldable pub links_of : List ℕ → ℕ → ℕ
links_of s i = num_at 2 s (attributes_at i + 2)

unfoldable pub size_of : List ℕ → ℕ → ℕ
size_of s i = num_at 2 s (attributes_at i + 4)

unfoldable pub parent_of : List ℕ → ℕ → ℕ
parent_of s i = num_at 2 s (attributes_at i + 6)

unfoldable pub put_links : List ℕ → ℕ → ℕ → List ℕ
put_links s i v = put_num 2 s (attributes_at i + 2) v

unfoldable pub attribute_entry : Inode → List ℕ
attribute_entry v = to_bytes 1 v.kind ++ (to_bytes 1 0 ++ (to_bytes 2 v.links ++ (to_bytes 2 v.size ++ to_bytes 2 v.parent)))

unfoldable pub put_attributes : List ℕ → ℕ → Inode → List ℕ
put_attributes s i v = splice s (attributes_at i) (attribute_entry v)

-- ---- "then N address entries of 24 bytes: twelve 16-bit block numbers, 0 for none"
-- the addresses of all inodes in a row: address k of inode i has index address_index i k, from 0
abbrev pub address_index : ℕ → ℕ → ℕ
address_index i k = address_count * (i - 1) + k

abbrev pub address_at : ℕ → ℕ → ℕ
address_at n x = header_bytes + attribute_bytes * n + 2 * x

unfoldable pub address_of : List ℕ → ℕ → ℕ → ℕ
address_of s n x = num_at 2 s (address_at n x)

unfoldable pub put_address : List ℕ → ℕ → ℕ → ℕ → List ℕ
put_address s n x b = put_num 2 s (address_at n x) b

unfoldable pub addresses_of : List ℕ → ℕ → ℕ → List ℕ
addresses_of s n i = table (λ k. address_of s n (address_index i k)) address_count

unfoldable pub put_addresses : List ℕ → ℕ → ℕ → List ℕ → List ℕ
put_addresses s n i vs = splice s (address_at n (address_index i 0)) (word_bytes vs)

-- ---- both entries of an inode
unfoldable pub inode_of : List ℕ → ℕ → ℕ → Inode
inode_of s n i = record {
  kind = kind_of s i;
  links = links_of s i;
  size = size_of s i;
  parent = parent_of s i;
  addresses = addresses_of s n i;
}

unfoldable pub put_inode : List ℕ → ℕ → ℕ → Inode → List ℕ
put_inode s n i v = put_addresses (put_attributes s i v) n i v.addresses

-- "0 free, 1 file, 2 directory"
abbrev pub free_kind : ℕ
free_kind = 0

abbrev pub file_kind : ℕ
file_kind = 1

abbrev pub directory_kind : ℕ
directory_kind = 2

-- i is an inode of n, of kind k
unfoldable pub is_kind : List ℕ → ℕ → ℕ → ℕ → Bool
is_kind s n k i = leb 1 i && (leb i n && eqb (kind_of s i) k)

-- refusal 5: "a number that isn't the file or directory needed"
abbrev pub is_file : List ℕ → ℕ → ℕ → Bool
is_file s n i = is_kind s n file_kind i

abbrev pub is_directory : List ℕ → ℕ → ℕ → Bool
is_directory s n i = is_kind s n directory_kind i

-- inode i is free
abbrev pub inode_free : List ℕ → ℕ → Bool
inode_free s i = eqb (kind_of s i) free_kind

-- "A call takes the lowest free inode .. that it needs"
unfoldable pub free_inode : List ℕ → ℕ → Option ℕ
free_inode s n = first_from (inode_free s) 1 n

-- "all-zero attributes and addresses": both, each by itself
unfoldable pub attributes_zero : List ℕ → ℕ → Bool
attributes_zero s i = eqb (kind_of s i) 0 && (eqb (spare_of s i) 0 && (eqb (links_of s i) 0 && (eqb (size_of s i) 0 && eqb (parent_of s i) 0)))

unfoldable pub addresses_zero : List ℕ → ℕ → ℕ → Bool
addresses_zero s n i = all_below (λ k. eqb (address_of s n (address_index i k)) 0) address_count

-- an inode of kind k with no links, no bytes, no parent and no blocks
abbrev pub empty_inode : ℕ → Inode
empty_inode k = record { kind = k; links = 0; size = 0; parent = 0; addresses = replicate address_count 0 }

-- "attributes and addresses become zero"
unfoldable pub zero_inode : Inode
zero_inode = empty_inode free_kind

-- v with another link count, with another size, with other blocks too, and with another parent
abbrev pub with_links : Inode → ℕ → Inode
with_links v k = record { kind = v.kind; links = k; size = v.size; parent = v.parent; addresses = v.addresses }

abbrev pub with_size : Inode → ℕ → Inode
with_size v z = record { kind = v.kind; links = v.links; size = z; parent = v.parent; addresses = v.addresses }

abbrev pub with_blocks : Inode → ℕ → List ℕ → Inode
with_blocks v z a = record { kind = v.kind; links = v.links; size = z; parent = v.parent; addresses = a }

abbrev pub with_parent : Inode → ℕ → Inode
with_parent v d = record { kind = v.kind; links = v.links; size = v.size; parent = d; addresses = v.addresses }
