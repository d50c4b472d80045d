-- The numbers of document 01's "Bytes" and of F-1, each under one name.
use Rattle.std.specs.Prelude.{ℕ, ◌+◌, ◌*◌, ◌-◌}

-- "Header, 16 bytes"
abbrev pub header_bytes : ℕ
header_bytes = 16

-- "inode count N (1 to 256)"
abbrev pub most_inodes : ℕ
most_inodes = 256

-- "block count B (store 1 to 1,024, image 1 to 4,096)"
abbrev pub most_store_blocks : ℕ
most_store_blocks = 1024

abbrev pub most_image_blocks : ℕ
most_image_blocks = 4096

-- "N attribute entries of 8 bytes"
abbrev pub attribute_bytes : ℕ
attribute_bytes = 8

-- "N address entries of 24 bytes: twelve 16-bit block numbers"
abbrev pub address_count : ℕ
address_count = 12

abbrev pub address_bytes : ℕ
address_bytes = 2 * address_count

-- both entries of an inode: "16 + 32 × N + 64 × B"
abbrev pub inode_bytes : ℕ
inode_bytes = attribute_bytes + address_bytes

-- "B blocks of 64 bytes"
abbrev pub block_bytes : ℕ
block_bytes = 64

-- "a block of 32 further 16-bit addresses"
abbrev pub further_count : ℕ
further_count = 32

-- the most blocks of an inode, its address block among them, from which the limits of a file, of a copy's image and of its steps follow
abbrev pub most_blocks : ℕ
most_blocks = address_count + further_count

-- "its twelfth names a block of 32 further 16-bit addresses"
abbrev pub address_place : ℕ
address_place = address_count - 1

-- "at or below 768 the layout is the present one"
abbrev pub most_direct_bytes : ℕ
most_direct_bytes = block_bytes * address_count

-- "the limit becomes 2,752 bytes": the address block holds no bytes of the file
abbrev pub most_file_bytes : ℕ
most_file_bytes = block_bytes * (most_blocks - 1)

-- "fewer than twelve blocks": the most that a directory takes, from which its slots and its size follow
abbrev pub most_directory_blocks : ℕ
most_directory_blocks = 12

-- "at most 768 bytes", for a directory
abbrev pub most_directory_bytes : ℕ
most_directory_bytes = block_bytes * most_directory_blocks

-- byte 8: "1 if complete, else 0"
abbrev pub is_complete : ℕ
is_complete = 1

abbrev pub not_complete : ℕ
not_complete = 0

-- "10-11 root, always 1"
abbrev pub root_inode : ℕ
root_inode = 1
