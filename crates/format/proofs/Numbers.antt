-- The numbers of documents 01 and 02 that are reckoned from others, as they give them.
use mathlib.Core.Path.{◌≡◌, refl}
use Rattle.layout.specs.Sizes.{address_bytes, inode_bytes, most_blocks, most_direct_bytes, most_file_bytes, most_directory_bytes}
use Rattle.directory.specs.Slot.{most_slots}
use Rattle.desk.specs.Sizes.{steps_an_inode}

-- "address entries of 24 bytes"; "16 + 32 × N"; "44 blocks an inode"; "at or below 768"; "2,752 bytes"; a directory's 768; "at most 48"; "46 times the inode count"
pub paper_numbers : (address_bytes ≡ 24) × (inode_bytes ≡ 32) × (most_blocks ≡ 44) × (most_direct_bytes ≡ 768) × (most_file_bytes ≡ 2752) × (most_directory_bytes ≡ 768) × (most_slots ≡ 48) × (steps_an_inode ≡ 46)
paper_numbers = (refl, refl, refl, refl, refl, refl, refl, refl)
