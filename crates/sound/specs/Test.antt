-- Soundness as tests, condition by condition: what the check answers, and what decides the records on any bytes. n and b are the counts of inodes and blocks.
use Rattle.std.specs.Prelude.{ℕ, ◌*◌, ◌%◌, Bool, not, ◌&&◌, ◌||◌, List, eqb, leb, ltb, length, get_or}
use Rattle.bounded.specs.Below.{all_below, all_to}
use Rattle.bounded.specs.Count.{count_to, tally, differ_b}
use Rattle.bounded.specs.Climb.{leads_b}
use Rattle.layout.specs.Sizes.{most_blocks, block_bytes, root_inode, is_complete}
use Rattle.layout.specs.Header.{header_of, header_rest_zero}
use Rattle.layout.specs.Inode.{kind_of, spare_of, links_of, size_of, parent_of, free_kind, file_kind, directory_kind, inode_free}
use Rattle.blocks.specs.Block.{allowed, block_of, blocks_used, kth_block, row_of}
use Rattle.blocks.specs.Free.{block_free}
use Rattle.names.specs.Entry.{legal_entry}
use Rattle.directory.specs.Slot.{most_slots}
use Rattle.sound.specs.Place.{dir_of, slot_of, entry_at, filled, naming}
use Rattle.sound.specs.Inode.{most_bytes, tail_byte}
use Rattle.sound.specs.Entry.{same_names, sibling}
use Rattle.sound.specs.Sound.{inodes_in, blocks_in, limit_of, blank_of}
use Rattle.sound.specs.declared.Form.{Form}

-- ---- an inode by itself
abbrev pub used_b : List ℕ → ℕ → ℕ → ℕ → ℕ → Bool
used_b s n b i k = not (ltb k (blocks_used (size_of s i))) || (leb 1 (kth_block s n i k) && leb (kth_block s n i k) b)

abbrev pub rest_b : List ℕ → ℕ → ℕ → ℕ → Bool
rest_b s n i k = not (leb (blocks_used (size_of s i)) k) || eqb (kth_block s n i k) 0

abbrev pub tail_b : List ℕ → ℕ → ℕ → ℕ → Bool
tail_b s n i o = not (leb (size_of s i % block_bytes) o) || eqb (tail_byte s n i o) 0

unfoldable pub attributes_b : List ℕ → ℕ → Bool
attributes_b s i =
    leb (kind_of s i) directory_kind
    && (eqb (spare_of s i) 0
    && ((not (eqb (kind_of s i) free_kind) || (eqb (links_of s i) 0 && (eqb (size_of s i) 0 && eqb (parent_of s i) 0)))
    && (leb (size_of s i) (most_bytes (kind_of s i))
    && ((not (eqb (kind_of s i) directory_kind) || eqb (size_of s i % block_bytes) 0)
    && (not (eqb (kind_of s i) file_kind) || eqb (parent_of s i) 0)))))

unfoldable pub addresses_b : List ℕ → ℕ → ℕ → ℕ → Bool
addresses_b s n b i = all_below (λ k. used_b s n b i k && rest_b s n i k) most_blocks

unfoldable pub zero_tail_b : List ℕ → ℕ → ℕ → Bool
zero_tail_b s n i =
    not (eqb (kind_of s i) file_kind) || (eqb (size_of s i % block_bytes) 0 || all_below (tail_b s n i) block_bytes)

unfoldable pub inode_b : List ℕ → ℕ → ℕ → ℕ → Bool
inode_b s n b i = attributes_b s i && (addresses_b s n b i && zero_tail_b s n i)

-- ---- the entry at a place
unfoldable pub naming_b : List ℕ → ℕ → ℕ → Bool
naming_b s n p =
    legal_entry (entry_at s n p)
    && (leb 1 (naming s n p)
    && (leb (naming s n p) n
    && (not (eqb (kind_of s (naming s n p)) free_kind)
    && (not (eqb (naming s n p) root_inode)
    && (not (eqb (kind_of s (naming s n p)) directory_kind) || eqb (parent_of s (naming s n p)) (dir_of p))))))

unfoldable pub new_name_b : List ℕ → ℕ → ℕ → Bool
new_name_b s n p = all_below (λ t. not (filled s n (sibling p t)) || not (same_names s n (sibling p t) p)) (slot_of p)

unfoldable pub entry_b : List ℕ → ℕ → ℕ → Bool
entry_b s n p = not (filled s n p) || (naming_b s n p && new_name_b s n p)

-- ---- what the entries say of an inode; n steps up are enough
unfoldable pub counted_b : List ℕ → ℕ → ℕ → Bool
counted_b s n i =
    eqb (links_of s i) (tally (naming s n) (most_slots * n) i)
    && ((eqb (kind_of s i) free_kind || (eqb i root_inode || leb 1 (links_of s i)))
    && (not (eqb (kind_of s i) directory_kind) || (eqb i root_inode || eqb (links_of s i) 1)))

unfoldable pub lead_b : List ℕ → ℕ → ℕ → Bool
lead_b s n i = not (eqb (kind_of s i) directory_kind) || leads_b (parent_of s) root_inode n i

-- ---- the whole
unfoldable pub framed_b : Form → List ℕ → Bool
framed_b f s = allowed (limit_of f) (inodes_in s) (blocks_in s) (length s)

unfoldable pub header_b : List ℕ → Bool
header_b s =
    eqb (header_of s).complete is_complete
    && (eqb (header_of s).root root_inode
    && (header_rest_zero s
    && (eqb (kind_of s root_inode) directory_kind
    && eqb (parent_of s root_inode) 0)))

unfoldable pub free_counts_b : List ℕ → Bool
free_counts_b s =
    eqb (header_of s).free_inodes (count_to (inode_free s) (inodes_in s))
    && eqb (header_of s).free_blocks (count_to (block_free s (inodes_in s)) (blocks_in s))

-- block c is zero
unfoldable pub blank_block_b : List ℕ → ℕ → ℕ → Bool
blank_block_b s n c = all_below (λ o. eqb (get_or (block_of s n c) o 0) 0) block_bytes

unfoldable pub blanks_b : Form → List ℕ → Bool
blanks_b f s = not (blank_of f) || all_to (λ c. not (block_free s (inodes_in s) c) || blank_block_b s (inodes_in s) c) (blocks_in s)

-- what holds of a store whose length is right
unfoldable pub body_b : Form → List ℕ → Bool
body_b f s =
    header_b s
    && (all_to (inode_b s (inodes_in s) (blocks_in s)) (inodes_in s)
    && (differ_b (row_of s (inodes_in s)) (most_blocks * inodes_in s)
    && (all_below (entry_b s (inodes_in s)) (most_slots * inodes_in s)
    && (all_to (counted_b s (inodes_in s)) (inodes_in s)
    && (all_to (lead_b s (inodes_in s)) (inodes_in s)
    && (free_counts_b s
    && blanks_b f s))))))

-- "The check is told store or image, takes any bytes and answers yes or no."
unfoldable pub is_sound : Form → List ℕ → Bool
is_sound f s = framed_b f s && body_b f s
