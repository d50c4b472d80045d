-- "A sound store": one definition for a store and a finished image, by their form.
use Rattle.std.specs.Prelude.{ℕ, ◌*◌, ◌≤◌, ◌<◌, ◌≡◌, Bool, true, false, List, length, get_or}
use Rattle.bounded.specs.Count.{count_to, Differ}
use Rattle.layout.specs.Sizes.{most_store_blocks, most_image_blocks, most_blocks, block_bytes, root_inode, is_complete}
use Rattle.layout.specs.Header.{header_of, header_rest_zero}
use Rattle.layout.specs.Inode.{kind_of, parent_of, directory_kind, inode_free}
use Rattle.blocks.specs.Block.{Allowed, block_of, row_of}
use Rattle.blocks.specs.Free.{block_free}
use Rattle.directory.specs.Slot.{most_slots}
use Rattle.sound.specs.Place.{filled}
use Rattle.sound.specs.Inode.{InodeSound}
use Rattle.sound.specs.Entry.{EntrySound}
use Rattle.sound.specs.Link.{LinkSound}
use Rattle.sound.specs.declared.Form.{Form}
use Rattle.sound.specs.declared.Form.TheVariants.{Store, Image}

-- the counts that the header tells
abbrev pub inodes_in : List ℕ → ℕ
inodes_in s = (header_of s).inodes

abbrev pub blocks_in : List ℕ → ℕ
blocks_in s = (header_of s).blocks

-- "block count B (store 1 to 1,024, image 1 to 4,096)"
abbrev pub limit_of : Form → ℕ
limit_of Store = most_store_blocks
limit_of Image = most_image_blocks

-- "Free blocks may hold anything in a store; in a finished image they are zero."
abbrev pub blank_of : Form → Bool
blank_of Store = false
blank_of Image = true

-- counts and length are right
abbrev pub Framed : Form → List ℕ → Type 0
Framed f s = Allowed (limit_of f) (inodes_in s) (blocks_in s) (length s)

pub record Sound (f : Form) (s : List ℕ) : Type 0 where
  -- "Header and length right, byte 8 is 1."
  pub framed : Framed f s
  pub complete : (header_of s).complete ≡ is_complete
  pub root_number : (header_of s).root ≡ root_inode
  pub reserved : header_rest_zero s ≡ true
  pub inodes : (i : ℕ) → 1 ≤ i → i ≤ inodes_in s → InodeSound s (inodes_in s) (blocks_in s) i
  -- "No block is named twice"
  pub once : Differ (row_of s (inodes_in s)) (most_blocks * inodes_in s)
  -- "root is a directory in use"; its parent is 0
  pub root : kind_of s root_inode ≡ directory_kind
  pub root_parent : parent_of s root_inode ≡ 0
  pub entries : (p : ℕ) → p < most_slots * inodes_in s → filled s (inodes_in s) p ≡ true → EntrySound s (inodes_in s) p
  pub links : (i : ℕ) → 1 ≤ i → i ≤ inodes_in s → LinkSound s (inodes_in s) i
  -- "The free counts are true."
  pub free_inodes : (header_of s).free_inodes ≡ count_to (inode_free s) (inodes_in s)
  pub free_blocks : (header_of s).free_blocks ≡ count_to (block_free s (inodes_in s)) (blocks_in s)
  -- "in a finished image they are zero": each block c that is free
  pub blanks : blank_of f ≡ true → (c : ℕ) → 1 ≤ c → c ≤ blocks_in s → block_free s (inodes_in s) c ≡ true → (o : ℕ) → o < block_bytes → get_or (block_of s (inodes_in s) c) o 0 ≡ 0
