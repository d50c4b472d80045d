-- "The copier": start, and the five things that a step does. s is the store, m the image, n the inode count.
use Rattle.std.specs.Prelude.{ℕ, zero, suc, ◌+◌, ◌*◌, Bool, not, ◌&&◌, List, eqb, leb, ltb, replicate, Option, Some}
use Rattle.bounded.specs.Search.{pick, first_from, on_found}
use Rattle.bounded.specs.Count.{tally, count_to}
use Rattle.octets.specs.Octets.{part, splice}
use Rattle.layout.specs.Sizes.{root_inode, is_complete, not_complete, address_place, block_bytes}
use Rattle.layout.specs.Header.{put_header, put_free, put_complete}
use Rattle.layout.specs.Inode.{kind_of, size_of, inode_of, put_attributes, put_links, directory_kind, with_links, inode_free}
use Rattle.blocks.specs.Block.{block_of, put_in_block, blocks_used, is_long, kth_block, put_kth}
use Rattle.blocks.specs.Free.{named_by, lowest_by, long_but, block_free}
use Rattle.names.specs.Entry.{entry_bytes, entry_inode}
use Rattle.directory.specs.Slot.{most_slots, slots_in_block}
use Rattle.desk.specs.Desk.{desk_of, put_desk, put_copied, mark_of, clear_notes, is_copied}
use Rattle.desk.specs.Next.{starting, locking, copying_one, unlocking, finishing, stopping}
use Rattle.checkpoint.specs.Fit.{image_blocks}
use Rattle.checkpoint.specs.Image.{image_naming, inode_named}

-- ---- Start
-- "the image's header (the store's N, block count from the image's length, root 1, the rest 0)", and all zero after it
unfoldable pub start_image : ℕ → ℕ → List ℕ
start_image n k = put_header (replicate k 0) (record { inodes = n; blocks = image_blocks n k; free_inodes = 0; free_blocks = 0; complete = not_complete; root = root_inode })

-- "zeroes marks, copied bytes and steps, and sets the desk's block count and running"
unfoldable pub start_desk : List ℕ → ℕ → ℕ → List ℕ
start_desk desk n b = put_desk (clear_notes desk n) (starting (desk_of desk) b)

-- ---- What a step does
pub data Step : Type 0 where
  lock : (i : ℕ) → Step
  copy : (i k c : ℕ) → Step
  close : (i : ℕ) → Step
  finish : Step
  full : Step

-- 2: "some uncopied inode is named by an image directory of kind 2: lock the lowest such"
unfoldable pub next_inode : List ℕ → List ℕ → ℕ → Option ℕ
next_inode m desk n = first_from (λ i. not (is_copied desk n i) && inode_named m n i) 1 n

-- 3: "It goes to the image block of its own number if that exists and no image address names it, else to the lowest block unnamed"
-- long tells which inodes of the image have an address block
unfoldable pub target_block : (ℕ → Bool) → List ℕ → ℕ → ℕ → ℕ → Option ℕ
target_block long m n b c = pick (leb 1 c && (leb c b && not (named_by long m n c))) (Some c) (lowest_by long m n b)

-- 3 and 4: inode i is locked, k of its blocks are copied; 16 where every image block is named
unfoldable pub locked_step : List ℕ → List ℕ → ℕ → ℕ → ℕ → ℕ → Step
locked_step s m n b i k =
    pick (ltb k (blocks_used (size_of s i)))
    (on_found (target_block (long_but m i (is_long s i)) m n b (kth_block s n i k)) (λ c. copy i k c) full)
    (close i)

-- 1, 2 and 5: nothing is locked
unfoldable pub free_step : List ℕ → List ℕ → ℕ → Step
free_step m desk n = pick (is_copied desk n root_inode) (on_found (next_inode m desk n) lock finish) (lock root_inode)

unfoldable pub step_of : List ℕ → List ℕ → List ℕ → ℕ → Step
step_of s m desk n =
    pick (eqb (desk_of desk).locked 0) (free_step m desk n) (locked_step s m n (desk_of desk).blocks (desk_of desk).locked (desk_of desk).transferred)

-- ---- The image and the desk after it
-- "In a directory block, a marked entry that names a copied inode is zeroed": the bytes x of entry j of the k-th block of directory i
unfoldable pub copied_entry : List ℕ → ℕ → ℕ → ℕ → List ℕ → ℕ → List ℕ
copied_entry desk n i k x j =
    let e = part x (entry_bytes * j) entry_bytes in
    pick (mark_of desk n i (slots_in_block * k + j) && is_copied desk n (entry_inode e)) (splice x (entry_bytes * j) (replicate entry_bytes 0)) x

unfoldable pub copied_entries : List ℕ → ℕ → ℕ → ℕ → List ℕ → ℕ → List ℕ
copied_entries desk n i k x zero = x
copied_entries desk n i k x (suc j) = copied_entry desk n i k (copied_entries desk n i k x j) j

-- the block as it is copied; of an address block: "it starts zeroed in the image and gains each image address as that block is copied"
unfoldable pub copied_block : List ℕ → List ℕ → ℕ → ℕ → ℕ → List ℕ
copied_block s desk n i k =
    let x = block_of s n (kth_block s n i k) in
    pick (is_long s i && eqb k address_place) (replicate block_bytes 0) (pick (eqb (kind_of s i) directory_kind) (copied_entries desk n i k x slots_in_block) x)

-- 5: "write link counts and free counts": those of the first k inodes
unfoldable pub put_counts : List ℕ → List ℕ → ℕ → ℕ → List ℕ
put_counts m t n zero = t
put_counts m t n (suc k) = put_links (put_counts m t n k) (k + 1) (tally (image_naming m n) (most_slots * n) (k + 1))

unfoldable pub finish_image : List ℕ → ℕ → ℕ → List ℕ
finish_image m n b = put_complete (put_free (put_counts m m n n) (count_to (inode_free m) n) (count_to (block_free m n) b)) is_complete

-- 4: "the image attributes, which are the store's with link count 0"
abbrev pub step_image : List ℕ → List ℕ → List ℕ → ℕ → Step → List ℕ
step_image s m desk n (lock i) = m
step_image s m desk n (copy i k c) = put_kth (put_in_block m n c 0 (copied_block s desk n i k)) n i k c
step_image s m desk n (close i) = put_attributes m i (with_links (inode_of s n i) 0)
step_image s m desk n finish = finish_image m n (desk_of desk).blocks
step_image s m desk n full = m

abbrev pub step_desk : List ℕ → Step → List ℕ
step_desk desk (lock i) = put_desk desk (locking (desk_of desk) i)
step_desk desk (copy i k c) = put_desk desk (copying_one (desk_of desk))
step_desk desk (close i) = put_desk (put_copied desk i 1) (unlocking (desk_of desk))
step_desk desk finish = put_desk desk (finishing (desk_of desk))
step_desk desk full = put_desk desk (stopping (desk_of desk))
