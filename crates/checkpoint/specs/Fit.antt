-- Refusals 1 and 3: whether the buffers fit. s is the store, m the image.
use Rattle.std.specs.Prelude.{ℕ, ◌+◌, ◌*◌, ◌-◌, ◌/◌, Bool, not, ◌&&◌, ◌||◌, List, eqb, leb, length}
use Rattle.bounded.specs.Below.{all_below, all_to}
use Rattle.bounded.specs.Search.{pick}
use Rattle.layout.specs.Sizes.{most_image_blocks, address_count, header_bytes, inode_bytes, block_bytes, root_inode, not_complete, most_blocks}
use Rattle.layout.specs.Header.{header_of}
use Rattle.blocks.specs.Block.{store_length, allowed, is_long, address_block, row_by}
use Rattle.blocks.specs.Free.{long_but}
use Rattle.desk.specs.Sizes.{idle, running, stopped, desk_allowed, steps_an_inode}
use Rattle.desk.specs.Desk.{desk_of, copied_of, desk_rest_zero}
use Rattle.sound.specs.Sound.{inodes_in}
use Rattle.sound.specs.Test.{framed_b}
use Rattle.sound.specs.declared.Form.TheVariants.{Store}

-- the opposite of refusal 1's "a desk (by its own N) .. has no length or count allowed above"
unfoldable pub desk_framed : List ℕ → Bool
desk_framed desk = desk_allowed (desk_of desk).inodes (length desk)

-- "block count from the image's length"
unfoldable pub image_blocks : ℕ → ℕ → ℕ
image_blocks n k = (k - (header_bytes + inode_bytes * n)) / block_bytes

-- the opposite of refusal 1's "at start an image (by the store's N)", of k bytes
unfoldable pub image_allowed : ℕ → ℕ → Bool
image_allowed n k = allowed most_image_blocks n (image_blocks n k) k

-- the opposite of refusal 1: of a call on all three buffers, which looks at store and desk, and of a start
abbrev pub both_framed : List ℕ → List ℕ → Bool
both_framed s desk = framed_b Store s && desk_framed desk

abbrev pub all_framed : List ℕ → List ℕ → List ℕ → Bool
all_framed s m desk = both_framed s desk && image_allowed (inodes_in s) (length m)

-- the copy runs
unfoldable pub is_running : List ℕ → Bool
is_running desk = eqb (desk_of desk).state running

-- the paper's bound on accepted steps: "steps above 14 × N + 1, or above 14 × N if running" (F-1: 46 × N)
abbrev pub most_steps : List ℕ → ℕ
most_steps desk = pick (is_running desk) (steps_an_inode * (desk_of desk).inodes) (steps_an_inode * (desk_of desk).inodes + 1)

-- "image block count (0 when idle, else 1 to 4,096)"
unfoldable pub blocks_fit : List ℕ → Bool
blocks_fit desk = pick (eqb (desk_of desk).state idle) (eqb (desk_of desk).blocks 0) (leb 1 (desk_of desk).blocks && leb (desk_of desk).blocks most_image_blocks)

-- the opposite of refusal 3's "the desk otherwise breaks its layout"
unfoldable pub desk_fits : List ℕ → Bool
desk_fits desk =
    leb (desk_of desk).state stopped
    && (blocks_fit desk
    && (desk_rest_zero desk
    && (all_to (λ i. leb (copied_of desk i) 1) (desk_of desk).inodes
    && (leb (desk_of desk).locked (desk_of desk).inodes
    && (leb (desk_of desk).transferred most_blocks
    && ((is_running desk || (eqb (desk_of desk).locked 0 && eqb (desk_of desk).transferred 0))
    && leb (desk_of desk).steps (most_steps desk)))))))

-- "A file in the image has an address block by its image size, the locked inode by its store size."
abbrev pub image_long : List ℕ → List ℕ → List ℕ → ℕ → Bool
image_long s m desk = long_but m (desk_of desk).locked (is_long s (desk_of desk).locked)

-- "3 also comes when the locked inode's store size is above 768, 12 or more of its blocks are copied and its twelfth image address is 0."
unfoldable pub lacks_addresses : List ℕ → List ℕ → List ℕ → Bool
lacks_addresses s m desk =
    not (eqb (desk_of desk).locked 0)
    && (is_long s (desk_of desk).locked
    && (leb address_count (desk_of desk).transferred
    && eqb (address_block m (desk_of desk).inodes (desk_of desk).locked) 0))

-- the opposite of refusal 3's "while running, the image's length, N or block count differ from the desk's, its root is not 1, its byte 8 is not 0, or an address exceeds its block count", and of its lack of an address block
unfoldable pub image_fits : List ℕ → List ℕ → List ℕ → Bool
image_fits s m desk =
    eqb (length m) (store_length (desk_of desk).inodes (desk_of desk).blocks)
    && (eqb (header_of m).inodes (desk_of desk).inodes
    && (eqb (header_of m).blocks (desk_of desk).blocks
    && (eqb (header_of m).root root_inode
    && (eqb (header_of m).complete not_complete
    && (all_below (λ x. leb (row_by (image_long s m desk) m (desk_of desk).inodes x) (desk_of desk).blocks) (most_blocks * (desk_of desk).inodes)
    && not (lacks_addresses s m desk))))))

-- no refusal 3; "or is of another N"
unfoldable pub notes_fit : List ℕ → List ℕ → List ℕ → Bool
notes_fit s m desk = desk_fits desk && (eqb (desk_of desk).inodes (inodes_in s) && (not (is_running desk) || image_fits s m desk))
