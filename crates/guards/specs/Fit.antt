-- Parts of the paper's tests of the desk, as the code goes through them: what is told by its header alone, and what is a loop. n is the inode count, s the store, m the image.
use Rattle.std.specs.Prelude.{ℕ, ◌+◌, ◌*◌, Bool, not, ◌&&◌, ◌||◌, List, eqb, leb}
use Rattle.bounded.specs.Below.{all_to}
use Rattle.bounded.specs.Search.{pick}
use Rattle.layout.specs.Sizes.{most_image_blocks, most_blocks}
use Rattle.desk.specs.Sizes.{idle, running, steps_an_inode}
use Rattle.desk.specs.declared.Desk.{Desk}
use Rattle.desk.specs.Desk.{desk_of, copied_of}
use Rattle.checkpoint.specs.Fit.{is_running, desk_fits, image_fits}

-- "image block count (0 when idle, else 1 to 4,096)"
abbrev pub blocks_right : Desk → Bool
blocks_right h = pick (eqb h.state idle) (eqb h.blocks 0) (leb 1 h.blocks && leb h.blocks most_image_blocks)

-- "copied bytes (0 or 1)"
abbrev pub copied_right : List ℕ → ℕ → Bool
copied_right desk n = all_to (λ i. leb (copied_of desk i) 1) n

-- the opposite of "locked inode above N", more than most_blocks of its blocks copied, "fields 6-9 not zero unless running", steps above steps_an_inode × N + 1, or above steps_an_inode × N if running
abbrev pub counts_right : Desk → Bool
counts_right h =
    leb h.locked h.inodes
    && (leb h.transferred most_blocks
    && ((eqb h.state running || (eqb h.locked 0 && eqb h.transferred 0))
    && leb h.steps (pick (eqb h.state running) (steps_an_inode * h.inodes) (steps_an_inode * h.inodes + 1))))

-- no refusal 3, beside a store s of n inodes
abbrev pub notes_right : ℕ → List ℕ → List ℕ → List ℕ → Bool
notes_right n s m desk = desk_fits desk && (eqb (desk_of desk).inodes n && (not (is_running desk) || image_fits s m desk))
