-- What a line prints, and what a whole script does.
use Rattle.std.specs.Prelude.{ℕ, ◌≡◌, true, List, [], ◌∷◌, ◌++◌, replicate}
use Rattle.blocks.specs.Block.{store_length}
use Rattle.desk.specs.Sizes.{desk_length}
use Rattle.sound.specs.Sound.{Sound, inodes_in}
use Rattle.sound.specs.declared.Form.TheVariants.{Image}
use Rattle.format.specs.Format.{lay_out_store, lay_out_desk}
use Rattle.checkpoint.specs.Live.{World, world}
use Rattle.script_listing.specs.Listing.{printed_text}
use Rattle.script_lines.specs.Lines.{script_lines}
use Rattle.script_run.specs.Reply.{line_runs, world_after}

-- "The `st` line in which a copy finishes, also one that ends in `no 15`, is followed by its listing": its answer, and the listing of what it leaves
unfoldable pub printed : List ℕ → World → List ℕ
printed l w =
    let r = line_runs l w in
    printed_text r.reply.answer r.reply.finished r.image r.desk

-- ---- a script, line by line: the buffers after it, and all that it prints
unfoldable pub lines_run : List (List ℕ) → World → World
lines_run [] w = w
lines_run (l ∷ ls) w = lines_run ls (world_after l w)

unfoldable pub lines_print : List (List ℕ) → World → List ℕ
lines_print [] w = []
lines_print (l ∷ ls) w = printed l w ++ lines_print ls (world_after l w)

-- "on a fresh store, N 16 and B 64, image 128 blocks"
abbrev pub script_inodes : ℕ
script_inodes = 16

abbrev pub script_blocks : ℕ
script_blocks = 64

abbrev pub script_image_blocks : ℕ
script_image_blocks = 128

-- whatever lines follow, the copy that a line finishes is sound and has 16 inodes, so that its listing can be printed
abbrev pub FinishesSound : World → Type 0
FinishesSound w =
    (ls : List (List ℕ)) (l : List ℕ) → (line_runs l (lines_run ls w)).reply.finished ≡ true
    → Sound Image (line_runs l (lines_run ls w)).image × (inodes_in (line_runs l (lines_run ls w)).image ≡ script_inodes)

unfoldable pub fresh : World
fresh =
    world (lay_out_store (replicate (store_length script_inodes script_blocks) 0) script_inodes script_blocks).buffer
    (replicate (store_length script_inodes script_image_blocks) 0)
    (lay_out_desk (replicate (desk_length script_inodes) 0) script_inodes).buffer

unfoldable pub script_prints : List ℕ → List ℕ
script_prints s = lines_print (script_lines s) fresh
