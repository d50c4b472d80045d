-- What a line prints: how long it can be, that it is never nothing, and that the lines' texts, one after the other, are all that a script prints.
use Prim.Native.Nat.{ℕ, ◌≤◌, ◌<◌}
use mathlib.Core.Path.{◌≡◌, refl}
use mathlib.Core.List.{List, [], ◌++◌}
use native.Mathlib.Omega.{arith}
use lib.ListN.{length, drop, length-append}
use lib.Seq.{take_all}
use Rattle.bounded.specs.Search.{pick}
use Rattle.text.specs.Letters.{letters}
use Rattle.script_listing.specs.Listing.{most_printed, word_text, reply_text, printed_text, listing}
use Rattle.script_listing.proofs.LengthLaws.{printed_most}
use Rattle.checkpoint.specs.Live.{World}
use Rattle.script_lines.specs.Lines.{lines_in, line_at, next_at, most_script_bytes, script_lines}
use Rattle.script_lines.proofs.LineLaws.{lines_first, lines_end}
use Rattle.script_run.specs.Reply.{line_runs, world_after}
use Rattle.script_run.specs.Script.{printed, lines_run, lines_print, FinishesSound, script_inodes, fresh, script_prints}

pub printed_short : (l : List ℕ) (w : World) → FinishesSound w → length (printed l w) ≤ most_printed script_inodes
unfolding printed lines_run
printed_short l w h =
    let r = line_runs l w in
    printed_most r.reply.answer r.reply.finished r.image r.desk script_inodes (λ e. (h [] l e).1)

-- its answer ends a line, so no line prints nothing
pub printed_some : (l : List ℕ) (w : World) → 0 < length (printed l w)
unfolding printed printed_text reply_text
printed_some l w =
    let r = line_runs l w in
    let answer = length-append (word_text r.reply.answer) (letters "\n") in
    let all = length-append (reply_text r.reply.answer) (pick r.reply.finished (listing r.image r.desk) []) in
    omega (arith, answer, all)

-- ---- all that the lines from a place on print: at the start of a script that was read, the whole script's; then the line's text, and what is left behind it; at the end, nothing
pub prints_all : (s : List ℕ) → length s ≤ most_script_bytes → script_prints s ≡ lines_print (lines_in (drop 0 s)) fresh
unfolding script_prints script_lines
prints_all s l = rw (take_all most_script_bytes s l) refl

pub prints_line : (s : List ℕ) (at : ℕ) (w : World) → at < length s
    → lines_print (lines_in (drop at s)) w ≡ printed (line_at s at) w ++ lines_print (lines_in (drop (next_at s at) s)) (world_after (line_at s at) w)
unfolding lines_print
prints_line s at w l = rw (lines_first s at l) refl

pub prints_none : (s : List ℕ) (at : ℕ) (w : World) → length s ≤ at → lines_print (lines_in (drop at s)) w ≡ []
unfolding lines_print
prints_none s at w l = rw (lines_end s at l) refl
