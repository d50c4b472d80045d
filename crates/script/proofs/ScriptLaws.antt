-- Laws of one line: the buffers that it leaves, its text, and the fresh buffers.
use Prim.Native.Nat.{ℕ, ◌≤◌}
use mathlib.Core.Path.{◌≡◌, refl, sym, ap, ◌∙◌, subst}
use mathlib.Core.Bool.{true}
use mathlib.Core.List.{List, []}
use native.Mathlib.Omega.{arith}
use lib.ListN.{length, take, replicate}
use lib.Seq.{length-take-le}
use Rattle.text.specs.Put.{Put}
use Rattle.text.proofs.PutLaws.{put_length}
use Rattle.sound.specs.Sound.{Sound, inodes_in}
use Rattle.sound.specs.declared.Form.TheVariants.{Image}
use Rattle.format.specs.Format.{LaidOut, laid_out, lay_out_store, lay_out_desk}
use Rattle.script_listing.specs.Listing.{printed_text, most_printed, Listable}
use Rattle.checkpoint.specs.Live.{World, world}
use Rattle.script_run.specs.Reply.{Ran, ran, line_runs, world_after}
use Rattle.script_run.specs.Script.{printed, lines_run, FinishesSound, script_inodes, script_blocks, fresh}
use Rattle.script_run.specs.declared.Reply.{Reply}
use Rattle.script_run.proofs.PrintLaws.{printed_short}
use Rattle.answers.specs.Told.{Answer}

pub after_line : (l : List ℕ) (w : World) (r : Reply) (s m d : List ℕ) → ran r (world s m d) ≡ line_runs l w → world s m d ≡ world_after l w
after_line l w r s m d e = ap (λ (x : Ran). world x.store x.image x.desk) e

-- the text of what was run
pub printed_line : (l : List ℕ) (w : World) (r : Reply) (s m d : List ℕ) → ran r (world s m d) ≡ line_runs l w → printed_text r.answer r.finished m d ≡ printed l w
unfolding printed
printed_line l w r s m d e = ap (λ (x : Ran). printed_text x.reply.answer x.reply.finished x.image x.desk) e

-- the front of a buffer into which a line's text was put, up to where it ends, has the text's length
pub front_length : (l : List ℕ) (w : World) (s t u : List ℕ) (e : ℕ) → FinishesSound w → most_printed script_inodes ≤ length s → Put s 0 (printed l w) e t → u ≡ take e t → length u ≡ length (printed l w)
front_length l w s t u e h room p q =
    let k = put_length s t 0 e (printed l w) p in
    let cut = ap length q ∙ length-take-le e t (omega (arith, p.ends, k, room, printed_short l w h)) in
    omega (arith, cut, p.ends)

-- a copy that has finished in the line can be listed
pub finished_listable : (l : List ℕ) (w : World) (r : Reply) (s m d out : List ℕ) → FinishesSound w → most_printed script_inodes ≤ length out → ran r (world s m d) ≡ line_runs l w
    → r.finished ≡ true → Listable out m
unfolding lines_run
finished_listable l w r s m d out h room e f =
    let x = subst (λ (x : Ran). x.reply.finished ≡ true → Sound Image x.image × (inodes_in x.image ≡ script_inodes)) (sym e) (h [] l) f in
    let n = x.1 in
    record { sound = x.0; room = omega (arith, room) }

-- the fresh buffers are those that were laid out
pub laid_fresh : (s d t u : List ℕ) (a b : Answer) → s ≡ replicate 4624 0 → d ≡ replicate 160 0 → laid_out a t ≡ lay_out_store s script_inodes script_blocks → laid_out b u ≡ lay_out_desk d script_inodes
    → world t (replicate 8720 0) u ≡ fresh
unfolding fresh
laid_fresh s d t u a b p q e f = rw (ap (λ (o : LaidOut). o.buffer) e, ap (λ (o : LaidOut). o.buffer) f, p, q) refl
