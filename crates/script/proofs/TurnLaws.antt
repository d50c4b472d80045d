-- The turns of the loop over a script's lines: what holds at each place, and that it holds at the next.
use Rattle.std.proofs.Common.{ℕ, ◌+◌, ◌-◌, ◌*◌, ◌^◌, ◌≤◌, ◌<◌, ◌≡◌, refl, sym, ap, ◌∙◌, List, ◌∷◌, arith, length, drop, length-append}
use lib.Seq.{take_all}
use Rattle.script_lines.specs.Lines.{lines_in, line_at, next_at, most_script_bytes, script_lines}
use Rattle.script_lines.proofs.LineLaws.{lines_first, lines_end, next_later, next_within}
use Rattle.checkpoint.specs.Live.{World}
use Rattle.script_run.specs.Reply.{world_after}
use Rattle.script_run.specs.Script.{printed, lines_run, lines_print, FinishesSound, script_inodes, fresh, script_prints}
use Rattle.script_run.proofs.FinishLaws.{fresh_finishes}
use Rattle.script_run.proofs.PrintLaws.{printed_short, prints_all, prints_line, prints_none}
use Rattle.script_listing.specs.Listing.{most_printed}

-- whatever follows the line, a copy that finishes is sound
pub later_sound : (l : List ℕ) (w v : World) → v ≡ world_after l w → FinishesSound w → FinishesSound v
unfolding lines_run
later_sound l w v e h = rw e (λ ls. h (l ∷ ls))

-- a line in its turn
pub line_turn : (s : List ℕ) (at : ℕ) (w v : World) → at < length s → v ≡ world_after (line_at s at) w → lines_run (lines_in (drop at s)) w ≡ lines_run (lines_in (drop (next_at s at) s)) v
unfolding lines_run
line_turn s at w v l h = rw (lines_first s at l, h) refl

all_run : (s : List ℕ) (at : ℕ) (w : World) → length s ≤ at → lines_run (lines_in (drop at s)) w ≡ w
unfolding lines_run
all_run s at w l = rw (lines_end s at l) refl

-- all of a script that was read, on the fresh buffers
whole_script : (s : List ℕ) (w : World) → length s ≤ most_script_bytes → w ≡ fresh → lines_run (lines_in s) w ≡ lines_run (script_lines s) fresh
unfolding script_lines
whole_script s w l e = rw (e, take_all most_script_bytes s l) refl

-- how many bytes are left to print from a place on, and b that are printed: a line in its turn
pub line_bytes : (s : List ℕ) (at : ℕ) (w v : World) (b r : ℕ) → at < length s → v ≡ world_after (line_at s at) w → r ≡ length (printed (line_at s at) w)
    → length (lines_print (lines_in (drop at s)) w) + b ≡ length (lines_print (lines_in (drop (next_at s at) s)) v) + (b + r)
line_bytes s at w v b r l e f =
    let l₀ = line_at s at in
    let p = ap length (prints_line s at w l) ∙ length-append (printed l₀ w) (lines_print (lines_in (drop (next_at s at) s)) (world_after l₀ w)) in
    rw (e, f) (omega (arith, p))

-- at the end all are printed
all_bytes : (s : List ℕ) (at b : ℕ) (w v : World) → length s ≤ at → length s ≤ most_script_bytes → w ≡ fresh
    → length (lines_print (lines_in (drop 0 s)) w) ≡ length (lines_print (lines_in (drop at s)) v) + b → b ≡ length (script_prints s)
all_bytes s at b w v l m e h =
    let none = ap length (prints_none s at v l) in
    let all = ap length (prints_all s m) in
    let same = ap (λ (x : World). length (lines_print (lines_in (drop 0 s)) x)) e in
    omega (arith, h, none, all, same)

-- no turn prints more than a line can
abbrev pub Few : ℕ → ℕ → Type 0
Few b at = b ≤ most_printed script_inodes * at

few_more : (b r at next : ℕ) → Few b at → r ≤ most_printed script_inodes → at < next → Few (b + r) next
few_more b r at next h k l = omega arith

few_fits : (b at n : ℕ) → Few b at → at ≤ n + 1 → n ≤ most_script_bytes → b < 2 ^ 64
few_fits b at n h k l = omega arith

-- s is the script, and w the buffers before its first line; `at` is a place, v the buffers as the lines before it leave them, and b the bytes that those print
pub record Turn (s : List ℕ) (w : World) (at : ℕ) (v : World) (b : ℕ) : Type 0 where
  pub within : at ≤ length s + 1
  pub runs : lines_run (lines_in s) w ≡ lines_run (lines_in (drop at s)) v
  pub sound : FinishesSound v
  pub few : Few b at
  pub sums : length (lines_print (lines_in (drop 0 s)) w) ≡ length (lines_print (lines_in (drop at s)) v) + b

module _ (s : List ℕ) (w : World) where
  pub turn_first : FinishesSound w → Turn s w 0 w 0
  turn_first h = record { within = omega arith; runs = refl; sound = h; few = omega arith; sums = omega arith }

  module _ (at : ℕ) (v : World) (b : ℕ) (t : Turn s w at v b) where
    more_few : at < length s → (r : ℕ) → r ≡ length (printed (line_at s at) v) → Few (b + r) (next_at s at)
    more_few l r f = few_more b r at (next_at s at) t.few (rw f (printed_short (line_at s at) v t.sound)) (next_later s at l)

    pub turn_next : at < length s → (u : World) → u ≡ world_after (line_at s at) v → (r : ℕ) → r ≡ length (printed (line_at s at) v) → Turn s w (next_at s at) u (b + r)
    turn_next l u e r f = record {
      within = next_within s at l;
      runs = t.runs ∙ line_turn s at _ _ l e;
      sound = later_sound _ _ _ e t.sound;
      few = more_few l r f;
      sums = t.sums ∙ line_bytes s at _ _ b r l e f;
    }

    pub more_fits : at < length s → length s ≤ most_script_bytes → (r : ℕ) → r ≡ length (printed (line_at s at) v) → b + r < 2 ^ 64
    more_fits l m r f = few_fits (b + r) (next_at s at) (length s) (more_few l r f) (next_within s at l) m

    pub turn_last : length s ≤ at → length s ≤ most_script_bytes → w ≡ fresh → v ≡ lines_run (script_lines s) fresh
    turn_last l m e = sym (t.runs ∙ all_run s at _ l) ∙ whole_script s _ m e

    pub bytes_last : length s ≤ at → length s ≤ most_script_bytes → w ≡ fresh → b ≡ length (script_prints s)
    bytes_last l m e = all_bytes s at b _ _ l m e t.sums

pub turn_begun : (s : List ℕ) (w : World) (n : ℕ) → n ≡ 0 → w ≡ fresh → Turn s w n w 0
turn_begun s w n z e = rw z (turn_first s w (rw e fresh_finishes))

-- ---- the reader holds q, which is the script s; l is the line at its place
module _ (s q l : List ℕ) (at : ℕ) (p : q ≡ s) (h : l ≡ line_at q at) (m : at < length s) where
  same_line : l ≡ line_at s at
  same_line = h ∙ ap (λ (x : List ℕ). line_at x at) p

  module _ (w v : World) (b r : ℕ) (t : Turn s w at v b) (f : r ≡ length (printed l v)) where
    same_bytes : r ≡ length (printed (line_at s at) v)
    same_bytes = f ∙ ap (λ (x : List ℕ). length (printed x v)) same_line

    pub sum_fits : length s ≤ most_script_bytes → b + r < 2 ^ 64
    sum_fits k = more_fits s w at v b t m k r same_bytes

    pub turn_more : (u : World) → u ≡ world_after l v → (n : ℕ) → n ≡ next_at q at → Turn s w n u (b + r)
    turn_more u e n g = rw (g, p) (turn_next s w at v b t m u (e ∙ ap (λ (x : List ℕ). world_after x v) same_line) r same_bytes)

  pub nearer : (n : ℕ) → n ≡ next_at q at → length s + 1 - n < length s + 1 - at
  nearer n g = let k = next_later s at m in rw (g, p) (omega (arith, k))
