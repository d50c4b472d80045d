-- What a line of a script does to the three buffers, and what it is answered.
use Rattle.std.specs.Prelude.{ℕ, zero, suc, ◌≡◌, Bool, false, ◌||◌, List, [], ◌∷◌, eqb, Result, Ok, Err}
use Rattle.bounded.specs.Search.{pick}
use Rattle.answers.specs.declared.Refusal.{Refusal}
use Rattle.answers.specs.Refusal.{refusal_number}
use Rattle.answers.specs.Told.{Told}
use Rattle.desk.specs.Desk.{desk_of}
use Rattle.checkpoint.specs.Live.{World, world}
use Rattle.checkpoint.specs.List.{advances, outcome, next, refusal_of, accepted, completes}
use Rattle.script_lines.specs.Ask.{Ask, event, stepping, none, ask_of}
use Rattle.script_run.specs.declared.Reply.{Reply}

-- `ok` or `no`, its number, and whether a copy has finished in the line
abbrev pub reply : Result ℕ ℕ → Bool → Reply
reply r f = record { answer = r; finished = f }

-- the reply, and the content of each buffer
pub record Ran : Type 0 where
  pub reply : Reply
  pub store : List ℕ
  pub image : List ℕ
  pub desk : List ℕ

abbrev pub ran : Reply → World → Ran
ran r w = record { reply = r; store = w.store; image = w.image; desk = w.desk }

-- ---- "Each prints `ok` with the new inode, new size (`wr`, `sh`), steps so far (`st`) or 0; or `no` and the number."
abbrev pub value_in : List ℕ → ℕ
value_in [] = 0
value_in (x ∷ xs) = x

-- what a call answers
abbrev pub reply_to : Told → Reply
reply_to t = reply (pick (eqb t.number 0) (Ok (value_in t.values)) (Err t.number)) false

-- "single steps; a refusal ends them and is printed": at most k more; f is whether a copy has finished in this line before
unfoldable pub stepped : ℕ → World → Bool → Ran
stepped zero w f = ran (reply (Ok (desk_of w.desk).steps) f) w
stepped (suc k) w f =
    pick (accepted advances w) (stepped k (next advances w) (f || completes advances w)) (ran (reply (Err (refusal_of advances w)) f) (next advances w))

-- "Any other line prints `no 0`."
abbrev pub answered : Ask → World → Ran
answered (event e) w = ran (reply_to (outcome e w).answer) (next e w)
answered (stepping k) w = stepped k w false
answered none w = ran (reply (Err 0) false) w

unfoldable pub line_runs : List ℕ → World → Ran
line_runs l w = answered (ask_of l) w

abbrev pub world_after : List ℕ → World → World
world_after l w = world (line_runs l w).store (line_runs l w).image (line_runs l w).desk

-- ---- a step by the code: its refusal, or whether it finished the copy
abbrev pub number_in : Result Bool Refusal → ℕ
number_in (Ok f) = 0
number_in (Err e) = refusal_number e

abbrev pub finished_in : Result Bool Refusal → Bool
finished_in (Ok f) = f
finished_in (Err e) = false

-- one step from w on left the image m and the desk
pub record Turned (t : Result Bool Refusal) (w : World) (m desk : List ℕ) : Type 0 where
  pub number : number_in t ≡ refusal_of advances w
  pub finished : finished_in t ≡ completes advances w
  pub after : next advances w ≡ world w.store m desk
