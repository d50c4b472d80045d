-- The demands (their quotes are the customer's) as one claim about lists: what a theorem is to inhabit.
-- xs are the calls after an accepted start, which left the world w; rs is what their callers got, and u the world that they leave.
-- "in demand 3's list the call stands for the single steps it tried": singles xs w is that list.
use Rattle.std.specs.Prelude.{ℕ, ◌+◌, ◌*◌, ◌≤◌, ◌<◌, ◌≡◌, true, false, List, ◌++◌, ◌⊎◌, eqb, Err, Ok}
use Rattle.bounded.specs.Search.{pick}
use Rattle.layout.specs.Sizes.{is_complete, not_complete}
use Rattle.layout.specs.Header.{header_of}
use Rattle.directory.specs.Slot.{most_slots}
use Rattle.desk.specs.Sizes.{running, finished, stopped, steps_an_inode}
use Rattle.desk.specs.Desk.{desk_of}
use Rattle.answers.specs.declared.Refusal.TheVariants.{BadBuffer, UnsoundStore, BadDesk, WrongState, ImageFull, BadCount}
use Rattle.answers.specs.Refusal.{refusal_number}
use Rattle.answers.specs.Told.{Told, told}
use Rattle.files.specs.Plain.{Received}
use Rattle.checkpoint.specs.Fit.{is_running}
use Rattle.checkpoint.specs.Live.{World, world_in, told_status, standing}
use Rattle.checkpoint.specs.List.{Event, asks, starts, advances, outcome, next, refusal_of, accepted, run, Finish, accepted_steps, state_after, plain_run, plain_replies}
use Rattle.checkpoint.specs.Burst.{count_allowed, burst, Act, singles}
use Rattle.checkpoint.specs.Finished.{count_of, Finished}
use Rattle.checkpoint.specs.Progress.{Refusals, Takes, Progress, no_restart, Roomy, Timing, Calls, Stays, Opens}
use Rattle.watch.specs.Received.{received, steps_told, heard, replies, steps_asked}

-- "the copy's accepted steps are the number that the state question reports, and at most 14 times the inode count, plus 1" (F-1: 46 times); the state that it reports is the one that the answers tell, and so is byte 8
pub record Reported (xs : List Act) (w : World) (rs : List Received) (u : World) : Type 0 where
  pub reports : (outcome asks u).answer ≡ told_status (Ok (standing (state_after (singles xs w) w running) (desk_of u.desk).locked (steps_told xs rs 0)))
  -- these are the accepted ones among the single steps that the list stands for
  pub steps : steps_told xs rs 0 ≡ accepted_steps (singles xs w) w 0
  pub bound : steps_told xs rs 0 ≤ steps_an_inode * count_of w + 1
  pub byte : (header_of u.image).complete ≡ pick (eqb (state_after (singles xs w) w running) finished) is_complete not_complete
  -- no call changes the inode count
  pub count : count_of u ≡ count_of w

-- "The store's bytes and every file call's answer are exactly those of a plain store without a copier, given the same file calls in the same order, the ones refused as busy left out."
pub record AsPlain (xs : List Act) (w : World) (rs : List Received) (u : World) : Type 0 where
  pub store : u.store ≡ plain_run (heard xs rs) w.store
  pub answers : replies xs rs ≡ plain_replies (heard xs rs) w.store

-- after as many steps as a copy can take were asked for, singly or in bursts, it is finished or stopped; with 44 × N image blocks it is finished
pub record GetsDone (xs : List Act) (w u : World) : Type 0 where
  pub ended : no_restart (singles xs w) w ≡ true → steps_an_inode * count_of w + 1 ≤ steps_asked xs → ((desk_of u.desk).state ≡ finished) ⊎ ((desk_of u.desk).state ≡ stopped)
  pub complete : Roomy w → no_restart (singles xs w) w ≡ true → steps_an_inode * count_of w + 1 ≤ steps_asked xs → ((desk_of u.desk).state ≡ finished) × ((header_of u.image).complete ≡ is_complete)

-- a burst of k steps as the next call: it answers a, and leaves v
pub record NextBurst (k : ℕ) (w u : World) (a : Told) (v : World) : Type 0 where
  -- 1 to 3 never come
  pub buffers : a.number ≡ refusal_number BadBuffer → ⊥
  pub store : a.number ≡ refusal_number UnsoundStore → ⊥
  pub desk : a.number ≡ refusal_number BadDesk → ⊥
  -- "17 when the number of steps is outside 1 to 64", and only then
  pub wrong : count_allowed k ≡ false → a ≡ told (Err BadCount)
  pub allowed : count_allowed k ≡ true → a.number ≡ refusal_number BadCount → ⊥
  -- "15 .. step while not"
  pub late : count_allowed k ≡ true → is_running u.desk ≡ false → a ≡ told (Err WrongState)
  -- fewer steps than were asked for, or none, only where the copy runs no more
  pub all : count_allowed k ≡ true → is_running v.desk ≡ true → a ≡ told (Ok k)
  -- "With 12 × N image blocks or more, 16 never comes in a run." (F-1: 44 × N)
  pub never_full : Roomy w → a.number ≡ refusal_number ImageFull → ⊥

-- ---- all demands, of one list
pub record Demand (xs : List Act) (w : World) (rs : List Received) (u : World) : Type 0 where
  -- "If the copy finishes": the list may go on after the finish. fs are its events up to the finish, and until a start is accepted the copy stays.
  pub finished : (fs gs : List Event) → singles xs w ≡ fs ++ gs → Finish fs w → no_restart gs (run fs w) ≡ true → Finished fs w u.image u.desk
  pub stays : Stays (singles xs w) w
  -- "Finished or not"
  pub reported : Reported xs w rs u
  pub as_plain : AsPlain xs w rs u
  pub done : GetsDone xs w u
  -- the next call
  pub refusals : (e : Event) → Refusals e u
  pub takes : (e : Event) (p : ℕ) → p < most_slots * count_of w → Takes e u p
  pub calls : Calls u
  pub timing : Timing u
  pub progress : Progress u
  pub bursts : (k : ℕ) → NextBurst k w u (burst k u).answer (world_in (burst k u))
  -- "step the steps so far"
  pub step_answer_lem : accepted advances u ≡ true → (outcome advances u).answer ≡ told (Ok (steps_told xs rs 0 + 1))
  -- "With 12 × N image blocks or more, 16 never comes in a run." (F-1: 44 × N)
  pub never_full : Roomy w → refusal_of advances u ≡ refusal_number ImageFull → ⊥

-- A later accepted start opens a list of its own.
pub record Demands : Type 0 where
  pub opens : (v : World) → Opens v
  pub lists : (v : World) → accepted starts v ≡ true → (xs : List Act) → Demand xs (next starts v) (received xs (next starts v)) (run (singles xs (next starts v)) (next starts v))
