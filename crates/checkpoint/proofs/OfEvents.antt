-- What holds of a list of single events after an accepted start; watch's `Demand`, which adds bursts, is proved from it.
use Rattle.std.specs.Prelude.{Ok}
use Prim.Native.Nat.{ℕ, suc, ◌+◌, ◌*◌, ◌≤◌, ◌<◌}
use mathlib.Core.Path.{◌≡◌}
use mathlib.Core.Bool.{Bool, true}
use mathlib.Core.List.{List, [], ◌∷◌}
use mathlib.Core.Logic.{◌⊎◌}
use lib.Dec.{eqb}
use Rattle.bounded.specs.Search.{pick}
use Rattle.layout.specs.Sizes.{is_complete, not_complete}
use Rattle.layout.specs.Header.{header_of}
use Rattle.directory.specs.Slot.{most_slots}
use Rattle.desk.specs.Sizes.{running, finished, stopped, steps_an_inode}
use Rattle.desk.specs.Desk.{desk_of}
use Rattle.answers.specs.declared.Refusal.TheVariants.{Busy, ImageFull}
use Rattle.answers.specs.Refusal.{refusal_number}
use Rattle.answers.specs.Told.{told}
use Rattle.files.specs.Effect.{Call}
use Rattle.files.specs.Plain.{Received, got}
use Rattle.checkpoint.specs.Live.{World, live, out_of, told_status, standing}
use Rattle.checkpoint.specs.List.{Event, asks, advances, on_event, outcome, next, refusal_of, accepted, run, Finish, accepted_steps, state_after, plain_run, plain_replies}
use Rattle.checkpoint.specs.Finished.{count_of, Finished}
use Rattle.checkpoint.specs.Progress.{Refusals, Takes, Progress, no_restart, Roomy, Timing, Calls, Stays}

-- a file call is answered 14
abbrev pub is_busy : Call → World → Bool
is_busy c w = eqb (live c w).answer.number (refusal_number Busy)

-- what the callers of the other file calls get, and those calls
unfoldable pub replies : List Event → World → List Received
replies [] w = []
replies (e ∷ es) w =
    let rs = replies es (next e w) in
    on_event e (λ c. pick (is_busy c w) rs (got (live c w).answer (out_of c w) ∷ rs)) rs rs rs

unfoldable pub heard : List Event → World → List Call
heard [] w = []
heard (e ∷ es) w =
    let cs = heard es (next e w) in
    on_event e (λ c. pick (is_busy c w) cs (c ∷ cs)) cs cs cs

-- the steps that the list tries
unfoldable pub tried : List Event → ℕ
tried [] = 0
tried (e ∷ es) = on_event e (λ c. tried es) (suc (tried es)) (tried es) (tried es)

-- after as many steps as a copy can take, whatever calls fall between, it is finished or stopped; with 44 × N image blocks it is finished. w is the world just after the start
pub record GetsDone (es : List Event) (w : World) : Type 0 where
  pub ended : no_restart es w ≡ true → steps_an_inode * count_of w + 1 ≤ tried es → ((desk_of (run es w).desk).state ≡ finished) ⊎ ((desk_of (run es w).desk).state ≡ stopped)
  pub complete : Roomy w → no_restart es w ≡ true → steps_an_inode * count_of w + 1 ≤ tried es → ((desk_of (run es w).desk).state ≡ finished) × ((header_of (run es w).image).complete ≡ is_complete)

pub record Reported (es : List Event) (w : World) : Type 0 where
  pub reports : (outcome asks (run es w)).answer ≡ told_status (Ok (standing (state_after es w running) (desk_of (run es w).desk).locked (accepted_steps es w 0)))
  pub bound : accepted_steps es w 0 ≤ steps_an_inode * count_of w + 1
  pub byte : (header_of (run es w).image).complete ≡ pick (eqb (state_after es w running) finished) is_complete not_complete
  pub count : count_of (run es w) ≡ count_of w

pub record AsPlain (es : List Event) (w : World) : Type 0 where
  pub store : (run es w).store ≡ plain_run (heard es w) w.store
  pub answers : replies es w ≡ plain_replies (heard es w) w.store

pub record OfEvents (es : List Event) (w : World) : Type 0 where
  pub finished : Finish es w → Finished es w (run es w).image (run es w).desk
  pub refusals : (e : Event) → Refusals e (run es w)
  pub takes : (e : Event) (p : ℕ) → p < most_slots * count_of w → Takes e (run es w) p
  pub reported : Reported es w
  pub as_plain : AsPlain es w
  pub calls : Calls (run es w)
  pub timing : Timing (run es w)
  pub progress : Progress (run es w)
  pub done : GetsDone es w
  pub stays : Stays es w
  pub never_full : Roomy w → refusal_of advances (run es w) ≡ refusal_number ImageFull → ⊥
  pub step_answer_lem : accepted advances (run es w) ≡ true → (outcome advances (run es w)).answer ≡ told (Ok (accepted_steps es w 0 + 1))
