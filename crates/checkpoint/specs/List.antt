-- "The list in demand 3": events, what each does and answers, the run of a list, and what stood untouched, from calls and stores alone.
use Rattle.std.specs.Prelude.{ℕ, suc, ◌≡◌, Bool, true, false, ◌&&◌, ◌||◌, List, [], ◌∷◌, eqb}
use Rattle.bounded.specs.Search.{pick}
use Rattle.layout.specs.Sizes.{root_inode, is_complete}
use Rattle.layout.specs.Header.{header_of}
use Rattle.desk.specs.Sizes.{running, finished, stopped}
use Rattle.answers.specs.declared.Refusal.TheVariants.{ImageFull}
use Rattle.answers.specs.Refusal.{refusal_number}
use Rattle.sound.specs.Sound.{inodes_in}
use Rattle.sound.specs.declared.Form.TheVariants.{Store}
use Rattle.sound.specs.Place.{dir_of, filled, naming}
use Rattle.sound.specs.Test.{framed_b, is_sound}
use Rattle.files.specs.Effect.{Call, Entry, place_in, on_planned, plain_decision}
use Rattle.files.specs.Plain.{Received, got, plain}
use Rattle.checkpoint.specs.Fit.{desk_framed, notes_fit}
use Rattle.checkpoint.specs.Live.{World, Outcome, tells, world_in, live, start, step, status}

-- refusals 1, 2 and 3 do not come
pub record Ready (w : World) : Type 0 where
  pub framed : framed_b Store w.store ≡ true
  pub sound : is_sound Store w.store ≡ true
  pub desk : desk_framed w.desk ≡ true
  pub notes : notes_fit w.store w.image w.desk ≡ true

-- "file calls, steps, state questions and starts follow, each with names, numbers, bytes and out-buffer of its own"
pub data Event : Type 0 where
  call : Call → Event
  advances : Event
  asks : Event
  starts : Event

-- one value for each kind of event: file call, step, question, start
abbrev pub on_event : {A : Type 0} → Event → (Call → A) → A → A → A → A
on_event (call c) file step question start = file c
on_event advances file step question start = step
on_event asks file step question start = question
on_event starts file step question start = start

-- ---- one event
unfoldable pub outcome : Event → World → Outcome
outcome (call c) w = live c w
outcome advances w = step w.store w.image w.desk
outcome asks w = tells (status w.store w.image w.desk) w.store w.image w.desk
outcome starts w = start w.store w.image w.desk

unfoldable pub next : Event → World → World
next e w = world_in (outcome e w)

-- the number of its refusal, 0 for none
abbrev pub refusal_of : Event → World → ℕ
refusal_of e w = (outcome e w).answer.number

abbrev pub accepted : Event → World → Bool
accepted e w = eqb (refusal_of e w) 0

-- ---- a list of events
unfoldable pub run : List Event → World → World
run [] w = w
run (e ∷ es) w = run es (next e w)

-- "A moment is just after the opening start or a later call": v is one of them, where w is the world just after the opening start
pub data Moment : List Event → World → World → Type 0 where
  here : {es : List Event} {w : World} → Moment es w w
  after : {e : Event} {es : List Event} {w v : World} → Moment es (next e w) v → Moment (e ∷ es) w v

-- a start is accepted at e
abbrev pub restarts : Event → World → Bool
restarts e w = on_event e (λ c. false) false false (accepted starts w)

-- "The step that sets image byte 8": it is 1 after it
abbrev pub completes : Event → World → Bool
completes e w = on_event e (λ c. false) (accepted advances w && eqb (header_of (next advances w).image).complete is_complete) false false

-- the events up to the finish: "The step that sets image byte 8, with no start accepted since the opening one, finishes the opening start's copy"
pub data Finish : List Event → World → Type 0 where
  last : {w : World} → completes advances w ≡ true → Finish (advances ∷ []) w
  more : {e : Event} {es : List Event} {w : World} → restarts e w ≡ false → completes e w ≡ false → Finish es (next e w) → Finish (e ∷ es) w

-- ---- entries: "a directory's slot, filled at the start; it is unlinked or moved when an accepted unlink or move empties it"; F-3: "being replaced is being unlinked"
-- the entries that a call takes out of the store s; only unlinks, moves and replacing renames take any
abbrev pub taken_from : Call → List ℕ → List Entry
taken_from c s = on_planned (plain_decision c s) (λ x. x.taken) (λ e. [])

-- one of the entries stands at place p
unfoldable pub any_at : List Entry → ℕ → Bool
any_at [] p = false
any_at (x ∷ xs) p = eqb (place_in x) p || any_at xs p

-- an accepted call takes the entry out of place p
abbrev pub takes : Event → World → ℕ → Bool
takes e w p = on_event e (λ c. accepted (call c) w && any_at (taken_from c w.store) p) false false false

-- no event takes it
unfoldable pub Untouched : List Event → World → ℕ → Type 0
Untouched [] w p = Unit {0}
Untouched (e ∷ es) w p = (takes e w p ≡ false) × Untouched es (next e w) p

-- the entry at p stood at the start, and neither it nor any above it was taken: "Above it is the entry that names its directory, and so on up to root."
pub data Kept (es : List Event) (w : World) : ℕ → Type 0 where
  top : {p : ℕ} → filled w.store (inodes_in w.store) p ≡ true → Untouched es w p → dir_of p ≡ root_inode → Kept es w p
  below : {p q : ℕ} → filled w.store (inodes_in w.store) p ≡ true → Untouched es w p → naming w.store (inodes_in w.store) q ≡ dir_of p → Kept es w q → Kept es w p

-- ---- "the copy's accepted steps", counted from the latest start
unfoldable pub accepted_steps : List Event → World → ℕ → ℕ
accepted_steps [] w c = c
accepted_steps (e ∷ es) w c = accepted_steps es (next e w) (on_event e (λ x. c) (pick (accepted advances w) (suc c) c) c (pick (accepted starts w) 0 c))

-- ---- the state that the answers tell: running from an accepted start on, finished by the step that sets image byte 8, stopped by 16. c is the state before
unfoldable pub state_after : List Event → World → ℕ → ℕ
state_after [] w c = c
state_after (e ∷ es) w c = state_after es (next e w)
    (on_event e (λ x. c) (pick (completes advances w) finished (pick (eqb (refusal_of advances w) (refusal_number ImageFull)) stopped c)) c (pick (accepted starts w) running c))

-- ---- the plain store: its bytes after the calls cs, and what their callers get
unfoldable pub plain_run : List Call → List ℕ → List ℕ
plain_run [] s = s
plain_run (c ∷ cs) s = plain_run cs (plain c s).store

unfoldable pub plain_replies : List Call → List ℕ → List Received
plain_replies [] s = []
plain_replies (c ∷ cs) s = got (plain c s).answer (plain c s).out ∷ plain_replies cs (plain c s).store
