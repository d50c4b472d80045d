-- The public calls over the three buffers: guards (1, 2, 3), the plain store's plan with its refusals, busy (14), then the bytes. s is the store, m the image.
use Rattle.std.specs.Prelude.{ℕ, ◌+◌, Bool, true, false, not, List, [], ◌∷◌, ◌++◌, length, Err, Ok, Result}
use Rattle.bounded.specs.Search.{pick}
use Rattle.desk.specs.Desk.{desk_of}
use Rattle.sound.specs.Sound.{inodes_in}
use Rattle.answers.specs.declared.Refusal.{Refusal}
use Rattle.answers.specs.declared.Refusal.TheVariants.{BadDesk, WrongState, ImageFull}
use Rattle.answers.specs.Refusal.{refusal_number}
use Rattle.answers.specs.Told.{Answer, Told, told}
use Rattle.answers.specs.Order.{Row, row}
use Rattle.files.specs.Guard.{guard_of, on_guard, guard_by, first_rows}
use Rattle.files.specs.Effect.{Call, look_up, read, create, write, shorten, link, unlink, rename, rename_new, Planned, refused, does, on_planned, planned, given}
use Rattle.checkpoint.specs.Fit.{image_blocks, is_running, notes_fit, both_framed, all_framed}
use Rattle.checkpoint.specs.Busy.{unless_busy}
use Rattle.checkpoint.specs.Notes.{cut_entries, clear_marks, set_marks}
use Rattle.checkpoint.specs.Copier.{start_image, start_desk, Step, lock, copy, close, finish, full, step_of, step_image, step_desk}
use Rattle.layout.specs.declared.header.Counts.{Counts}
use Rattle.checkpoint.specs.declared.Status.{Status}

-- the three buffers
pub record World : Type 0 where
  pub store : List ℕ
  pub image : List ℕ
  pub desk : List ℕ

abbrev pub world : List ℕ → List ℕ → List ℕ → World
world s m desk = record { store = s; image = m; desk = desk }

-- what a call leaves: the answer that its caller is told, by the paper's numbers, and the content of each buffer
pub record Outcome : Type 0 where
  pub answer : Told
  pub store : List ℕ
  pub image : List ℕ
  pub desk : List ℕ

abbrev pub tells : Told → List ℕ → List ℕ → List ℕ → Outcome
tells t s m desk = record { answer = t; store = s; image = m; desk = desk }

abbrev pub left : Answer → List ℕ → List ℕ → List ℕ → Outcome
left a s m desk = tells (told a) s m desk

abbrev pub world_in : Outcome → World
world_in o = world o.store o.image o.desk

-- a refusal "changes no lent buffer"
abbrev pub refuse : Refusal → List ℕ → List ℕ → List ℕ → Outcome
refuse e s m desk = left (Err e) s m desk

-- "looked at lowest first": 1, 2 and 3 by the buffers, before all others
abbrev pub guard_rows : Bool → List ℕ → List ℕ → List ℕ → List Row
guard_rows framed s m desk = first_rows framed s ++ row (not (notes_fit s m desk)) BadDesk ∷ []

-- of a call on all three buffers, and of a start, which looks at the image's length too
unfoldable pub three_guards : List ℕ → List ℕ → List ℕ → Result Counts Refusal
three_guards s m desk = guard_by s (guard_rows (both_framed s desk) s m desk)

unfoldable pub start_guards : List ℕ → List ℕ → List ℕ → Result Counts Refusal
start_guards s m desk = guard_by s (guard_rows (all_framed s m desk) s m desk)

-- ---- the file calls
-- "Look up and read take the store alone"
abbrev pub store_alone : Call → Bool
store_alone (look_up d name) = true
store_alone (read i o out) = true
store_alone (create d name k) = false
store_alone (write i o xs) = false
store_alone (shorten i z) = false
store_alone (link d name i) = false
store_alone (unlink d name) = false
store_alone (rename d name e other) = false
store_alone (rename_new d name e other) = false

abbrev pub guards_of : Call → World → Result Counts Refusal
guards_of c w = pick (store_alone c) (guard_of w.store) (three_guards w.store w.image w.desk)

-- refusals in order, or what is done
unfoldable pub decision : Call → World → Planned
decision c w = on_guard (guards_of c w) (λ n b. unless_busy w.desk (planned c w.store n b)) refused

-- the store's bytes, then the image's entries and the marks, by what is taken out and made; marks are cleared first, since a replacing move may fill the slot that it takes from
abbrev pub leaves_in : World → Planned → Outcome
leaves_in w (does x) =
    let n = inodes_in w.store in
    left (Ok x.answer) x.store (cut_entries w.image w.desk n x.taken) (set_marks (clear_marks w.desk n x.taken) n x.made)
leaves_in w (refused e) = refuse e w.store w.image w.desk

unfoldable pub live : Call → World → Outcome
live c w = leaves_in w (decision c w)

-- a read's out-buffer after the call, [] for the other calls
unfoldable pub out_of : Call → World → List ℕ
out_of c w = on_planned (decision c w) (λ x. x.out) (λ e. given c)

-- ---- start and step: what follows where the guards let through
abbrev pub guarded : Result Counts Refusal → List ℕ → List ℕ → List ℕ → Outcome → Outcome
guarded g s m desk o = on_guard g (λ n b. o) (λ e. refuse e s m desk)

-- ---- start: 1 (the image too), 2, 3, 15
unfoldable pub started : List ℕ → List ℕ → List ℕ → Outcome
started s m desk =
    pick (is_running desk) (refuse WrongState s m desk)
    (left (Ok 0) s (start_image (inodes_in s) (length m)) (start_desk desk (inodes_in s) (image_blocks (inodes_in s) (length m))))

unfoldable pub start : List ℕ → List ℕ → List ℕ → Outcome
start s m desk = guarded (start_guards s m desk) s m desk (started s m desk)

-- ---- step: 1, 2, 3, 15, 16; "Each accepted step adds 1."
abbrev pub step_answer : ℕ → Step → Answer
step_answer steps (lock i) = Ok steps
step_answer steps (copy i k c) = Ok steps
step_answer steps (close i) = Ok steps
step_answer steps finish = Ok steps
step_answer steps full = Err ImageFull

abbrev pub do_step : List ℕ → List ℕ → List ℕ → ℕ → Step → Outcome
do_step s m desk n x = left (step_answer ((desk_of desk).steps + 1) x) s (step_image s m desk n x) (step_desk desk x)

unfoldable pub step : List ℕ → List ℕ → List ℕ → Outcome
step s m desk = guarded (three_guards s m desk) s m desk (pick (is_running desk) (do_step s m desk (inodes_in s) (step_of s m desk (inodes_in s))) (refuse WrongState s m desk))

-- ---- state: 1, 2, 3; it changes nothing. "state takes all three buffers and gives state, locked inode and steps"
abbrev pub standing : ℕ → ℕ → ℕ → Status
standing state locked steps = record { state = state; locked = locked; steps = steps }

abbrev pub told_status : Result Status Refusal → Told
told_status (Ok c) = record { number = 0; values = c.state ∷ c.locked ∷ c.steps ∷ [] }
told_status (Err e) = record { number = refusal_number e; values = [] }

unfoldable pub status : List ℕ → List ℕ → List ℕ → Told
status s m desk = on_guard (three_guards s m desk) (λ n b. told_status (Ok (standing (desk_of desk).state (desk_of desk).locked (desk_of desk).steps))) (λ e. told_status (Err e))
