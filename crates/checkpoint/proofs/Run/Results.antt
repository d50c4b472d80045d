-- What an event answers at any moment of a list: a result, a refusal that changes nothing, or 16. n and b are the counts of inodes and image blocks.
use Rattle.std.specs.Prelude.{Err, Ok}
use Prim.Native.Nat.{ℕ}
use mathlib.Core.Path.{◌≡◌, sym, ap, ◌∙◌, subst}
use mathlib.Core.Logic.{◌≢◌}
use mathlib.Core.Bool.{true}
use native.Mathlib.Omega.{arith}
use native.Mathlib.Decide.{ℕ_discrete}
use Rattle.desk.specs.Desk.{desk_of}
use Rattle.answers.specs.declared.Refusal.TheVariants.{BadBuffer, UnsoundStore, BadDesk, Busy, WrongState, ImageFull}
use Rattle.answers.specs.Refusal.{refusal_number}
use Rattle.answers.specs.Told.{Told, told}
use Rattle.blocks.specs.Free.{named_by}
use Rattle.checkpoint.specs.Fit.{image_long}
use Rattle.files.specs.Effect.{Call}
use Rattle.checkpoint.proofs.DecisionLaws.{status_is}
use Rattle.checkpoint.specs.Live.{standing, World, Outcome, refuse, live, told_status}
use Rattle.checkpoint.specs.List.{Event, call, advances, asks, starts, outcome, next, refusal_of}
use Rattle.checkpoint.specs.Progress.{Refusals, ImageTaken, Stopped}
use Rattle.checkpoint.proofs.PlainAnswers.{plain_never}
use Rattle.checkpoint.proofs.PlainLaws.{guards_pass}
use Rattle.checkpoint.proofs.RefusedLaws.{live_refused}
use Rattle.checkpoint.proofs.Run.Going as going
use Rattle.checkpoint.proofs.Run.Going.{Running, next_is}
use Rattle.checkpoint.proofs.Run.Turned.{Stepped, on, ends, halts, stepped, Fills}
use Rattle.checkpoint.proofs.Run.Calls.{start_busy}
use Rattle.checkpoint.proofs.Run.Rests.{step_idle}
use Rattle.checkpoint.proofs.Run.Ends.{finals, halted}
use Rattle.checkpoint.proofs.Run.Stops.{stop_leaves}
use Rattle.checkpoint.proofs.Run.Lists.{Going, runs, rests, fit, start_done}

-- the number of a refusal that neither the guards give nor a full image
pub record Later (k : ℕ) : Type 0 where
  pub buffers : k ≢ refusal_number BadBuffer
  pub store : k ≢ refusal_number UnsoundStore
  pub desk : k ≢ refusal_number BadDesk
  pub full : k ≢ refusal_number ImageFull

pub data Result (e : Event) (w : World) : Type 0 where
  done : refusal_of e w ≡ 0 → Result e w
  refuses : Later (refusal_of e w) → next e w ≡ w → Result e w
  fills : refusal_of e w ≡ refusal_number ImageFull → Stopped w (next e w) → ImageTaken w → Result e w

-- ---- a file call
module _ (n b : ℕ) (w : World) (g : Going n b w) (c : Call) where
  later : Later (live c w).answer.number
  later = elim (ℕ_discrete (live c w).answer.number (refusal_number Busy)) [
    | yes e ↦ record { buffers = λ z. omega arith; store = λ z. omega arith; desk = λ z. omega arith; full = λ z. omega arith }
    | no e ↦
        let a = guards_pass c w (fit g) e in
        record { buffers = a.first; store = a.second; desk = a.third; full = λ z. (plain_never c w.store).sixteenth (ap (λ (t : Told). t.number) (sym a.answer) ∙ z) }
  ]

  call_result : Result (call c) w
  unfolding outcome next
  call_result = elim (ℕ_discrete (live c w).answer.number 0) [
    | yes h ↦ done h
    | no h ↦ refuses later (live_refused w c h)
  ]

-- ---- a step
module _ (n b : ℕ) (w : World) where
  stop_is : Running n b w → Fills n b w → Stopped w (next advances w)
  stop_is r f = let l = r.laid.desk.long in rw (halted n b w r f).is (stop_leaves w (omega arith))

  taken_is : Running n b w → Fills n b w → ImageTaken w
  taken_is r f =
      let z = f.locked in
      let e = r.laid.frame.long in
      let k = r.laid.desk.blocks in
      let c = r.count in
      record { locked = omega arith; more = f.left; taken = λ x l m. subst (λ (i : ℕ). named_by (image_long w.store w.image w.desk) w.image i x ≡ true) c (f.all x l (omega arith)) }

  number_is : (e : Event) (x : Told) → (outcome e w).answer ≡ x → refusal_of e w ≡ x.number
  number_is e x h = ap (λ (y : Told). y.number) h

  step_result : Running n b w → Stepped n b w → Result advances w
  step_result r (on g c a) = done (number_is advances _ a)
  step_result r (ends f) = done (number_is advances _ (finals n b w r f).answer)
  step_result r (halts f) = fills (number_is advances _ (halted n b w r f).answer) (stop_is r f) (taken_is r f)

  wrong : (e : Event) → outcome e w ≡ refuse WrongState w.store w.image w.desk → Result e w
  wrong e h = let k = number_is e (told (Err WrongState)) (ap (λ (o : Outcome). o.answer) h) in refuses (record { buffers = λ z. omega arith; store = λ z. omega arith; desk = λ z. omega arith; full = λ z. omega arith }) (next_is e w _ h)

  -- the state question tells what the desk says
  pub asked : Going n b w → (outcome asks w).answer ≡ told_status (Ok (standing (desk_of w.desk).state (desk_of w.desk).locked (desk_of w.desk).steps))
  unfolding outcome
  asked g = status_is w.store w.image w.desk ∙ ap (λ (o : Outcome). o.answer) (going.guards_pass w (fit g) _)

  pub result : (e : Event) → Going n b w → Result e w
  result (call c) g = call_result n b w g c
  result asks g = done (number_is asks _ (asked g))
  result advances (runs r) = step_result r (stepped n b w r)
  result advances (rests r) = wrong advances (step_idle n b w r)
  result starts (runs r) = wrong starts (start_busy n b w r)
  result starts (rests r) = done (number_is starts (told (Ok 0)) (start_done n b w r))

  -- ---- demand 1
  from_result : (e : Event) → Result e w → Refusals e w
  from_result e (done h) = record { buffers = λ z. omega arith; store = λ z. omega arith; desk = λ z. omega arith; keeps = λ z y. absurd (z h); stops = λ z. absurd (omega arith) }
  from_result e (refuses l v) = record { buffers = l.buffers; store = l.store; desk = l.desk; keeps = λ z y. v; stops = λ z. absurd (l.full z) }
  from_result e (fills h s r) = record { buffers = λ z. omega arith; store = λ z. omega arith; desk = λ z. omega arith; keeps = λ z y. absurd (y h); stops = λ z. s }

  pub refusals : (e : Event) → Going n b w → Refusals e w
  refusals e g = from_result e (result e g)
