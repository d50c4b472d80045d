-- Accepted steps, counted from the latest start, are those in the desk. n and b are the counts of inodes and image blocks.
use Rattle.std.specs.Prelude.{Ok}
use Prim.Native.Nat.{ℕ, suc, ◌+◌, ◌*◌, ◌≤◌}
use mathlib.Core.Path.{◌≡◌, refl, sym, ap, ◌∙◌}
use mathlib.Core.Bool.{Bool, true, false}
use mathlib.Core.List.{List, [], ◌∷◌}
use native.Mathlib.Omega.{arith}
use lib.Dec.{eqb}
use Rattle.bounded.specs.Search.{pick}
use Rattle.bounded.proofs.BoolLaws.{and_false_l, and_false_r}
use Rattle.desk.specs.declared.Desk.{Desk}
use Rattle.desk.specs.Desk.{desk_of, set_mark, clear_mark}
use Rattle.desk.proofs.DeskLaws.{desk_set_mark, desk_clear_mark}
use Rattle.answers.specs.declared.Refusal.TheVariants.{ImageFull}
use Rattle.answers.specs.Refusal.{refusal_number}
use Rattle.answers.specs.Told.{Told}
use Rattle.layout.specs.Sizes.{is_complete, not_complete}
use Rattle.layout.specs.Header.{header_of}
use Rattle.desk.specs.Sizes.{running, finished, stopped, steps_an_inode}
use Rattle.sound.specs.Sound.{inodes_in}
use Rattle.files.specs.Effect.{Call, Entry, Planned, does, refused}
use Rattle.checkpoint.specs.Fit.{is_running}
use Rattle.checkpoint.specs.Notes.{note_made, note_taken, clear_marks, set_marks}
use Rattle.checkpoint.specs.Live.{World, decision, leaves_in, live, Outcome, told_status, standing}
use Rattle.checkpoint.specs.List.{Event, call, advances, asks, starts, outcome, next, accepted, run, accepted_steps, refusal_of, completes, state_after}
use Rattle.checkpoint.proofs.OfEvents.{Reported}
use Rattle.checkpoint.proofs.Copy.FitLaws.{laid_steps, notes_fit_is, desk_fits_is}
use Rattle.checkpoint.proofs.Run.Going.{Running, next_is, incomplete}
use Rattle.checkpoint.proofs.Run.Turned.{Stepped, on, ends, halts, stepped}
use Rattle.checkpoint.proofs.Run.Calls.{asks_same, start_busy}
use Rattle.checkpoint.proofs.Run.Rests.{idle, step_idle}
use Rattle.checkpoint.proofs.Run.Ends.{finals, halted, completed}
use Rattle.checkpoint.proofs.Run.Results.{asked}
use Rattle.checkpoint.proofs.Run.Lists.{Going, runs, rests, counted, start_anew, start_taken, going_next, going_run}

-- ---- a call writes marks alone
module _ (d : List ℕ) (n : ℕ) where
  made_head : (e t : ℕ) → desk_of (note_made d n e t) ≡ desk_of d
  unfolding note_made
  made_head e t = go (is_running d)
    where
      go : (b : Bool) → desk_of (pick b (set_mark d n e t) d) ≡ desk_of d
      go true = desk_set_mark d n e t
      go false = refl

  pub taken_head : (e t : ℕ) → desk_of (note_taken d n e t) ≡ desk_of d
  unfolding note_taken
  taken_head e t = go (is_running d)
    where
      go : (b : Bool) → desk_of (pick b (clear_mark d n e t) d) ≡ desk_of d
      go true = desk_clear_mark d n e t
      go false = refl

sets_head : (d : List ℕ) (n : ℕ) (xs : List Entry) → desk_of (set_marks d n xs) ≡ desk_of d
unfolding set_marks
sets_head d n [] = refl
sets_head d n (x ∷ xs) = sets_head (note_made d n x.directory x.slot) n xs ∙ made_head d n x.directory x.slot

clears_head : (d : List ℕ) (n : ℕ) (xs : List Entry) → desk_of (clear_marks d n xs) ≡ desk_of d
unfolding clear_marks
clears_head d n [] = refl
clears_head d n (x ∷ xs) = clears_head (note_taken d n x.directory x.slot) n xs ∙ taken_head d n x.directory x.slot

leaves_head : (w : World) (q : Planned) → desk_of (leaves_in w q).desk ≡ desk_of w.desk
leaves_head w (does x) = sets_head (clear_marks w.desk (inodes_in w.store) x.taken) (inodes_in w.store) x.made ∙ clears_head w.desk (inodes_in w.store) x.taken
leaves_head w (refused e) = refl

pub call_head : (c : Call) (w : World) → desk_of (next (call c) w).desk ≡ desk_of w.desk
unfolding next outcome live
call_head c w = leaves_head w (decision c w)

-- ---- one event
not_accepted : (e : Event) (w : World) (x : Outcome) → outcome e w ≡ x → eqb x.answer.number 0 ≡ false → accepted e w ≡ false
not_accepted e w x h f = ap (λ (x : Outcome). eqb x.answer.number 0) h ∙ f

abbrev pub steps_in : World → ℕ
steps_in w = (desk_of w.desk).steps

module _ (n b : ℕ) (w : World) where
  step_count : Running n b w → Stepped n b w → (c : ℕ) → steps_in w ≡ c → steps_in (next advances w) ≡ pick (accepted advances w) (suc c) c
  step_count r (on g k a) c h = rw (ap (λ (x : Told). eqb x.number 0) a) (let e = k in omega arith)
  step_count r (ends f) c h =
      let k = finals n b w r f in
      let a : accepted advances w ≡ true = ap (λ (x : Told). eqb x.number 0) k.answer in
      rw a (let e = k.counts in omega arith)
  step_count r (halts f) c h =
      let k = halted n b w r f in
      let a : accepted advances w ≡ false = ap (λ (x : Told). eqb x.number 0) k.answer in
      rw a (k.counts ∙ h)

  same_count : (e : Event) → next e w ≡ w → (c : ℕ) → steps_in w ≡ c → steps_in (next e w) ≡ c
  same_count e v c h = ap steps_in v ∙ h

  count_steps : Going n b w → (c : ℕ) → steps_in w ≡ c → steps_in (next advances w) ≡ pick (accepted advances w) (suc c) c
  count_steps (runs r) c h = step_count r (stepped n b w r) c h
  count_steps (rests r) c h = rw (not_accepted advances w _ (step_idle n b w r) refl) (same_count advances (next_is advances w _ (step_idle n b w r)) c h)

  count_starts : Going n b w → (c : ℕ) → steps_in w ≡ c → steps_in (next starts w) ≡ pick (accepted starts w) 0 c
  count_starts (runs r) c h = rw (not_accepted starts w _ (start_busy n b w r) refl) (same_count starts (next_is starts w _ (start_busy n b w r)) c h)
  count_starts (rests r) c h = rw (start_taken n b w r) (start_anew n b w r).steps

-- ---- the list
pub steps_counted : (n b : ℕ) (es : List Event) (w : World) (c : ℕ) → Going n b w → steps_in w ≡ c → steps_in (run es w) ≡ accepted_steps es w c
unfolding run accepted_steps
steps_counted n b [] w c g h = h
steps_counted n b (call x ∷ es) w c g h = steps_counted n b es (next (call x) w) c (going_next n b w (call x) g) (ap (λ (y : Desk). y.steps) (call_head x w) ∙ h)
steps_counted n b (advances ∷ es) w c g h = steps_counted n b es (next advances w) (pick (accepted advances w) (suc c) c) (going_next n b w advances g) (count_steps n b w g c h)
steps_counted n b (asks ∷ es) w c g h = steps_counted n b es (next asks w) c (going_next n b w asks g) (same_count n b w asks (asks_same w) c h)
steps_counted n b (starts ∷ es) w c g h = steps_counted n b es (next starts w) (pick (accepted starts w) 0 c) (going_next n b w starts g) (count_starts n b w g c h)

-- ---- what the state question reports, and the bound
bounded_steps : (n b : ℕ) (w : World) → Going n b w → (desk_of w.desk).steps ≤ steps_an_inode * n + 1
bounded_steps n b w (runs r) = let l = laid_steps r.laid r.sound r.count in omega arith
bounded_steps n b w (rests r) =
    let k = (notes_fit_is w.store w.image w.desk).to r.fit.notes in
    let l = ((desk_fits_is w.desk).to k.0).1.1.1.1.1.1.1 in
    let m : (desk_of w.desk).steps ≤ steps_an_inode * (desk_of w.desk).inodes + 1 = rw (idle r) at l in
    let i = k.1.0 in
    let c = r.count in
    omega arith

-- ---- the state that the answers tell
abbrev pub state_in : World → ℕ
state_in w = (desk_of w.desk).state

module _ (n b : ℕ) (w : World) where
  step_state : Running n b w → Stepped n b w → (c : ℕ) → state_in w ≡ c
      → state_in (next advances w) ≡ pick (completes advances w) finished (pick (eqb (refusal_of advances w) (refusal_number ImageFull)) stopped c)
  step_state r (on g k a) c h =
      let x : completes advances w ≡ false = and_false_r (accepted advances w) (eqb (header_of (next advances w).image).complete is_complete) (incomplete g.still) in
      let y : eqb (refusal_of advances w) (refusal_number ImageFull) ≡ false = ap (λ (z : Told). eqb z.number (refusal_number ImageFull)) a in
      rw (x, y) (g.still.laid.desk.state ∙ sym r.laid.desk.state ∙ h)
  step_state r (ends f) c h = rw (completed n b w r f) (finals n b w r f).state
  step_state r (halts f) c h =
      let k = halted n b w r f in
      let a : accepted advances w ≡ false = ap (λ (x : Told). eqb x.number 0) k.answer in
      let x : completes advances w ≡ false = and_false_l (accepted advances w) (eqb (header_of (next advances w).image).complete is_complete) a in
      let y : eqb (refusal_of advances w) (refusal_number ImageFull) ≡ true = ap (λ (z : Told). eqb z.number (refusal_number ImageFull)) k.answer in
      rw (x, y) k.state

  state_steps : Going n b w → (c : ℕ) → state_in w ≡ c → state_in (next advances w) ≡ pick (completes advances w) finished (pick (eqb (refusal_of advances w) (refusal_number ImageFull)) stopped c)
  state_steps (runs r) c h = step_state r (stepped n b w r) c h
  state_steps (rests r) c h =
      let e = step_idle n b w r in
      let x : completes advances w ≡ false = and_false_l (accepted advances w) (eqb (header_of (next advances w).image).complete is_complete) (not_accepted advances w _ e refl) in
      let y : eqb (refusal_of advances w) (refusal_number ImageFull) ≡ false = ap (λ (z : Outcome). eqb z.answer.number (refusal_number ImageFull)) e in
      rw (x, y) (ap state_in (next_is advances w _ e) ∙ h)

  state_starts : Going n b w → (c : ℕ) → state_in w ≡ c → state_in (next starts w) ≡ pick (accepted starts w) running c
  state_starts (runs r) c h = rw (not_accepted starts w _ (start_busy n b w r) refl) (ap state_in (next_is starts w _ (start_busy n b w r)) ∙ h)
  state_starts (rests r) c h = rw (start_taken n b w r) (start_anew n b w r).runs.laid.desk.state

pub state_told : (n b : ℕ) (es : List Event) (w : World) (c : ℕ) → Going n b w → state_in w ≡ c → state_in (run es w) ≡ state_after es w c
unfolding run state_after
state_told n b [] w c g h = h
state_told n b (call x ∷ es) w c g h = state_told n b es (next (call x) w) c (going_next n b w (call x) g) (ap (λ (y : Desk). y.state) (call_head x w) ∙ h)
state_told n b (advances ∷ es) w c g h = state_told n b es (next advances w) _ (going_next n b w advances g) (state_steps n b w g c h)
state_told n b (asks ∷ es) w c g h = state_told n b es (next asks w) c (going_next n b w asks g) (ap state_in (asks_same w) ∙ h)
state_told n b (starts ∷ es) w c g h = state_told n b es (next starts w) (pick (accepted starts w) running c) (going_next n b w starts g) (state_starts n b w g c h)

-- byte 8
byte_is : (n b : ℕ) (w : World) → Going n b w → (header_of w.image).complete ≡ pick (eqb (state_in w) finished) is_complete not_complete
byte_is n b w (runs r) = r.laid.frame.complete ∙ ap (λ (x : ℕ). pick (eqb x finished) is_complete not_complete) (sym r.laid.desk.state)
byte_is n b w (rests r) = r.byte

pub reported : (n b : ℕ) (es : List Event) (w : World) → Going n b w → (desk_of w.desk).steps ≡ 0 → state_in w ≡ running → Reported es w
reported n b es w g z q =
    let h = going_run n b es w g in
    let e = steps_counted n b es w 0 g z in
    let f = state_told n b es w running g q in
    record {
      reports = asked n b (run es w) h ∙ ap (λ (x : ℕ). told_status (Ok (standing x (desk_of (run es w).desk).locked (desk_of (run es w).desk).steps))) f ∙ ap (λ (x : ℕ). told_status (Ok (standing (state_after es w running) (desk_of (run es w).desk).locked x))) e;
      bound = let l = bounded_steps n b (run es w) h in let c = counted g in omega arith;
      byte = byte_is n b (run es w) h ∙ ap (λ (x : ℕ). pick (eqb x finished) is_complete not_complete) f;
      count = sym (counted h) ∙ counted g;
    }
