-- A running copy gets done, is out of the way, and stays. n and b are the counts of inodes and image blocks.
use Prim.Native.Nat.{ℕ, ◌+◌, ◌*◌, ◌≤◌}
use mathlib.Core.Path.{◌≡◌, refl, ap, ◌∙◌}
use mathlib.Core.Logic.{◌⊎◌, inl, inr}
use mathlib.Core.Bool.{true, false, not}
use mathlib.Core.List.{List, [], ◌∷◌}
use native.Mathlib.Omega.{arith}
use borrow.Author.Tests.{not-true}
use lib.Dec.{eqb}
use lib.ListN.{length, get_or}
use Rattle.bounded.proofs.BoolLaws.{clash, and_left, and_right}
use Rattle.layout.specs.Sizes.{most_blocks, is_complete}
use Rattle.layout.specs.Header.{header_of}
use Rattle.desk.specs.Sizes.{finished, stopped, steps_an_inode}
use Rattle.desk.specs.declared.Desk.{Desk}
use Rattle.desk.specs.Desk.{desk_of}
use Rattle.desk.specs.Next.{finishing}
use Rattle.desk.proofs.DeskLaws.{length_put_desk}
use Rattle.answers.specs.declared.Refusal.TheVariants.{ImageFull}
use Rattle.answers.specs.Told.{Told}
use Rattle.answers.specs.Refusal.{refusal_number}
use Rattle.checkpoint.specs.Fit.{is_running}
use Rattle.checkpoint.specs.Live.{World, Outcome}
use Rattle.checkpoint.specs.List.{Event, call, advances, asks, starts, next, accepted, restarts, run, refusal_of, completes}
use Rattle.checkpoint.specs.Finished.{count_of}
use Rattle.checkpoint.specs.Progress.{ImageTaken, Ended, Progress, no_restart, Roomy, Timing}
use Rattle.checkpoint.proofs.OfEvents.{tried, GetsDone}
use Rattle.checkpoint.proofs.Copy.FitLaws.{laid_steps}
use Rattle.checkpoint.proofs.Copy.ChosenLaws.{never_full}
use Rattle.checkpoint.proofs.Run.Going.{Running, incomplete, next_is}
use Rattle.checkpoint.proofs.Run.Going as now
use Rattle.checkpoint.proofs.Run.Turned.{Fills, Stepped, on, ends, halts, stepped}
use Rattle.checkpoint.proofs.Run.Calls.{asks_same, call_goes, asks_goes, starts_goes, start_busy}
use Rattle.checkpoint.proofs.Run.Rests.{Resting, idle, step_idle, call_kept, asks_kept, steps_kept}
use Rattle.checkpoint.proofs.Run.Ends.{finals, halted}
use Rattle.checkpoint.proofs.Run.Lists.{Going, runs, rests, start_done, start_taken}
use Rattle.checkpoint.proofs.Run.Stops.{finish_bytes}
use Rattle.checkpoint.proofs.Run.Results.{Result, done, refuses, fills, result}
use Rattle.checkpoint.proofs.Run.Counts.{steps_in, call_head}

-- ---- a step while the copy runs
module _ (n b : ℕ) (w : World) where
  moved : Running n b w → Stepped n b w → (refusal_of advances w ≡ refusal_number ImageFull → ⊥) → accepted advances w ≡ true
  moved r (on g c a) z = ap (λ (x : Told). eqb x.number 0) a
  moved r (ends f) z = ap (λ (x : Told). eqb x.number 0) (finals n b w r f).answer
  moved r (halts f) z = absurd (z (ap (λ (x : Told). x.number) (halted n b w r f).answer))

  taken_at : Result advances w → refusal_of advances w ≡ refusal_number ImageFull → ImageTaken w
  taken_at (done h) e = absurd (omega arith)
  taken_at (refuses l v) e = absurd (l.full e)
  taken_at (fills h s r) e = r

  -- the step that sets byte 8
  ended : Running n b w → Stepped n b w → completes advances w ≡ true → Ended w (next advances w)
  ended r (on g c a) q = absurd (clash (eqb (header_of (next advances w).image).complete is_complete) (and_right (accepted advances w) _ q) (incomplete g.still))
  ended r (halts f) q = absurd (clash (accepted advances w) (and_left (accepted advances w) _ q) (ap (λ (x : Told). eqb x.number 0) (halted n b w r f).answer))
  ended r (ends f) q =
      let k = finals n b w r f in
      let l = r.laid.desk.long in
      record {
        store = k.store;
        state = k.state;
        long = ap length k.desk ∙ length_put_desk w.desk (finishing (desk_of w.desk));
        rest = λ o x p z. ap (λ (d : List ℕ). get_or d x 0) k.desk ∙ finish_bytes w.desk o (omega arith) x p z;
      }

  pub progress : Going n b w → Progress w
  progress (runs r) = record { moves = λ _ z. moved r (stepped n b w r) z; fills = taken_at (result n b w advances (runs r)); ends = ended r (stepped n b w r) }
  progress (rests r) = record {
    moves = λ z _. absurd (clash (is_running w.desk) z (idle r));
    fills = taken_at (result n b w advances (rests r));
    ends = λ q. absurd (clash (accepted advances w) (and_left (accepted advances w) _ q) (ap (λ (x : Outcome). eqb x.answer.number 0) (step_idle n b w r)));
  }

  -- "15 start while running, step while not"
  pub timing : Going n b w → Timing w
  timing (runs r) = record {
    early = λ z. ap (λ (x : Outcome). x.answer) (start_busy n b w r);
    again = λ z. absurd (clash (is_running w.desk) (now.runs r) z);
    late = λ z. absurd (clash (is_running w.desk) (now.runs r) z);
    question = asks_same w;
  }
  timing (rests r) = record {
    early = λ z. absurd (clash (is_running w.desk) z (idle r));
    again = λ z. start_done n b w r;
    late = λ z. ap (λ (x : Outcome). x.answer) (step_idle n b w r);
    question = asks_same w;
  }

-- ---- with 44 × N image blocks
pub roomy_blocks : {n b : ℕ} {w : World} → Running n b w → Roomy w → most_blocks * n ≤ b
roomy_blocks r h = let l = r.laid.frame.long in let c = r.count in omega arith

-- ---- no start is accepted: at rest it stays, and what runs has always run
no_restart_lem : (e : Event) (es : List Event) (w : World) → no_restart (e ∷ es) w ≡ true → (restarts e w ≡ false) × (no_restart es (next e w) ≡ true)
unfolding no_restart
no_restart_lem e es w h = (not-true (restarts e w) (and_left (not (restarts e w)) (no_restart es (next e w)) h), and_right (not (restarts e w)) (no_restart es (next e w)) h)

-- an event that is no accepted start, at rest
pub record Still (n b : ℕ) (w v : World) : Type 0 where
  pub rest : Resting n b v
  pub image : v.image ≡ w.image
  pub desk : v.desk ≡ w.desk

module _ (n b : ℕ) where
  pub still_next : (e : Event) (w : World) → Resting n b w → restarts e w ≡ false → Still n b w (next e w)
  still_next (call c) w r q = let k = call_kept n b w r c in record { rest = k.rest; image = k.image; desk = k.desk }
  still_next advances w r q = let k = steps_kept n b w r in record { rest = k.rest; image = k.image; desk = k.desk }
  still_next asks w r q = let k = asks_kept n b w r in record { rest = k.rest; image = k.image; desk = k.desk }
  still_next starts w r q = absurd (clash (accepted starts w) (start_taken n b w r) q)

  pub still_run : (es : List Event) (w : World) → Resting n b w → no_restart es w ≡ true → Still n b w (run es w)
  unfolding run
  still_run [] w r q = record { rest = r; image = refl; desk = refl }
  still_run (e ∷ es) w r q =
      let h = no_restart_lem e es w q in
      let k = still_next e w r h.0 in
      let l = still_run es (next e w) k.rest h.1 in
      record { rest = l.rest; image = l.image ∙ k.image; desk = l.desk ∙ k.desk }

  -- the copy runs on after as many steps as were tried, or has finished, or was stopped by 16
  pub data Gets (es : List Event) (w : World) : Type 0 where
    going : Running n b (run es w) → steps_in (run es w) ≡ steps_in w + tried es → Gets es w
    whole : (desk_of (run es w).desk).state ≡ finished → (header_of (run es w).image).complete ≡ is_complete → Gets es w
    short : (desk_of (run es w).desk).state ≡ stopped → (v : World) → Running n b v → Fills n b v → Gets es w

  gets_more : (e : Event) (es : List Event) (w : World) → steps_in (next e w) + tried es ≡ steps_in w + tried (e ∷ es) → Gets es (next e w) → Gets (e ∷ es) w
  unfolding run
  gets_more e es w k (going r h) = going r (h ∙ k)
  gets_more e es w k (whole h c) = whole h c
  gets_more e es w k (short h v r f) = short h v r f

  step_gets : (es : List Event) (w : World) → ((v : World) → Running n b v → no_restart es v ≡ true → Gets es v) → (r : Running n b w) → no_restart es (next advances w) ≡ true → Stepped n b w → Gets (advances ∷ es) w
  unfolding run tried
  step_gets es w rec r q (on g c a) = gets_more advances es w (let k = c in omega arith) (rec (next advances w) g.still q)
  step_gets es w rec r q (ends f) =
      let k = finals n b w r f in
      let l = still_run es (next advances w) k.rest q in
      whole (ap (λ (d : List ℕ). (desk_of d).state) l.desk ∙ k.state) (ap (λ (m : List ℕ). (header_of m).complete) (l.image ∙ k.image) ∙ k.sound.complete)
  step_gets es w rec r q (halts f) =
      let k = halted n b w r f in
      let l = still_run es (next advances w) k.rest q in
      short (ap (λ (d : List ℕ). (desk_of d).state) l.desk ∙ k.state) w r f

  pub gets : (es : List Event) (w : World) → Running n b w → no_restart es w ≡ true → Gets es w
  unfolding run tried
  gets [] w r q = going r (plus_none (steps_in w))
    where
      plus_none : (k : ℕ) → k ≡ k + 0
      plus_none k = omega arith
  gets (call c ∷ es) w r q =
      let h = no_restart_lem (call c) es w q in
      gets_more (call c) es w (ap (λ (d : Desk). d.steps + tried es) (call_head c w)) (gets es (next (call c) w) (call_goes n b w r c).still h.1)
  gets (advances ∷ es) w r q = step_gets es w (gets es) r (no_restart_lem advances es w q).1 (stepped n b w r)
  gets (asks ∷ es) w r q =
      let h = no_restart_lem asks es w q in
      gets_more asks es w (ap (λ (v : World). steps_in v + tried es) (asks_same w)) (gets es (next asks w) (asks_goes n b w r).still h.1)
  gets (starts ∷ es) w r q =
      let h = no_restart_lem starts es w q in
      gets_more starts es w (ap (λ (v : World). steps_in v + tried es) (next_is starts w _ (start_busy n b w r))) (gets es (next starts w) (starts_goes n b w r).still h.1)

  pub gets_done : (es : List Event) (w : World) → Running n b w → steps_in w ≡ 0 → GetsDone es w
  gets_done es w r z = record {
    ended = λ q l. after_all l (gets es w r q);
    complete = λ m q l. all_there m l (gets es w r q);
  }
    where
      too_many : {A : Type 0} → steps_an_inode * count_of w + 1 ≤ tried es → Running n b (run es w) → steps_in (run es w) ≡ steps_in w + tried es → A
      too_many l k h = let a = laid_steps k.laid k.sound k.count in let c = r.count in absurd (omega arith)

      after_all : steps_an_inode * count_of w + 1 ≤ tried es → Gets es w → ((desk_of (run es w).desk).state ≡ finished) ⊎ ((desk_of (run es w).desk).state ≡ stopped)
      after_all l (going k h) = too_many l k h
      after_all l (whole h c) = inl h
      after_all l (short h v k f) = inr h

      all_there : Roomy w → steps_an_inode * count_of w + 1 ≤ tried es → Gets es w → ((desk_of (run es w).desk).state ≡ finished) × ((header_of (run es w).image).complete ≡ is_complete)
      all_there m l (going k h) = too_many l k h
      all_there m l (whole h c) = (h, c)
      all_there m l (short h v k f) = absurd (never_full k.laid k.sound k.count (roomy_blocks r m) f.is)
