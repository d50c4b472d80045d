-- `OfEvents` holds: for every accepted start on any bytes, and every list of events after it.
use Rattle.std.specs.Prelude.{Ok}
use Prim.Native.Nat.{ℕ, ◌+◌, ◌*◌, ◌<◌}
use mathlib.Core.Path.{◌≡◌, refl, sym, ap, ◌∙◌, subst}
use mathlib.Core.Bool.{true}
use mathlib.Core.List.{List}
use native.Mathlib.Omega.{arith}
use lib.Dec.{eqb}
use lib.ListN.{length}
use Rattle.bounded.proofs.BoolLaws.{clash}
use Rattle.desk.specs.Desk.{desk_of}
use Rattle.answers.specs.declared.Refusal.TheVariants.{ImageFull}
use Rattle.answers.specs.Refusal.{refusal_number}
use Rattle.answers.specs.Told.{Told, told}
use Rattle.directory.specs.Slot.{most_slots}
use Rattle.checkpoint.specs.Fit.{image_blocks}
use Rattle.checkpoint.specs.Live.{World, Outcome}
use Rattle.checkpoint.specs.List.{Event, advances, starts, outcome, next, refusal_of, accepted, run, Finish}
use Rattle.checkpoint.specs.Finished.{count_of, Finished}
use Rattle.checkpoint.specs.Progress.{Takes, no_restart, Roomy, Opens}
use Rattle.checkpoint.proofs.OfEvents.{OfEvents}
use Rattle.checkpoint.proofs.PlainLaws.{starts_keep, run_plain}
use Rattle.checkpoint.proofs.Copy.ChosenLaws.{never_full}
use Rattle.checkpoint.proofs.Run.Going.{Running}
use Rattle.checkpoint.proofs.Run.Turned.{Stepped, on, ends, halts, stepped, Fills}
use Rattle.checkpoint.proofs.Run.Starts.{Fresher, opens, opened_runs}
use Rattle.checkpoint.proofs.Run.Rests.{Resting, step_idle}
use Rattle.checkpoint.proofs.Run.Ends.{finals, halted}
use Rattle.checkpoint.proofs.Run.Lists.{start_accepts, Going, runs, rests, fit, counted, going_run, going_at}
use Rattle.checkpoint.proofs.Run.Results.{refusals}
use Rattle.checkpoint.proofs.Run.Counts.{steps_counted, reported}
use Rattle.checkpoint.proofs.Run.Progresses.{progress, timing, roomy_blocks, still_run, gets_done}
use Rattle.checkpoint.proofs.Run.Busies.{calls}
use Rattle.checkpoint.proofs.Run.Taking.{taking}
use Rattle.checkpoint.proofs.Run.Finales.{finale}
use Rattle.checkpoint.proofs.Run.Lasts.{last_of}
use Rattle.checkpoint.proofs.Run.Honesty as honesty

-- w is the world just after the start
module _ (b : ℕ) (w : World) (s : Fresher (count_of w) b w) (es : List Event) where
  abbrev n : ℕ
  n = count_of w

  going : Going n b w
  going = runs s.runs

  later : Going n b (run es w)
  later = going_run n b es w going

  whole : Finish es w → Finished es w (run es w).image (run es w).desk
  whole f = honesty.finished b es w s.runs (last_of n b es w s.fresh (finale n b es w s.runs f))

  -- ---- 16
  stop_there : (v : World) → Going n b v → refusal_of advances v ≡ refusal_number ImageFull → (r : Running n b v) × Fills n b v
  stop_there v (runs r) h = go (stepped n b v r)
    where
      never : {A : Type 0} → refusal_of advances v ≡ 0 → A
      never e = absurd (omega arith)

      go : Stepped n b v → (r : Running n b v) × Fills n b v
      go (on g c a) = never (ap (λ (x : Told). x.number) a)
      go (ends f) = never (ap (λ (x : Told). x.number) (finals n b v r f).answer)
      go (halts f) = (r, f)
  stop_there v (rests r) h = let k : refusal_of advances v ≡ 15 = ap (λ (o : Outcome). o.answer.number) (step_idle n b v r) in absurd (omega arith)

  full_never : Roomy w → refusal_of advances (run es w) ≡ refusal_number ImageFull → ⊥
  full_never m h =
      let k = stop_there (run es w) later h in
      never_full k.0.laid k.0.sound k.0.count (roomy_blocks s.runs m) k.1.is

  -- ---- it stays
  finish_stays : Finish es w → (fs : List Event) → no_restart fs (run es w) ≡ true → ((run fs (run es w)).image ≡ (run es w).image) × ((run fs (run es w)).desk ≡ (run es w).desk)
  finish_stays f fs q =
      let k = finale n b es w s.runs f in
      let r = finals n b k.before k.runs k.finishes in
      let l = still_run n b fs (run es w) (subst (Resting n b) (sym k.is) r.rest) q in
      (l.image, l.desk)

  stop_stays : refusal_of advances (run es w) ≡ refusal_number ImageFull → (fs : List Event) → no_restart fs (next advances (run es w)) ≡ true
      → ((run fs (next advances (run es w))).image ≡ (run es w).image) × ((run fs (next advances (run es w))).desk ≡ (next advances (run es w)).desk)
  stop_stays h fs q =
      let k = stop_there (run es w) later h in
      let r = halted n b (run es w) k.0 k.1 in
      let l = still_run n b fs (next advances (run es w)) r.rest q in
      (l.image ∙ ap (λ (v : World). v.image) r.is, l.desk)

  -- ---- a step's answer
  answer_is : (v : World) → Going n b v → accepted advances v ≡ true → (outcome advances v).answer ≡ told (Ok ((desk_of v.desk).steps + 1))
  answer_is v (runs r) a = go (stepped n b v r)
    where
      go : Stepped n b v → (outcome advances v).answer ≡ told (Ok ((desk_of v.desk).steps + 1))
      go (on g c h) = h
      go (ends f) = (finals n b v r f).answer
      go (halts f) = absurd (clash (accepted advances v) a (ap (λ (x : Told). eqb x.number 0) (halted n b v r f).answer))
  answer_is v (rests r) a = absurd (clash (accepted advances v) a (ap (λ (o : Outcome). eqb o.answer.number 0) (step_idle n b v r)))

  taking_later : (e : Event) (p : ℕ) → p < most_slots * n → Takes e (run es w) p
  taking_later e p l =
      let c = counted later in
      taking (run es w) p b (subst (λ (i : ℕ). Going i b (run es w)) c later) (subst (λ (i : ℕ). p < most_slots * i) c l) e

  of_events : OfEvents es w
  of_events = record {
    finished = whole;
    refusals = λ e. refusals n b (run es w) e later;
    takes = λ e p l. taking_later e p l;
    reported = reported n b es w going s.steps s.runs.laid.desk.state;
    as_plain = run_plain es w (λ v m. fit (going_at n b es w v going m));
    calls = calls (run es w) (fit later);
    timing = timing n b (run es w) later;
    progress = progress n b (run es w) later;
    done = gets_done n b es w s.runs s.steps;
    stays = record { copy = finish_stays; stop = stop_stays };
    never_full = full_never;
    step_answer_lem = λ a. answer_is (run es w) later a ∙ ap (λ (c : ℕ). told (Ok (c + 1))) (steps_counted n b es w 0 going s.steps);
  }

-- ---- the opening start
pub open_start : (v : World) → Opens v
unfolding next
open_start v = record {
  accepts = λ r i a. ap (λ (x : Told). eqb x.number 0) (start_accepts v r i a);
  store = starts_keep v;
}

pub lists : (v : World) → accepted starts v ≡ true → (es : List Event) → OfEvents es (next starts v)
lists v a es =
    let o = opens v a in
    let n = count_of (next starts v) in
    let b = image_blocks n (length v.image) in
    of_events b (next starts v) (opened_runs n b v o (ap count_of o.is) refl) es
