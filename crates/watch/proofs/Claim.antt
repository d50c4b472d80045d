-- The demands are met by every list of calls, and the claim holds: the contracts make a list of calls on the code the run of its definitions (`made`).
use Rattle.std.specs.Prelude.{Ok}
use Prim.Native.Nat.{ℕ, suc, ◌+◌}
use mathlib.Core.Path.{◌≡◌, refl, sym, ap, ◌∙◌}
use mathlib.Core.Bool.{true, false}
use mathlib.Core.List.{List, [], ◌∷◌, ◌++◌}
use native.Mathlib.Omega.{arith}
use borrow.Author.Tests.{eqb-true, eq-eqb}
use Rattle.bounded.specs.Search.{pick}
use Rattle.bounded.proofs.BoolLaws.{clash}
use Rattle.answers.specs.Told.{told}
use Rattle.files.specs.Effect.{Call}
use Rattle.files.specs.Plain.{Received, got}
use Rattle.checkpoint.specs.Live.{World, Outcome, world_in, live, out_of}
use Rattle.checkpoint.specs.List.{Event, call, advances, asks, starts, outcome, next, accepted, run, Finish, accepted_steps}
use Rattle.checkpoint.specs.Burst.{burst, tries_of, Act, one, bursts, singles}
use Rattle.checkpoint.specs.Finished.{Finished}
use Rattle.checkpoint.specs.Progress.{no_restart}
use Rattle.checkpoint.proofs.BurstLaws.{burst_world}
use Rattle.checkpoint.proofs.BurstTables.{Ends, lengths, number, first, counts, ends}
use Rattle.checkpoint.proofs.OfEvents as events
use Rattle.checkpoint.proofs.OfEvents.{is_busy, OfEvents}
use Rattle.checkpoint.proofs.Demands.{open_start, lists}
use Rattle.watch.specs.Received.{received, count_told, steps_told, heard, replies}
use Rattle.watch.specs.Demand.{Demand, Demands}
use Rattle.watch.specs.Made.{Did}
use Rattle.watch.specs.Claim.{BurstIsSteps, Delivered, Claim}
use Rattle.watch.proofs.SinglesLaws.{run_on, singles_ones, burst_steps, heard_on, replies_on, count_on}
use Rattle.watch.proofs.MadeLaws.{did, AllDefined, made}
use Rattle.watch.proofs.WholeLaws.{that_many_lem, wholes, asked_ended, asked_complete}
use Rattle.watch.proofs.NextLaws.{next_burst}

-- ---- a burst that is answered
-- its count is told
count_told_lem : (k : ℕ) (w : World) → count_told (got (burst k w).answer []) ≡ accepted_steps (tries_of k w) w 0
unfolding accepted_steps outcome
count_told_lem k w = go (ends k w)
  where
    go : Ends k w → count_told (got (burst k w).answer []) ≡ accepted_steps (tries_of k w) w 0
    go (lengths f e t) = rw (e, t)
    go (number f a e t) = rw (e, t)
    go (first f a r e t) = rw (e, t, r)
    go (counts f a r e) = rw e

-- ---- what is told by the callers is what is told by the definitions
steps_told_lem : (xs : List Act) (w : World) (c : ℕ) → steps_told xs (received xs w) c ≡ accepted_steps (singles xs w) w c
unfolding steps_told received accepted_steps singles next
steps_told_lem [] w c = refl
steps_told_lem (one starts ∷ xs) w c = steps_told_lem xs (next starts w) (pick (accepted starts w) 0 c)
steps_told_lem (one advances ∷ xs) w c = steps_told_lem xs (next advances w) (pick (accepted advances w) (suc c) c)
steps_told_lem (one (call x) ∷ xs) w c = steps_told_lem xs (next (call x) w) c
steps_told_lem (one asks ∷ xs) w c = steps_told_lem xs (next asks w) c
steps_told_lem (bursts k ∷ xs) w c =
    steps_told_lem xs (world_in (burst k w)) (c + count_told (got (burst k w).answer []))
    ∙ rw (count_told_lem k w, burst_world k w) (sym (count_on (burst_steps k w) (singles xs (run (tries_of k w) w)) w c))

heard_told : (xs : List Act) (w : World) → heard xs (received xs w) ≡ events.heard (singles xs w) w
unfolding heard received events.heard outcome singles next
heard_told [] w = refl
heard_told (one (call c) ∷ xs) w = ap (λ (cs : List Call). pick (is_busy c w) cs (c ∷ cs)) (heard_told xs (next (call c) w))
heard_told (one advances ∷ xs) w = heard_told xs (next advances w)
heard_told (one asks ∷ xs) w = heard_told xs (next asks w)
heard_told (one starts ∷ xs) w = heard_told xs (next starts w)
heard_told (bursts k ∷ xs) w = heard_told xs (world_in (burst k w)) ∙ rw (burst_world k w) (sym (heard_on (burst_steps k w) (singles xs (run (tries_of k w) w)) w))

replies_told : (xs : List Act) (w : World) → replies xs (received xs w) ≡ events.replies (singles xs w) w
unfolding replies received events.replies outcome singles next
replies_told [] w = refl
replies_told (one (call c) ∷ xs) w = ap (λ (rs : List Received). pick (is_busy c w) rs (got (live c w).answer (out_of c w) ∷ rs)) (replies_told xs (next (call c) w))
replies_told (one advances ∷ xs) w = replies_told xs (next advances w)
replies_told (one asks ∷ xs) w = replies_told xs (next asks w)
replies_told (one starts ∷ xs) w = replies_told xs (next starts w)
replies_told (bursts k ∷ xs) w = replies_told xs (world_in (burst k w)) ∙ rw (burst_world k w) (sym (replies_on (burst_steps k w) (singles xs (run (tries_of k w) w)) w))

-- ---- the copy that was finished by fs stays
module _ (es fs gs : List Event) (w : World) (d : OfEvents fs w) (e : es ≡ fs ++ gs) (f : Finish fs w) (h : no_restart gs (run fs w) ≡ true) where
  onward : run es w ≡ run gs (run fs w)
  onward = ap (λ (xs : List Event). run xs w) e ∙ run_on fs gs w

  stays_finished : Finished fs w (run es w).image (run es w).desk
  stays_finished =
      let image : (run es w).image ≡ (run fs w).image = ap (λ (v : World). v.image) onward ∙ (d.stays.copy f gs h).0 in
      let desk : (run es w).desk ≡ (run fs w).desk = ap (λ (v : World). v.desk) onward ∙ (d.stays.copy f gs h).1 in
      rw (image, desk) (d.finished f)

-- ---- a list meets the demands
meets : (xs : List Act) (w : World) → ((fs : List Event) → OfEvents fs w) → Demand xs w (received xs w) (run (singles xs w) w)
meets xs w ds =
    let es = singles xs w in
    let d = ds es in
    let count = steps_told_lem xs w 0 in
    let calls = heard_told xs w in
    record {
      finished = λ fs gs e f h. stays_finished es fs gs w (ds fs) e f h;
      reported = record { reports = rw count d.reported.reports; steps = count; bound = rw count d.reported.bound; byte = d.reported.byte; count = d.reported.count };
      as_plain = record { store = rw calls d.as_plain.store; answers = rw calls (replies_told xs w ∙ d.as_plain.answers) };
      done = record { ended = asked_ended xs w (ds (wholes xs)).done; complete = asked_complete xs w (ds (wholes xs)).done };
      refusals = d.refusals;
      takes = d.takes;
      calls = d.calls;
      timing = d.timing;
      progress = d.progress;
      bursts = next_burst es w ds;
      step_answer_lem = rw count d.step_answer_lem;
      never_full = d.never_full;
      stays = d.stays;
    }

pub demands : Demands
demands = record { opens = open_start; lists = λ v a xs. meets xs (next starts v) (lists v a) }

-- and so does a list of calls on the code
delivers : {xs : List Act} {w u : World} {rs : List Received} → AllDefined xs w rs u → ((fs : List Event) → OfEvents fs w) → Delivered xs w rs u
delivers {xs} {w} {u} {rs} h ds = rw (h.world, h.got) (record { world = refl; got = refl; demand = meets xs w ds })

-- ---- a burst on any bytes
module _ (k : ℕ) (w : World) where
  numbered : {o : Outcome} → burst k w ≡ o → (burst k w).answer.number ≡ 0 → o.answer.number ≡ 0
  numbered e h = sym (ap (λ (o : Outcome). o.answer.number) e) ∙ h

  its_count : (burst k w).answer.number ≡ 0 → (burst k w).answer ≡ told (Ok (accepted_steps (tries_of k w) w 0))
  unfolding outcome
  its_count h = go (ends k w)
    where
      go : Ends k w → (burst k w).answer ≡ told (Ok (accepted_steps (tries_of k w) w 0))
      go (lengths f e t) = absurd (omega (arith, numbered e h))
      go (number f a e t) = absurd (omega (arith, numbered e h))
      go (first f a r e t) = absurd (clash (accepted advances w) (eq-eqb _ 0 (numbered e h)) r)
      go (counts f a r e) = e

  its_first : (es : List Event) → tries_of k w ≡ advances ∷ es → accepted advances w ≡ false → (burst k w).answer ≡ (outcome advances w).answer
  unfolding outcome
  its_first es t r = go (ends k w)
    where
      go : Ends k w → (burst k w).answer ≡ (outcome advances w).answer
      go (lengths f e n) = let z : ◌≡◌ {A = ℕ} 0 1 = cc in absurd (omega arith)
      go (number f a e n) = let z : ◌≡◌ {A = ℕ} 0 1 = cc in absurd (omega arith)
      go (first f a q e n) = ap (λ (o : Outcome). o.answer) e
      go (counts f a q e) = absurd (clash (accepted advances w) q r)

  is_steps : BurstIsSteps k w (got (burst k w).answer []) (world_in (burst k w))
  is_steps = record { bytes = burst_world k w; whole = that_many_lem k w; count = its_count; first = its_first }

-- ---- the opening start
module _ {v w : World} {a : Received} (s : Did (one starts) v a w) where
  number_is : a.answer.number ≡ (outcome starts v).answer.number
  number_is = ap (λ (x : Received). x.answer.number) (did s).got

  after_start : a.answer.number ≡ 0 → (es : List Event) → OfEvents es w
  unfolding next
  after_start h es = rw (did s).world (lists v (eq-eqb (outcome starts v).answer.number 0 (sym number_is ∙ h)) es)

  zero_if : accepted starts v ≡ true → a.answer.number ≡ 0
  zero_if h = number_is ∙ eqb-true (outcome starts v).answer.number 0 h

  store_stays : w.store ≡ v.store
  unfolding next
  store_stays = ap (λ (x : World). x.store) (did s).world ∙ (open_start v).store

pub claim : Claim
claim = record {
  lists = λ s h m. delivers (made m) (after_start s h);
  as_steps = λ {k} {w} b. rw ((did b).world, (did b).got) (is_steps k w);
  alike = λ {w} {xs = xs} m n. (made n).world ∙ ap (λ (es : List Event). run es w) (singles_ones (singles xs w) w) ∙ sym (made m).world;
  opens = λ {v = v} s r i m. zero_if s ((open_start v).accepts r i m);
  store = λ s. store_stays s;
  defined = did;
}
