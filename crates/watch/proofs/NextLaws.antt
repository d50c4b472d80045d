-- A burst as the next call of a list: by what the demands say of the step in its place.
use Rattle.std.specs.Prelude.{Err, Ok}
use Prim.Native.Nat.{ℕ, zero, suc, ◌+◌}
use mathlib.Core.Path.{◌≡◌, refl, sym, ap, ◌∙◌, subst}
use mathlib.Core.Bool.{Bool, true, false, not, ◌&&◌}
use mathlib.Core.List.{List, [], ◌∷◌, ◌++◌}
use native.Mathlib.Decide.{ℕ_discrete}
use native.Mathlib.Omega.{arith}
use borrow.Author.Tests.{eqb-true, eqb-false, ne_eqb}
use lib.Dec.{eqb}
use Rattle.bounded.specs.Search.{pick}
use Rattle.bounded.proofs.BoolLaws.{clash, never as impossible}
use Rattle.desk.specs.Sizes.{running, finished, stopped}
use Rattle.desk.specs.Desk.{desk_of}
use Rattle.answers.specs.declared.Refusal.TheVariants.{WrongState, ImageFull, BadCount}
use Rattle.answers.specs.Refusal.{refusal_number}
use Rattle.answers.specs.Told.{Told, told}
use Rattle.checkpoint.specs.Fit.{is_running, both_framed}
use Rattle.checkpoint.specs.Live.{World, Outcome, step, world_in}
use Rattle.checkpoint.specs.List.{Event, advances, outcome, next, refusal_of, accepted, completes, run, accepted_steps}
use Rattle.checkpoint.specs.Burst.{count_allowed, tries, tries_of, burst}
use Rattle.checkpoint.specs.Progress.{Refusals, Progress}
use Rattle.checkpoint.proofs.OfEvents.{OfEvents}
use Rattle.checkpoint.proofs.DecisionLaws.{three_is}
use Rattle.checkpoint.proofs.BurstLaws.{burst_world}
use Rattle.checkpoint.proofs.BurstTables.{Ends, lengths, number, first, counts, ends}
use Rattle.watch.specs.Demand.{NextBurst}
use Rattle.watch.proofs.SinglesLaws.{run_on}

-- ---- steps that are all accepted
-- at rest
rests_at : (w : World) (x : ℕ) → (desk_of w.desk).state ≡ x → (x ≡ 1 → ⊥) → is_running w.desk ≡ false
unfolding is_running
rests_at w x e n = ne_eqb (desk_of w.desk).state running (λ q. n (sym e ∙ q))

-- where the copy still runs after k tried steps, all k were accepted. The laws hold at every moment of the steps
all_taken : (k c : ℕ) (u : World) → ((es : List Event) → Progress (run es u) × Refusals advances (run es u)) → is_running (run (tries k u) u).desk ≡ true → accepted_steps (tries k u) u c ≡ c + k
unfolding tries run accepted_steps
all_taken zero c u laws h = omega arith
all_taken (suc k) c u laws h = go (λ r. all_taken k (suc c) (next advances u) (λ es. laws (advances ∷ es)) r) (accepted advances u) refl (completes advances u) refl
  where
    goes_on : {a : Bool} → accepted advances u ≡ a → accepted advances u && not (completes advances u) ≡ a && not (completes advances u)
    goes_on e = ap (λ (a : Bool). a && not (completes advances u)) e

    -- no step is left once one was refused or has finished the copy
    last_runs : accepted advances u && not (completes advances u) ≡ false → is_running (next advances u).desk ≡ true
    last_runs e = rw e at h

    more_runs : accepted advances u && not (completes advances u) ≡ true → is_running (run (tries k (next advances u)) (next advances u)).desk ≡ true
    more_runs e = rw e at h

    refused : accepted advances u ≡ false → is_running (next advances u).desk ≡ true → Dec (refusal_of advances u ≡ refusal_number ImageFull) → ⊥
    refused e r (yes q) = clash (is_running (next advances u).desk) r (rests_at (next advances u) stopped ((laws []).1.stops q).state (λ z. omega arith))
    refused e r (no q) =
        let same = (laws []).1.keeps (eqb-false (refusal_of advances u) 0 e) q in
        clash (accepted advances u) ((laws []).0.moves (rw same at r) q) e

    go : (is_running (run (tries k (next advances u)) (next advances u)).desk ≡ true → accepted_steps (tries k (next advances u)) (next advances u) (suc c) ≡ suc c + k)
        → (a : Bool) → accepted advances u ≡ a → (f : Bool) → completes advances u ≡ f → accepted_steps (tries (suc k) u) u c ≡ c + suc k
    go ih true e false g =
        let p = goes_on e ∙ ap not g in
        ap (λ (b : Bool). accepted_steps (advances ∷ pick b (tries k (next advances u)) []) u c) p
        ∙ ap (λ (a : Bool). accepted_steps (tries k (next advances u)) (next advances u) (pick a (suc c) c)) e
        ∙ ih (more_runs p) ∙ omega arith
    go ih true e true g = absurd (clash (is_running (next advances u).desk) (last_runs (goes_on e ∙ ap not g)) (rests_at (next advances u) finished ((laws []).0.ends g).state (λ z. omega arith)))
    go ih false e f g = absurd (refused e (last_runs (goes_on e)) (ℕ_discrete (refusal_of advances u) (refusal_number ImageFull)))

-- a burst of which the first step is refused takes none
none_taken : (k : ℕ) (u : World) → count_allowed k ≡ true → accepted advances u ≡ false → accepted_steps (tries k u) u 0 ≡ k → ⊥
unfolding tries accepted_steps
none_taken zero u a r h = impossible a
none_taken (suc k) u a r h =
    let z : accepted_steps (tries (suc k) u) u 0 ≡ 0 =
    ap (λ (b : Bool). accepted_steps (advances ∷ pick (b && not (completes advances u)) (tries k (next advances u)) []) u 0) r
    ∙ ap (λ (b : Bool). pick b 1 0) r in
    omega arith

-- ---- the call
module _ (es : List Event) (w : World) (ds : (fs : List Event) → OfEvents fs w) (k : ℕ) where
  abbrev u : World
  u = run es w

  laws_at : (fs : List Event) → Progress (run fs u) × Refusals advances (run fs u)
  laws_at fs = subst (λ (v : World). Progress v × Refusals advances v) (run_on es fs w) ((ds (es ++ fs)).progress, (ds (es ++ fs)).refusals advances)

  d : OfEvents es w
  d = ds es

  -- 1 would come to the step too
  unframed : both_framed u.store u.desk ≡ false → ⊥
  unfolding outcome step
  unframed f = (d.refusals advances).buffers (ap (λ (o : Outcome). o.answer.number) (three_is u.store u.image u.desk _) ∙ rw f refl)

  number_of : {o : Outcome} → burst k u ≡ o → (burst k u).answer.number ≡ o.answer.number
  number_of e = ap (λ (o : Outcome). o.answer.number) e

  -- its number is 0, or 17, or the step's
  never : (x : ℕ) → (x ≡ 0 → ⊥) → (x ≡ refusal_number BadCount → ⊥) → (refusal_of advances u ≡ x → ⊥) → (burst k u).answer.number ≡ x → ⊥
  unfolding outcome
  never x z y n h = go (ends k u)
    where
      go : Ends k u → ⊥
      go (lengths f e t) = unframed f
      go (number f a e t) = y (sym h ∙ number_of e)
      go (first f a r e t) = n (sym (number_of e) ∙ h)
      go (counts f a r e) = z (sym h ∙ ap (λ (x : Told). x.number) e)

  wrong : count_allowed k ≡ false → (burst k u).answer ≡ told (Err BadCount)
  wrong c = go (ends k u)
    where
      go : Ends k u → (burst k u).answer ≡ told (Err BadCount)
      go (lengths f e t) = absurd (unframed f)
      go (number f a e t) = ap (λ (o : Outcome). o.answer) e
      go (first f a r e t) = absurd (clash (count_allowed k) a c)
      go (counts f a r e) = absurd (clash (count_allowed k) a c)

  -- a step is never answered with 17
  no_count : refusal_of advances u ≡ 17 → ⊥
  no_count h = go (is_running u.desk) refl
    where
      go : (b : Bool) → is_running u.desk ≡ b → ⊥
      go true e = let z = eqb-true (refusal_of advances u) 0 (d.progress.moves e (λ q. omega arith)) in absurd (omega arith)
      go false e = let z : refusal_of advances u ≡ 15 = ap (λ (x : Told). x.number) (d.timing.late e) in absurd (omega arith)

  allowed : count_allowed k ≡ true → (burst k u).answer.number ≡ refusal_number BadCount → ⊥
  unfolding outcome
  allowed c h = go (ends k u)
    where
      go : Ends k u → ⊥
      go (lengths f e t) = unframed f
      go (number f a e t) = clash (count_allowed k) c a
      go (first f a r e t) = no_count (sym (number_of e) ∙ h)
      go (counts f a r e) = let z : ◌≡◌ {A = ℕ} 0 17 = sym (ap (λ (x : Told). x.number) e) ∙ h in absurd (omega arith)

  late : count_allowed k ≡ true → is_running u.desk ≡ false → (burst k u).answer ≡ told (Err WrongState)
  unfolding outcome
  late c i = go (ends k u)
    where
      go : Ends k u → (burst k u).answer ≡ told (Err WrongState)
      go (lengths f e t) = absurd (unframed f)
      go (number f a e t) = absurd (clash (count_allowed k) c a)
      go (first f a r e t) = ap (λ (o : Outcome). o.answer) e ∙ d.timing.late i
      go (counts f a r e) = absurd (clash (accepted advances u) r (ap (λ (x : Told). eqb x.number 0) (d.timing.late i)))

  all : count_allowed k ≡ true → is_running (world_in (burst k u)).desk ≡ true → (burst k u).answer ≡ told (Ok k)
  unfolding outcome tries_of
  all c i = go (ends k u)
    where
      framed : both_framed u.store u.desk ≡ true → both_framed u.store u.desk && count_allowed k ≡ true
      framed f = ap (λ (b : Bool). b && count_allowed k) f ∙ c

      runs_on : both_framed u.store u.desk ≡ true → is_running (run (tries k u) u).desk ≡ true
      runs_on f = subst (λ (b : Bool). is_running (run (pick b (tries k u) []) u).desk ≡ true) (framed f) (subst (λ (v : World). is_running v.desk ≡ true) (burst_world k u) i)

      taken : both_framed u.store u.desk ≡ true → accepted_steps (tries k u) u 0 ≡ k
      taken f = all_taken k 0 u laws_at (runs_on f) ∙ omega arith

      -- where the first is refused, the steps tried are fewer than were asked for
      go : Ends k u → (burst k u).answer ≡ told (Ok k)
      go (lengths f e t) = absurd (unframed f)
      go (number f a e t) = absurd (clash (count_allowed k) c a)
      go (first f a r e t) = absurd (none_taken k u a r (taken f))
      go (counts f a r e) = e ∙ ap (λ (x : ℕ). told (Ok x)) (ap (λ (b : Bool). accepted_steps (pick b (tries k u) []) u 0) (framed f) ∙ taken f)

  pub next_burst : NextBurst k w u (burst k u).answer (world_in (burst k u))
  next_burst = record {
    buffers = never 1 (λ z. omega arith) (λ z. omega arith) (d.refusals advances).buffers;
    store = never 2 (λ z. omega arith) (λ z. omega arith) (d.refusals advances).store;
    desk = never 3 (λ z. omega arith) (λ z. omega arith) (d.refusals advances).desk;
    wrong = wrong;
    allowed = allowed;
    late = late;
    all = all;
    never_full = λ r. never 16 (λ z. omega arith) (λ z. omega arith) (d.never_full r);
  }
