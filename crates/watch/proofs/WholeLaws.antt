-- "The call does what that many single steps would": k single steps leave what a burst of k leaves, on any bytes.
use Prim.Native.Nat.{ℕ, zero, suc, ◌+◌, ◌*◌, ◌≤◌}
use mathlib.Core.Path.{◌≡◌, refl, sym, ap, ◌∙◌, subst}
use mathlib.Core.Bool.{Bool, true, false, not, ◌&&◌, true≢false}
use mathlib.Core.List.{List, [], ◌∷◌, ◌++◌}
use mathlib.Core.Logic.{◌⊎◌}
use native.Mathlib.Decide.{ℕ_discrete}
use native.Mathlib.Omega.{arith}
use borrow.Author.Tests.{eqb-true, eqb-false, ne_eqb}
use Rattle.bounded.specs.Search.{pick}
use Rattle.bounded.proofs.BoolLaws.{and_right}
use Rattle.bounded.proofs.SearchLaws.{by_pick}
use Rattle.bounded.proofs.ReflectLaws.{r_fails}
use Rattle.layout.specs.Sizes.{is_complete}
use Rattle.layout.specs.Header.{header_of}
use Rattle.desk.specs.Sizes.{running, finished, stopped, steps_an_inode}
use Rattle.desk.specs.Desk.{desk_of}
use Rattle.sound.specs.declared.Form.TheVariants.{Store}
use Rattle.sound.specs.Test.{is_sound}
use Rattle.answers.specs.declared.Refusal.TheVariants.{ImageFull}
use Rattle.answers.specs.Refusal.{refusal_number}
use Rattle.checkpoint.specs.Fit.{is_running, notes_fit, both_framed}
use Rattle.checkpoint.specs.Live.{World, Outcome, step, world_in}
use Rattle.checkpoint.specs.List.{Event, call, advances, asks, starts, outcome, next, refusal_of, accepted, completes, restarts, run}
use Rattle.checkpoint.specs.Burst.{count_allowed, tries, tries_of, burst, Act, one, bursts, singles}
use Rattle.checkpoint.proofs.DecisionLaws.{three_is}
use Rattle.checkpoint.proofs.BurstLaws.{burst_world}
use Rattle.checkpoint.proofs.Copy.FitLaws.{image_fits_is, notes_fit_is}
use Rattle.checkpoint.specs.Finished.{count_of}
use Rattle.checkpoint.specs.Progress.{no_restart, Roomy}
use Rattle.checkpoint.proofs.OfEvents.{tried, GetsDone}
use Rattle.watch.specs.Received.{steps_asked}
use Rattle.watch.specs.Claim.{that_many}
use Rattle.watch.proofs.SinglesLaws.{run_on, Steps, none, more, burst_steps}
use Rattle.watch.proofs.KeepLaws.{keeps, stops}

still : (k : ℕ) (v : World) → next advances v ≡ v → run (that_many k) v ≡ v
unfolding run
still zero v h = refl
still (suc k) v h = ap (run (that_many k)) h ∙ still k v h

module _ (w : World) where
  abbrev Leaves : Outcome → Type 0
  Leaves o = world_in o ≡ w

  idle : is_running w.desk ≡ false → next advances w ≡ w
  unfolding next outcome step
  idle h =
      subst Leaves (sym (three_is w.store w.image w.desk _))
      (by_pick Leaves (not (both_framed w.store w.desk)) refl
      (by_pick Leaves (not (is_sound Store w.store)) refl
      (by_pick Leaves (not (notes_fit w.store w.image w.desk)) refl (rw h refl))))

  unfit : notes_fit w.store w.image w.desk ≡ false → next advances w ≡ w
  unfolding next outcome step
  unfit h =
      subst Leaves (sym (three_is w.store w.image w.desk _))
      (by_pick Leaves (not (both_framed w.store w.desk)) refl
      (by_pick Leaves (not (is_sound Store w.store)) refl (rw h refl)))

  unframed : both_framed w.store w.desk ≡ false → next advances w ≡ w
  unfolding next outcome step
  unframed h = subst Leaves (sym (three_is w.store w.image w.desk _)) (rw h refl)

  over : (header_of w.image).complete ≡ is_complete → next advances w ≡ w
  over c = go (is_running w.desk) refl
    where
      go : (b : Bool) → is_running w.desk ≡ b → next advances w ≡ w
      go false e = idle e
      go true e = unfit (r_fails (notes_fit_is w.store w.image w.desk) (λ t. let z = ((image_fits_is w.store w.image w.desk).to (t.1.1 e)).1.1.1.1.0 in omega arith))

  at_rest : (desk_of w.desk).state ≡ 3 → next advances w ≡ w
  unfolding is_running
  at_rest h = idle (ne_eqb (desk_of w.desk).state running (λ e. omega arith))

rests : (w : World) → accepted advances w && not (completes advances w) ≡ false → next advances (next advances w) ≡ next advances w
unfolding next
rests w h = go (accepted advances w) refl (completes advances w) refl h
  where
    refused : (refusal_of advances w ≡ 0 → ⊥) → Dec (refusal_of advances w ≡ refusal_number ImageFull) → next advances (next advances w) ≡ next advances w
    refused z (yes q) = at_rest (next advances w) (stops w (one advances) q).1.state
    refused z (no q) = ap (next advances) (keeps w (one advances) z q)

    go : (a : Bool) → accepted advances w ≡ a → (f : Bool) → completes advances w ≡ f → a && not f ≡ false → next advances (next advances w) ≡ next advances w
    go false e f g k = refused (eqb-false (refusal_of advances w) 0 e) (ℕ_discrete (refusal_of advances w) (refusal_number ImageFull))
    go true e true g k = over (next advances w) (eqb-true _ _ (and_right (accepted advances w) _ g))
    go true e false g k = absurd (true≢false k)

pub whole : (k : ℕ) (w : World) → run (that_many k) w ≡ run (tries k w) w
unfolding run tries
whole zero w = refl
whole (suc k) w = go (accepted advances w && not (completes advances w)) refl (whole k (next advances w))
  where
    go : (b : Bool) → accepted advances w && not (completes advances w) ≡ b → run (that_many k) (next advances w) ≡ run (tries k (next advances w)) (next advances w)
        → run (that_many k) (next advances w) ≡ run (pick b (tries k (next advances w)) []) (next advances w)
    go true e h = h
    go false e h = still k (next advances w) (rests w e)

pub that_many_lem : (k : ℕ) (w : World) → both_framed w.store w.desk ≡ true → count_allowed k ≡ true → world_in (burst k w) ≡ run (that_many k) w
unfolding tries_of
that_many_lem k w f a = burst_world k w ∙ rw (f, a) (sym (whole k w))

-- ---- a list in which each burst is as many steps as it was asked for
abbrev pub whole_burst : ℕ → List Event
whole_burst k = pick (count_allowed k) (that_many k) []

abbrev pub wholes : List Act → List Event
wholes [] = []
wholes (one e ∷ xs) = e ∷ wholes xs
wholes (bursts k ∷ xs) = whole_burst k ++ wholes xs

burst_whole : (k : ℕ) (w : World) → run (whole_burst k) w ≡ run (tries_of k w) w
unfolding tries_of run
burst_whole k w = go (both_framed w.store w.desk) refl (count_allowed k)
  where
    go : (f : Bool) → both_framed w.store w.desk ≡ f → (a : Bool) → run (pick a (that_many k) []) w ≡ run (pick (f && a) (tries k w) []) w
    go true e true = whole k w
    go true e false = refl
    go false e true = still k w (unframed w e)
    go false e false = refl

pub wholes_run : (xs : List Act) (w : World) → run (wholes xs) w ≡ run (singles xs w) w
unfolding run singles
wholes_run [] w = refl
wholes_run (one e ∷ xs) w = wholes_run xs (next e w)
wholes_run (bursts k ∷ xs) w =
    run_on (whole_burst k) (wholes xs) w ∙ wholes_run xs (run (whole_burst k) w) ∙ ap (λ (v : World). run (singles xs v) v) (burst_whole k w)
    ∙ sym (run_on (tries_of k w) (singles xs (run (tries_of k w) w)) w)

many_steps : (k : ℕ) → Steps (that_many k)
many_steps zero = none
many_steps (suc k) = more (many_steps k)

whole_steps : (k : ℕ) → Steps (whole_burst k)
whole_steps k = by_pick Steps (count_allowed k) (many_steps k) none

skips : {es : List Event} → Steps es → (gs : List Event) (w : World) → no_restart (es ++ gs) w ≡ no_restart gs (run es w)
unfolding no_restart run
skips none gs w = refl
skips (more s) gs w = skips s gs (next advances w)

same_starts : (xs : List Act) (w : World) → no_restart (wholes xs) w ≡ no_restart (singles xs w) w
unfolding no_restart singles
same_starts [] w = refl
same_starts (one e ∷ xs) w = ap (λ (b : Bool). not (restarts e w) && b) (same_starts xs (next e w))
same_starts (bursts k ∷ xs) w =
    skips (whole_steps k) (wholes xs) w ∙ same_starts xs (run (whole_burst k) w) ∙ ap (λ (v : World). no_restart (singles xs v) v) (burst_whole k w)
    ∙ sym (skips (burst_steps k w) (singles xs (run (tries_of k w) w)) w)

tried_many : (k : ℕ) (gs : List Event) → tried (that_many k ++ gs) ≡ k + tried gs
unfolding tried
tried_many zero gs = omega arith
tried_many (suc k) gs = let h = tried_many k gs in omega arith

tried_whole : (k : ℕ) (gs : List Event) → tried (whole_burst k ++ gs) ≡ pick (count_allowed k) k 0 + tried gs
tried_whole k gs = go (count_allowed k)
  where
    go : (a : Bool) → tried (pick a (that_many k) [] ++ gs) ≡ pick a k 0 + tried gs
    go true = tried_many k gs
    go false = omega arith

tried_wholes : (xs : List Act) → tried (wholes xs) ≡ steps_asked xs
unfolding tried
tried_wholes [] = refl
tried_wholes (one advances ∷ xs) = ap suc (tried_wholes xs)
tried_wholes (one (call c) ∷ xs) = tried_wholes xs
tried_wholes (one asks ∷ xs) = tried_wholes xs
tried_wholes (one starts ∷ xs) = tried_wholes xs
tried_wholes (bursts k ∷ xs) = tried_whole k (wholes xs) ∙ ap (λ (y : ℕ). pick (count_allowed k) k 0 + y) (tried_wholes xs)

-- so a list gets done by the steps that it asks for
module _ (xs : List Act) (w : World) (d : GetsDone (wholes xs) w) where
  pub asked_ended : no_restart (singles xs w) w ≡ true → steps_an_inode * count_of w + 1 ≤ steps_asked xs
      → ((desk_of (run (singles xs w) w).desk).state ≡ finished) ⊎ ((desk_of (run (singles xs w) w).desk).state ≡ stopped)
  asked_ended n h =
      subst (λ (v : World). ((desk_of v.desk).state ≡ finished) ⊎ ((desk_of v.desk).state ≡ stopped)) (wholes_run xs w)
      (d.ended (same_starts xs w ∙ n) (omega (arith, tried_wholes xs)))

  pub asked_complete : Roomy w → no_restart (singles xs w) w ≡ true → steps_an_inode * count_of w + 1 ≤ steps_asked xs
      → ((desk_of (run (singles xs w) w).desk).state ≡ finished) × ((header_of (run (singles xs w) w).image).complete ≡ is_complete)
  asked_complete r n h =
      subst (λ (v : World). ((desk_of v.desk).state ≡ finished) × ((header_of v.image).complete ≡ is_complete)) (wholes_run xs w)
      (d.complete r (same_starts xs w ∙ n) (omega (arith, tried_wholes xs)))
