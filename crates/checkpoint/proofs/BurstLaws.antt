-- A burst is the single steps that it tried, on any bytes: the same bytes, and as many accepted as it reports.
use Rattle.std.specs.Prelude.{Ok}
use Prim.Native.Nat.{ℕ, zero, suc}
use mathlib.Core.Path.{◌≡◌, refl, ap, ◌∙◌}
use mathlib.Core.Bool.{Bool, true, false, not, ◌&&◌}
use mathlib.Core.List.{List, []}
use native.Mathlib.Omega.{arith}
use lib.Dec.{eqb}
use lib.ListN.{get_or}
use Rattle.bounded.specs.Search.{pick}
use Rattle.bounded.proofs.BoolLaws.{clash, never}
use Rattle.answers.specs.declared.Refusal.TheVariants.{BadBuffer, BadCount}
use Rattle.answers.specs.Told.{Told, told}
use Rattle.checkpoint.specs.Fit.{both_framed}
use Rattle.checkpoint.specs.Live.{World, refuse, step, world_in}
use Rattle.checkpoint.specs.List.{Event, advances, outcome, next, accepted, completes, run, accepted_steps}
use Rattle.checkpoint.specs.Burst.{count_allowed, burst_from, burst, tries, tries_of}

-- ---- the bytes
pub burst_tries : (k c : ℕ) (w : World) → world_in (burst_from k c w) ≡ run (tries k w) w
unfolding burst_from tries run next outcome
burst_tries zero c w = refl
burst_tries (suc k) c w = go (accepted advances w) refl (completes advances w) refl (eqb c 0) refl (burst_tries k (suc c) (next advances w))
  where
    go : (a : Bool) → accepted advances w ≡ a → (x : Bool) → completes advances w ≡ x → (y : Bool) → eqb c 0 ≡ y
        → world_in (burst_from k (suc c) (next advances w)) ≡ run (tries k (next advances w)) (next advances w) → world_in (burst_from (suc k) c w) ≡ run (tries (suc k) w) w
    go true e true f y g h = rw (f, e)
    go true e false f y g h = rw (f, e) h
    go false e x f true g h = rw (e, g)
    go false e x f false g h = rw (e, g)

-- "single steps in the same order of events give the same bytes"
pub burst_world : (k : ℕ) (w : World) → world_in (burst k w) ≡ run (tries_of k w) w
unfolding burst tries_of run
burst_world k w = go (both_framed w.store w.desk) (count_allowed k)
  where
    go : (a b : Bool) → world_in (pick (not a) (refuse BadBuffer w.store w.image w.desk) (pick (not b) (refuse BadCount w.store w.image w.desk) (burst_from k 0 w))) ≡ run (pick (a && b) (tries k w) []) w
    go true true = burst_tries k 0 w
    go true false = refl
    go false b = refl

-- ---- the count: where the burst is accepted, it is the number of accepted steps among those tried
same_told : (c x : ℕ) → told (Ok c) ≡ told (Ok x) → c ≡ x
same_told c x h = ap (λ (t : Told). get_or t.values 0 0) h

-- what is counted of a step that is refused, of the last one, and of another
module _ (a f : Bool) (ts : List Event) (v : World) (c : ℕ) where
  abbrev counted : ℕ
  counted = accepted_steps (pick (a && not f) ts []) v (pick a (suc c) c)

  counts_none : a ≡ false → counted ≡ c
  unfolding accepted_steps
  counts_none e = rw e

  counts_last : a ≡ true → f ≡ true → counted ≡ suc c
  unfolding accepted_steps
  counts_last e g = rw (e, g)

  counts_on : a ≡ true → f ≡ false → counted ≡ accepted_steps ts v (suc c)
  counts_on e g = rw (e, g)

steps_from : (k c : ℕ) (w : World) (x : ℕ) → (burst_from k c w).answer ≡ told (Ok x) → accepted_steps (tries k w) w c ≡ x
unfolding burst_from tries accepted_steps outcome
steps_from zero c w x h = same_told c x h
steps_from (suc k) c w x h = go (accepted advances w) refl (completes advances w) refl (eqb c 0) refl (steps_from k (suc c) (next advances w) x) h
  where
    go : (a : Bool) → accepted advances w ≡ a → (f : Bool) → completes advances w ≡ f → (y : Bool) → eqb c 0 ≡ y
        → ((burst_from k (suc c) (next advances w)).answer ≡ told (Ok x) → accepted_steps (tries k (next advances w)) (next advances w) (suc c) ≡ x)
        → (burst_from (suc k) c w).answer ≡ told (Ok x) → accepted_steps (tries (suc k) w) w c ≡ x
    go true e true f y g r h = counts_last (accepted advances w) (completes advances w) (tries k (next advances w)) (next advances w) c e f ∙ same_told (suc c) x (rw (f, e) at h)
    go true e false f y g r h = counts_on (accepted advances w) (completes advances w) (tries k (next advances w)) (next advances w) c e f ∙ r (rw (f, e) at h)
    go false e f z true g r h = absurd (clash (accepted advances w) (ap (λ (t : Told). eqb t.number 0) (rw (e, g) at h)) e)
    go false e f z false g r h = counts_none (accepted advances w) (completes advances w) (tries k (next advances w)) (next advances w) c e ∙ same_told c x (rw (e, g) at h)

pub burst_count : (k : ℕ) (w : World) (x : ℕ) → (burst k w).answer ≡ told (Ok x) → accepted_steps (tries_of k w) w 0 ≡ x
unfolding burst tries_of accepted_steps
burst_count k w x h = go (both_framed w.store w.desk) (count_allowed k) h
  where
    go : (a b : Bool) → (pick (not a) (refuse BadBuffer w.store w.image w.desk) (pick (not b) (refuse BadCount w.store w.image w.desk) (burst_from k 0 w))).answer ≡ told (Ok x)
        → accepted_steps (pick (a && b) (tries k w) []) w 0 ≡ x
    go true true h = steps_from k 0 w x h
    go true false h = let z : ◌≡◌ {A = ℕ} 17 0 = ap (λ (t : Told). t.number) h in absurd (omega arith)
    go false b h = let z : ◌≡◌ {A = ℕ} 1 0 = ap (λ (t : Told). t.number) h in absurd (omega arith)

-- "If the very first is refused, that refusal is the answer."
pub burst_first : (k : ℕ) (w : World) → both_framed w.store w.desk ≡ true → count_allowed k ≡ true → accepted advances w ≡ false → burst k w ≡ step w.store w.image w.desk
unfolding burst burst_from
burst_first zero w f a r = never a
burst_first (suc k) w f a r = rw (f, a, r)
