-- A list with bursts as the list of the single steps that they tried: what the two have in common.
use Prim.Native.Nat.{ℕ, zero, suc, ◌+◌}
use mathlib.Core.Path.{◌≡◌, refl, sym, ap, ◌∙◌}
use mathlib.Core.Bool.{Bool, true, false, not, ◌&&◌}
use mathlib.Core.List.{List, [], ◌∷◌, ◌++◌}
use native.Mathlib.Omega.{arith}
use Rattle.bounded.specs.Search.{pick}
use Rattle.bounded.proofs.SearchLaws.{by_pick}
use Rattle.checkpoint.specs.Fit.{both_framed}
use Rattle.checkpoint.specs.Live.{World}
use Rattle.checkpoint.specs.List.{Event, advances, next, accepted, completes, run, accepted_steps}
use Rattle.checkpoint.specs.Burst.{count_allowed, tries, tries_of, Act, one, bursts, singles}
use Rattle.checkpoint.proofs.BurstLaws.{burst_world}
use Rattle.checkpoint.proofs.OfEvents.{replies, heard}
use Rattle.watch.specs.Received.{next_of}
use Rattle.watch.specs.Claim.{ones}

-- ---- a list goes on
pub run_on : (fs gs : List Event) (w : World) → run (fs ++ gs) w ≡ run gs (run fs w)
unfolding run
run_on [] gs w = refl
run_on (e ∷ fs) gs w = run_on fs gs (next e w)

-- the events after a call, from the world that it leaves
pub singles_next : (x : Act) (xs : List Act) (w : World) → run (singles (x ∷ xs) w) w ≡ run (singles xs (next_of x w)) (next_of x w)
unfolding singles run next
singles_next (one e) xs w = refl
singles_next (bursts k) xs w = run_on (tries_of k w) _ w ∙ ap (λ (v : World). run (singles xs v) v) (sym (burst_world k w))

-- a list without bursts is its own
pub singles_ones : (es : List Event) (w : World) → singles (ones es) w ≡ es
unfolding singles
singles_ones [] w = refl
singles_ones (e ∷ es) w = ap (λ (fs : List Event). e ∷ fs) (singles_ones es (next e w))

-- ---- what a burst tries is steps
pub data Steps : List Event → Type 0 where
  none : Steps []
  more : {es : List Event} → Steps es → Steps (advances ∷ es)

tries_steps : (k : ℕ) (w : World) → Steps (tries k w)
unfolding tries
tries_steps zero w = none
tries_steps (suc k) w = more (by_pick Steps (accepted advances w && not (completes advances w)) (tries_steps k (next advances w)) none)

pub burst_steps : (k : ℕ) (w : World) → Steps (tries_of k w)
unfolding tries_of
burst_steps k w = by_pick Steps (both_framed w.store w.desk && count_allowed k) (tries_steps k w) none

-- no file call is among them
pub heard_on : {es : List Event} → Steps es → (gs : List Event) (w : World) → heard (es ++ gs) w ≡ heard gs (run es w)
unfolding heard run
heard_on none gs w = refl
heard_on (more s) gs w = heard_on s gs (next advances w)

pub replies_on : {es : List Event} → Steps es → (gs : List Event) (w : World) → replies (es ++ gs) w ≡ replies gs (run es w)
unfolding replies run
replies_on none gs w = refl
replies_on (more s) gs w = replies_on s gs (next advances w)

-- their count adds up
count_from : {es : List Event} → Steps es → (w : World) (c : ℕ) → accepted_steps es w c ≡ c + accepted_steps es w 0
unfolding accepted_steps
count_from none w c = omega arith
count_from (more {es} s) w c = go (accepted advances w) (count_from s (next advances w))
  where
    go : (b : Bool) → ((d : ℕ) → accepted_steps es (next advances w) d ≡ d + accepted_steps es (next advances w) 0)
        → accepted_steps es (next advances w) (pick b (suc c) c) ≡ c + accepted_steps es (next advances w) (pick b 1 0)
    go true h = omega (arith, h (suc c), h 1)
    go false h = h c

goes_on : {es : List Event} → Steps es → (gs : List Event) (w : World) (c : ℕ) → accepted_steps (es ++ gs) w c ≡ accepted_steps gs (run es w) (accepted_steps es w c)
unfolding accepted_steps run
goes_on none gs w c = refl
goes_on (more s) gs w c = goes_on s gs (next advances w) (pick (accepted advances w) (suc c) c)

pub count_on : {es : List Event} → Steps es → (gs : List Event) (w : World) (c : ℕ) → accepted_steps (es ++ gs) w c ≡ accepted_steps gs (run es w) (c + accepted_steps es w 0)
count_on {es} s gs w c = goes_on s gs w c ∙ ap (accepted_steps gs (run es w)) (count_from s w c)
