-- An entry that no call took stands where it stood, at every moment of a list. n and b are the counts of inodes and image blocks.
use Prim.Native.Nat.{ℕ, zero, suc, ◌*◌, ◌≤◌, ◌<◌}
use mathlib.Core.Path.{◌≡◌, refl, sym, ap, ◌∙◌, subst}
use mathlib.Core.Logic.{◌≢◌, inl, inr}
use mathlib.Core.Bool.{true, false}
use mathlib.Core.List.{List, [], ◌∷◌}
use native.Mathlib.Omega.{arith}
use Rattle.bounded.proofs.BoolLaws.{holds_or_fails}
use Rattle.directory.specs.Slot.{most_slots}
use Rattle.sound.specs.Place.{dir_of, filled, naming}
use Rattle.sound.specs.Entry.{EntrySound}
use Rattle.files.specs.Effect.{Call}
use Rattle.files.proofs.Lawful.{Lawful}
use Rattle.copy_theory.specs.History.{Stood, Chain, top, below}
use Rattle.checkpoint.specs.Live.{World}
use Rattle.checkpoint.specs.List.{Event, call, advances, asks, starts, next, accepted, takes, Untouched, Kept}
use Rattle.checkpoint.specs.List as list
use Rattle.checkpoint.proofs.PlainLaws.{steps_keep, asks_keep, starts_keep}
use Rattle.checkpoint.proofs.Call.LiveLaws.{ready_sound, live_accepted, live_refused, taken_none, untaken_stays}
use Rattle.checkpoint.proofs.Run.Moments.{at}
use Rattle.checkpoint.proofs.Run.Lists.{Going, fit, counted, going_next}
use Rattle.checkpoint.proofs.Run.Finales.{views}
use Rattle.checkpoint.proofs.Run.Lasts.{store_names}

-- ---- one event
module _ (n b : ℕ) (w : World) (g : Going n b w) (p : ℕ) (l : p < most_slots * n) (z : naming w.store n p ≢ 0) where
  call_names : (c : Call) → takes (call c) w p ≡ false → naming (next (call c) w).store n p ≡ naming w.store n p
  call_names c t = elim (holds_or_fails (accepted (call c) w)) [
    | inl a ↦
        let x = live_accepted c w (fit g) a in
        let e = counted g in
        let k = subst (λ (i : ℕ). Lawful w.store i x.0) (sym e) x.1.laws in
        ap (λ (v : World). naming v.store n p) x.1.after ∙ untaken_stays w.store n x.0 p k l z (taken_none c w x.0 p x.1 t)
    | inr a ↦ ap (λ (v : World). naming v.store n p) (live_refused c w a)
  ]

  pub event_names : (e : Event) → takes e w p ≡ false → naming (next e w).store n p ≡ naming w.store n p
  unfolding next
  event_names (call c) t = call_names c t
  event_names advances t = ap (λ (s : List ℕ). naming s n p) (steps_keep w)
  event_names asks t = ap (λ (s : List ℕ). naming s n p) (asks_keep w)
  event_names starts t = ap (λ (s : List ℕ). naming s n p) (starts_keep w)

-- ---- the list
pub stood_names : (n b : ℕ) (es : List Event) (w : World) → Going n b w → (p : ℕ) → p < most_slots * n → naming w.store n p ≢ 0 → Untouched es w p
    → (j : ℕ) → naming (at es w j).store n p ≡ naming w.store n p
unfolding at Untouched
stood_names n b es w g p l z u zero = refl
stood_names n b [] w g p l z u (suc j) = refl
stood_names n b (e ∷ es) w g p l z u (suc j) =
    let h = event_names n b w g p l z e u.0 in
    stood_names n b es (next e w) (going_next n b w e g) p l (λ x. z (sym h ∙ x)) u.1 j ∙ h

-- ---- a kept entry is a chain of the theory
pub entry_of : (n b : ℕ) (w : World) → Going n b w → (p : ℕ) → p < most_slots * n → filled w.store n p ≡ true → EntrySound w.store n p
entry_of n b w g = subst (λ (m : ℕ). (q : ℕ) → q < most_slots * m → filled w.store m q ≡ true → EntrySound w.store m q) (sym (counted g)) (ready_sound w (fit g)).entries

pub record InRange (n : ℕ) (w : World) (p : ℕ) : Type 0 where
  pub below : p < most_slots * n
  pub stands : filled w.store n p ≡ true

pub kept_range : (n b : ℕ) (es : List Event) (w : World) → Going n b w → 1 ≤ n → (p : ℕ) → Kept es w p → InRange n w p
kept_range n b es w g l p (list.top f u d) = let e = counted g in record { below = omega arith; stands = subst (λ (m : ℕ). filled w.store m p ≡ true) (sym e) f }
kept_range n b es w g l p (list.below {q = q} f u d k) =
    let e = counted g in
    let r = kept_range n b es w g l q k in
    let h = (entry_of n b w g q r.below r.stands).high in
    let i : naming w.store n q ≡ dir_of p = ap (λ (m : ℕ). naming w.store m q) e ∙ d in
    record { below = omega arith; stands = subst (λ (m : ℕ). filled w.store m p ≡ true) (sym e) f }

stood : (n b : ℕ) (es : List Event) (w : World) → Going n b w → (p : ℕ) → InRange n w p → Untouched es w p → (k : ℕ) → Stood (views n es w) k p
unfolding at
stood n b es w g p r u k =
    let i = (entry_of n b w g p r.below r.stands).low in
    let e = store_names n (at es w 0) p r.below in
    (λ z. omega arith, λ m _ _. store_names n (at es w m) p r.below ∙ stood_names n b es w g p r.below (λ x. omega arith) u m ∙ sym e)

pub chain : (n b : ℕ) (es : List Event) (w : World) → Going n b w → 1 ≤ n → (p k : ℕ) → Kept es w p → Chain (views n es w) k p
unfolding at
chain n b es w g l p k (list.top f u d) = top (stood n b es w g p (kept_range n b es w g l p (list.top f u d)) u k) d
chain n b es w g l p k (list.below {q = q} f u d h) =
    let r = kept_range n b es w g l q h in
    let i : naming w.store n q ≡ dir_of p = ap (λ (m : ℕ). naming w.store m q) (counted g) ∙ d in
    below {q = q} (stood n b es w g p (kept_range n b es w g l p (list.below {q = q} f u d h)) u k) (store_names n w q r.below ∙ i) (chain n b es w g l q k h)
