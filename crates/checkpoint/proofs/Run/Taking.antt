-- What an event takes is empty afterwards, or stands for what a rename put there; all other entries stand. n and b are the counts of inodes and image blocks.
use Prim.Native.Nat.{ℕ, ◌*◌, ◌<◌}
use mathlib.Core.Path.{◌≡◌, refl, sym, ap, ◌∙◌}
use mathlib.Core.Logic.{◌≢◌, inl, inr, ⊎_elim}
use mathlib.Core.Bool.{true, false}
use mathlib.Core.List.{List, [], ◌∷◌}
use native.Mathlib.Omega.{arith}
use borrow.Author.Tests.{eqb-true}
use lib.Dec.{eqb}
use Rattle.bounded.proofs.BoolLaws.{clash, and_left, and_right, or_cases}
use Rattle.bounded.proofs.EachLaws.{All, all_both, some_get}
use Rattle.directory.specs.Slot.{most_slots}
use Rattle.sound.specs.Place.{filled, naming}
use Rattle.sound.proofs.PlaceLaws.{naming_filled}
use Rattle.files.specs.Effect.{Call, look_up, read, create, write, shorten, link, unlink, rename, rename_new, Entry, place_in, Planned, on_planned}
use Rattle.files.proofs.RefillLaws.{Refills}
use Rattle.files.proofs.EffectFacts.{away_or}
use Rattle.checkpoint.specs.Live.{World}
use Rattle.checkpoint.specs.List.{Event, call, advances, asks, starts, next, accepted, any_at, takes}
use Rattle.checkpoint.specs.Finished.{count_of}
use Rattle.checkpoint.specs.Progress.{Lost, emptied, refilled, Takes}
use Rattle.checkpoint.proofs.Call.LiveLaws.{after_in, live_accepted}
use Rattle.checkpoint.proofs.Run.Lists.{Going, fit}
use Rattle.checkpoint.proofs.Run.Stood.{entry_of, event_names}

-- one of the entries stands at p
any_some : (P : Entry → Type 0) (ys : List Entry) (p : ℕ) → any_at ys p ≡ true → All P ys → (y : Entry) × P y × (place_in y ≡ p)
unfolding any_at
any_some P [] p e a = absurd (clash false e refl)
any_some P (y ∷ ys) p e a = elim (or_cases (eqb (place_in y) p) (any_at ys p) e) [
  | inl h ↦ (y, a.0, eqb-true (place_in y) p h)
  | inr h ↦ any_some P ys p h a.1
]

-- a place that is filled anew is by a rename's mover
mover : (c : Call) (w v : World) (p : ℕ) (z : Entry) → next (call c) w ≡ v → Refills c w.store (count_of w) z → naming v.store (count_of w) p ≡ z.inode → naming w.store (count_of w) p ≢ z.inode → Lost w p (call c)
mover (look_up d name) w v p z h r a b = absurd r
mover (read i o out) w v p z h r a b = absurd r
mover (create d name k) w v p z h r a b = absurd r
mover (write i o xs) w v p z h r a b = absurd r
mover (shorten i k) w v p z h r a b = absurd r
mover (link d name i) w v p z h r a b = absurd r
mover (unlink d name) w v p z h r a b = absurd r
mover (rename d name e other) w v p z h r a b = refilled r b (ap (λ (u : World). naming u.store (count_of w) p) h ∙ a)
mover (rename_new d name e other) w v p z h r a b = absurd r

-- the entries that an accepted call takes are those of its effect
module _ (w : World) (p : ℕ) where
  call_takes : (n b : ℕ) → Going n b w → (c : Call) → takes (call c) w p ≡ true → (filled w.store (count_of w) p ≡ true) × Lost w p (call c)
  call_takes n b g c t =
      let x = live_accepted c w (fit g) (and_left (accepted (call c) w) _ t) in
      let a : any_at x.0.taken p ≡ true = ap (λ (q : Planned). any_at (on_planned q (λ y. y.taken) (λ e. [])) p) (sym x.1.plain) ∙ and_right (accepted (call c) w) _ t in
      let k = x.1.laws in
      let ys = x.0.taken in
      let r = any_some _ ys p a (all_both _ _ ys k.stood (all_both _ _ ys k.gone (all_both _ _ ys k.swaps x.1.refills))) in
      let y = r.0 in
      let q = r.2 in
      let named : naming w.store (count_of w) p ≡ y.inode = ap (naming w.store (count_of w)) (sym q) ∙ r.1.0.names in (
        ap (filled w.store (count_of w)) (sym q) ∙ r.1.0.stands,
        ⊎_elim
            (λ m. emptied (ap (λ (v : World). filled v.store (count_of w) p) x.1.after ∙ ap (filled x.0.store (count_of w)) (sym q) ∙ r.1.1.0 m))
            (λ m.
            let f = some_get _ x.0.made m in
            let z = f.0 in
            let here = f.1.1 in
            mover c w (after_in w x.0) p z x.1.after (f.1.0.1.1 here) (ap (naming x.0.store (count_of w)) (sym q ∙ here) ∙ f.1.0.0.names) (λ o. f.1.0.1.0 here (sym o ∙ named)))
            (away_or _ (place_in y) x.0.made (all_both _ _ x.0.made k.stands (all_both _ _ x.0.made r.1.1.1.0 r.1.1.1.1))),
      )

  event_takes : (n b : ℕ) → Going n b w → (e : Event) → takes e w p ≡ true → (filled w.store (count_of w) p ≡ true) × Lost w p e
  event_takes n b g (call c) t = call_takes n b g c t
  event_takes n b g advances t = absurd (clash false t refl)
  event_takes n b g asks t = absurd (clash false t refl)
  event_takes n b g starts t = absurd (clash false t refl)

  pub taking : (b : ℕ) → Going (count_of w) b w → p < most_slots * count_of w → (e : Event) → Takes e w p
  taking b g l e = record {
    taken = event_takes (count_of w) b g e;
    stands = λ t f.
        let i = (entry_of (count_of w) b w g p l f).low in
        let h = event_names (count_of w) b w g p l (λ z. omega arith) e t in
        (naming_filled (next e w).store (count_of w) p (omega arith), h);
  }
