-- What holds of a running copy holds after every deed.
use Prim.Native.Nat.{ℕ}
use mathlib.Core.Path.{◌≡◌, sym, ◌∙◌}
use mathlib.Core.Logic.{◌≢◌, inl, inr}
use Rattle.copy_theory.specs.View.{View, Tidy}
use Rattle.copy_theory.specs.Deed.{stays, goes, comes, swaps, cut, kept, Called, Locked, Deed, called, locks, closes, rests}
use Rattle.copy_theory.specs.Holds.{LockHolds, Holds}
use Rattle.copy_theory.proofs.LightLaws.{light_called, light_quiet}
use Rattle.copy_theory.proofs.HoldsLight.{LockNew, holds_light}
use Rattle.copy_theory.proofs.HoldsClosed.{holds_closed}

-- the lock of before, where the image entry that names it stays
lock_on : {n : ℕ} {v w : View} → (v.locked ≢ 0 → LockHolds n v) → w.locked ≡ v.locked → ((i : ℕ) → w.copied i ≡ v.copied i)
    → (v.locked ≢ 0 → LockHolds n v → (p : ℕ) → v.image.names p ≡ v.locked → w.image.names p ≡ v.image.names p) → w.locked ≢ 0 → LockNew n w
lock_on {v = v} {w = w} lock s c f z =
    let x : v.locked ≢ 0 = λ u. z (s ∙ u) in
    let r = lock x in
    record {
      high = rw s r.high;
      new = c w.locked ∙ rw s r.new;
      by = elim r.by [ inl u ↦ inl (s ∙ u) | inr u ↦ inr (u.0, f x r u.0 u.1 ∙ u.1 ∙ sym s) ];
    }

-- no call takes out the entry that names the locked inode
lock_called : {n : ℕ} {v w : View} → Holds n v → Called v w → v.locked ≢ 0 → LockHolds n v → (p : ℕ) → v.image.names p ≡ v.locked → w.image.names p ≡ v.image.names p
lock_called {v = v} h e z r p u = elim (e.turn p) [
  | stays a b c ↦ c
  | goes a b c (cut d f) ↦ absurd (b (h.stands p (λ x. z (sym u ∙ x)) f ∙ u))
  | goes a b c (kept d f) ↦ d
  | comes a b c ↦ c
  | swaps a b c g (cut d f) ↦ absurd (b (h.stands p (λ x. z (sym u ∙ x)) f ∙ u))
  | swaps a b c g (kept d f) ↦ d
]

lock_locks : {n : ℕ} {v w : View} {l : ℕ} → Locked n v w l → LockNew n w
lock_locks {v = v} {w = w} {l = l} e = record {
  high = rw e.now e.high;
  new = cc (e.quiet.copied l, e.new, e.now);
  by = elim e.by [ inl u ↦ inl (e.now ∙ u) | inr u ↦ inr (u.0, e.quiet.names u.0 ∙ u.1 ∙ sym e.now) ];
}

pub holds_does : (n : ℕ) (v w : View) → Holds n v → Deed n v w → Tidy n w.store → Holds n w
holds_does n v w h (called e) t = holds_light n v w h (light_called e) t (lock_on h.lock e.locked e.copied (lock_called h e))
holds_does n v w h (locks l e) t = holds_light n v w h (light_quiet e.quiet) t (λ z. lock_locks e)
holds_does n v w h (closes l e) t = holds_closed n v w l h e t
holds_does n v w h (rests e s) t = holds_light n v w h (light_quiet e) t (lock_on h.lock s e.copied (λ z r p u. e.names p))
