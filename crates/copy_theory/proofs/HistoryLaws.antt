-- A copy's history: what holds at each of its moments, kinds that last, and entries that stood.
use Prim.Native.Nat.{ℕ, zero, suc, ◌≤◌}
use mathlib.Core.Path.{◌≡◌, refl, sym, ap, ◌∙◌}
use mathlib.Core.Logic.{◌≢◌, ◌⊎◌, inl, inr}
use native.Mathlib.Nat.{le-suc_iff}
use native.Mathlib.Omega.{arith}
use Rattle.bounded.proofs.BoolLaws.{clash}
use Rattle.layout.specs.Inode.{free_kind}
use Rattle.sound.specs.Place.{dir_of}
use Rattle.copy_theory.specs.View.{View}
use Rattle.copy_theory.specs.Deed.{stays, goes, comes, swaps, elsewhere, skipped, taken, Deed}
use Rattle.copy_theory.specs.Holds.{Holds}
use Rattle.copy_theory.specs.History.{Names, Recorded, Spell, Since, Stood, Keeps}
use Rattle.copy_theory.proofs.LightLaws.{light_or_closed}
use Rattle.copy_theory.proofs.HoldsLight.{holds_fresh}
use Rattle.copy_theory.proofs.HoldsClosed.{copied_before}
use Rattle.copy_theory.proofs.HoldsLaws.{holds_does}
use Rattle.copy_theory.proofs.SinceLaws.{since_fresh, since_does}

-- an inode in use keeps its kind or is freed
kinds : {n : ℕ} {v w : View} → Deed n v w → (i : ℕ) → v.store.kind i ≢ free_kind → (w.store.kind i ≡ v.store.kind i) ⊎ (w.store.kind i ≡ free_kind)
kinds {v = v} {w = w} d i z = elim (light_or_closed d) [ inl e ↦ e.kinds i z | inr r ↦ inl (ap (λ x. x.kind i) r.1.store) ]

module _ (t : ℕ → View) (n k : ℕ) (told : Recorded t n k) where
  pub told_holds : (j : ℕ) → j ≤ k → Holds n (t j) × Since t j
  told_holds zero l = (holds_fresh n (t 0) (told.tidy 0 l) told.fresh, since_fresh t told.fresh)
  told_holds (suc j) l =
      let r = told_holds j (omega arith) in
      let d = told.deeds j l in
      let h = holds_does n (t j) (t (suc j)) r.0 d (told.tidy (suc j) l) in
      (h, since_does t n j r.0 h d r.1)

  -- one that is named without a break keeps it
  pub kind_held : (p i a b : ℕ) → a ≤ b → b ≤ k → i ≢ 0 → Names t a b p i → (t b).store.kind i ≡ (t a).store.kind i
  kind_held p i a zero l u z f = let s : a ≡ 0 = omega arith in rw s
  kind_held p i a (suc b) l u z f = elim (le-suc_iff.0 l) [
    | inl x ↦
        let was = f b x (omega arith) in
        let is = f (suc b) l (omega arith) in
        let ih = kind_held p i a b x (omega arith) z (λ m c d. f m c (omega arith)) in
        elim (kinds (told.deeds b u) i (rw was at ((told.tidy b (omega arith)).used p (λ y. z (sym was ∙ y))))) [
          | inl g ↦ g ∙ ih
          | inr g ↦ absurd (rw is at ((told.tidy (suc b) u).used p (λ y. z (sym is ∙ y))) g)
        ]
    | inr s ↦ rw s
  ]

  -- in a spell the inode has one kind, the image's
  pub spell_kind : (j p : ℕ) → j ≤ k → (t j).image.names p ≢ 0 → (s : Spell t j p) → (m : ℕ) → s.from ≤ m → m ≤ s.to
      → (t m).store.kind ((t j).image.names p) ≡ (t j).image.kind ((t j).image.names p)
  spell_kind j p l z s m a b =
      let held : (x : ℕ) → s.from ≤ x → x ≤ s.to → (t x).store.kind ((t j).image.names p) ≡ (t s.from).store.kind ((t j).image.names p) =
      λ x c d. kind_held p ((t j).image.names p) s.from x c (omega (arith, s.past)) z (λ y e f. s.names y e (omega arith)) in
      held m a b ∙ sym (held s.inode_at_lem s.from_inode s.inode_to) ∙ sym s.inode.kind

  pub keeps : (j p : ℕ) → j ≤ k → Stood t j p → Keeps t j p
  keeps zero p l s = record { unmarked = told.fresh.marked p; held = refl; there = λ c. absurd (clash _ c (told.fresh.copied (dir_of p))) }
  keeps (suc j) p l s =
      let ih = keeps j p (omega arith) (s.0, λ m l u. s.1 m l (omega arith)) in
      let now = s.1 (suc j) (omega arith) (omega arith) in
      let was = s.1 j (omega arith) (omega arith) in
      elim (light_or_closed (told.deeds j l)) [
        | inl e ↦ elim (e.turn p) [
          | stays a b c ↦ record { unmarked = b ∙ ih.unmarked; held = a ∙ ih.held; there = λ d. c ∙ ih.there (sym (e.copied (dir_of p)) ∙ d) }
          | goes a b c d ↦ absurd (s.0 (sym now ∙ c))
          | comes a b c ↦ absurd (s.0 (sym was ∙ a))
          | swaps a b c d g ↦ absurd (c (now ∙ sym was))
        ]
        | inr r ↦
            let e = r.1 in
            record {
              unmarked = e.marked p ∙ ih.unmarked;
              held = ap (λ x. x.names p) e.store ∙ ih.held;
              there = λ d. elim (e.slots p) [
                | elsewhere g a b ↦ a ∙ ih.there (sym (copied_before e (dir_of p) g) ∙ d)
                | skipped g m _ _ ↦ absurd (clash _ m ih.unmarked)
                | taken g _ a _ ↦ a ∙ ih.held
              ];
            }
      ]
