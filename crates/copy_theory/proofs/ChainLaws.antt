-- While no entry of the store changes, every entry of it has a chain up to the root.
use Prim.Native.Nat.{ℕ, zero, suc, ◌≤◌}
use mathlib.Core.Path.{◌≡◌, sym, ap, ◌∙◌}
use mathlib.Core.Logic.{◌≢◌}
use native.Mathlib.Omega.{arith}
use native.Mathlib.Decide.{ℕ_discrete}
use Rattle.bounded.specs.Climb.{climb}
use Rattle.layout.specs.Sizes.{root_inode}
use Rattle.sound.specs.Place.{dir_of}
use Rattle.copy_theory.specs.View.{View, Tidy}
use Rattle.copy_theory.specs.History.{Stood, Chain, top, below, Recorded}

module _ (t : ℕ → View) (n k : ℕ) (same : (m : ℕ) → m ≤ k → (p : ℕ) → (t m).store.names p ≡ (t 0).store.names p) (tidy : Tidy n (t 0).store) where
  stood : (p : ℕ) → (t 0).store.names p ≢ 0 → Stood t k p
  stood p z = (z, λ m a l. same m l p)

  -- by the number of steps from the place's directory to the root
  climbs : (s p : ℕ) → (t 0).store.names p ≢ 0 → climb (t 0).store.parent s (dir_of p) ≡ root_inode → Chain t k p
  unfolding climb
  climbs zero p z c = top (stood p z) c
  climbs (suc s) p z c = elim (ℕ_discrete (dir_of p) root_inode) [
    | yes g ↦ top (stood p z) g
    | no g ↦
        let d = tidy.inside p z in
        let r = tidy.named (dir_of p) (λ u. omega arith) g in
        let y : (t 0).store.names r.0 ≢ 0 = λ u. omega (arith, r.1) in
        let a : (t 0).store.parent (dir_of p) ≡ dir_of r.0 = rw r.1 at (tidy.home r.0 y (cc r.1)) in
        below (stood p z) r.1 (climbs s r.0 y (sym (ap (climb (t 0).store.parent s) a) ∙ c))
  ]

pub tidy_chain : (t : ℕ → View) (n k : ℕ) → ((m : ℕ) → m ≤ k → (p : ℕ) → (t m).store.names p ≡ (t 0).store.names p) → Recorded t n k
    → (p : ℕ) → (t 0).store.names p ≢ 0 → Chain t k p
tidy_chain t n k same told p z =
    let tidy = told.tidy 0 (omega arith) in
    let l = tidy.leads (dir_of p) (tidy.inside p z) in
    climbs t n k same tidy l.0 p z l.1
