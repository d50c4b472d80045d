-- A loop that notes each value it meets.
use mathlib.Core.Path.{◌≡◌, sym, ap, ap₂, ◌∙◌, subst}
use mathlib.Core.Logic.{◌≢◌, ◌⊎◌, inl, inr}
use mathlib.Core.Bool.{Bool, true, false, ◌||◌}
use Prim.Native.Nat.{ℕ, zero, suc, ◌+◌, ◌≤◌, ◌<◌}
use native.Mathlib.Decide.{ℕ_discrete}
use native.Mathlib.Omega.{arith}
use borrow.Author.Tests.{eq-eqb, ne_eqb, eqb-true}
use lib.Dec.{eqb}
use Rattle.bounded.specs.Below.{some_below}
use Rattle.bounded.specs.Count.{tally, new_at}
use Rattle.bounded.specs.Seen.{Seen}
use Rattle.bounded.proofs.BoolLaws.{same_test, or_r}
use Rattle.bounded.proofs.BelowLaws.{some_of, some_at, some_none, none_some}
use Rattle.bounded.proofs.CountLaws.{count_none, count_pos}

-- a test that fails at m adds nothing there
pub some_skip : (p : ℕ → Bool) (m : ℕ) → p m ≡ false → some_below p (m + 1) ≡ some_below p m
some_skip p m e =
    same_test _ _
    (λ h. let r = some_at p (m + 1) h in go r.0 r.1 r.2 (ℕ_discrete r.0 m))
    (λ h. let r = some_at p m h in let l : r.0 < m = r.1 in some_of p (m + 1) r.0 (omega arith) r.2)
  where
    go : (k : ℕ) → k < m + 1 → p k ≡ true → Dec (k ≡ m) → some_below p m ≡ true
    go k l t (yes q) = let z : ◌≡◌ {A = Bool} true false = sym t ∙ ap p q ∙ e in let w : ◌≡◌ {A = ℕ} 0 1 = cc in absurd (omega arith)
    go k l t (no q) = some_of p m k (omega arith) t

pub some_here : (p : ℕ → Bool) (m : ℕ) → p m ≡ true → some_below p (m + 1) ≡ true
some_here p m e = some_of p (m + 1) m (omega arith) e

-- nor one that fails at the w numbers from m on
pub some_skips : (p : ℕ → Bool) (m w : ℕ) → ((k : ℕ) → k < w → p (m + k) ≡ false) → some_below p (m + w) ≡ some_below p m
some_skips p m zero h = ap (some_below p) (omega arith)
some_skips p m (suc w) h =
    let e : m + suc w ≡ m + w + 1 = omega arith in
    ap (some_below p) e ∙ some_skip p (m + w) (h w (omega arith)) ∙ some_skips p m w (λ k l. h k (omega arith))

module _ (f : ℕ → ℕ) (lo n : ℕ) where
  pub seen_start : (p : ℕ → Bool) → ((v : ℕ) → v < n → p v ≡ false) → Seen f lo n 0 p
  seen_start p e v b h = e v h ∙ sym (none_some (λ k. eqb (f k) v) 0 (λ k l. absurd (omega arith)))

  -- the same turns, in other words
  pub seen_as : (p : ℕ → Bool) {m k : ℕ} → m ≡ k → Seen f lo n m p → Seen f lo n k p
  seen_as p e h = subst (λ (x : ℕ). Seen f lo n x p) e h

  -- values below lo need no note
  pub seen_pass : (m w : ℕ) (p : ℕ → Bool) → ((k : ℕ) → k < w → f (m + k) < lo) → Seen f lo n m p → Seen f lo n (m + w) p
  seen_pass m w p e s v g b = s v g b ∙ sym (some_skips (λ k. eqb (f k) v) m w (λ k c. ne_eqb (f (m + k)) v (λ y. let z = e k c in omega arith)))

-- ---- the value a is noted, and no other: p becomes q
module _ (lo a : ℕ) (p q : ℕ → Bool) (here : q a ≡ true) (else : (v : ℕ) → lo ≤ v → v ≢ a → q v ≡ p v) where
  -- it is the value of f at m
  pub seen_more : (f : ℕ → ℕ) (n m : ℕ) → a ≡ f m → Seen f lo n m p → Seen f lo n (m + 1) q
  seen_more f n m e s v g b = at (ℕ_discrete v a)
    where
      at : Dec (v ≡ a) → q v ≡ some_below (λ k. eqb (f k) v) (m + 1)
      at (yes z) = ap q z ∙ here ∙ sym (some_here (λ k. eqb (f k) v) m (eq-eqb (f m) v (sym e ∙ sym z)))
      at (no z) = else v g z ∙ s v g b ∙ sym (some_skip (λ k. eqb (f k) v) m (ne_eqb (f m) v (λ y. z (sym y ∙ sym e))))

  -- or at x, and perhaps elsewhere, a value that needed no note becomes a
  module _ (f g : ℕ → ℕ) (n m x : ℕ) (u : x < m) (new : g x ≡ a) (e : (k : ℕ) → k < m → (g k ≡ f k) ⊎ ((f k < lo) × (g k ≡ a))) (s : Seen f lo n m p) where
    there : (v : ℕ) → lo ≤ v → v ≢ a → some_below (λ k. eqb (f k) v) m ≡ some_below (λ k. eqb (g k) v) m
    there v b z =
        same_test (some_below (λ k. eqb (f k) v) m) (some_below (λ k. eqb (g k) v) m)
        (λ t. let r = some_at (λ k. eqb (f k) v) m t in some_of (λ k. eqb (g k) v) m r.0 r.1 (on r.0 (eqb-true (f r.0) v r.2) (e r.0 r.1)))
        (λ t. let r = some_at (λ k. eqb (g k) v) m t in some_of (λ k. eqb (f k) v) m r.0 r.1 (back r.0 (eqb-true (g r.0) v r.2) (e r.0 r.1)))
      where
        on : (k : ℕ) → f k ≡ v → (g k ≡ f k) ⊎ ((f k < lo) × (g k ≡ a)) → eqb (g k) v ≡ true
        on k y (inl w) = eq-eqb (g k) v (w ∙ y)
        on k y (inr w) = let c = w.0 in absurd (omega arith)

        back : (k : ℕ) → g k ≡ v → (g k ≡ f k) ⊎ ((f k < lo) × (g k ≡ a)) → eqb (f k) v ≡ true
        back k y (inl w) = eq-eqb (f k) v (sym w ∙ y)
        back k y (inr w) = absurd (z (sym y ∙ w.1))

    pub seen_change : Seen g lo n m q
    seen_change v b c = at (ℕ_discrete v a)
      where
        at : Dec (v ≡ a) → q v ≡ some_below (λ k. eqb (g k) v) m
        at (yes z) = ap q z ∙ here ∙ sym (some_of (λ k. eqb (g k) v) m x u (eq-eqb (g x) v (new ∙ sym z)))
        at (no z) = else v b z ∙ s v b c ∙ there v b z

-- ---- another function with the same values
pub seen_ext : (f g : ℕ → ℕ) (lo n m : ℕ) (p : ℕ → Bool) → ((k : ℕ) → k < m → g k ≡ f k) → Seen f lo n m p → Seen g lo n m p
seen_ext f g lo n m p e s v b c =
    s v b c
    ∙ same_test (some_below (λ k. eqb (f k) v) m) (some_below (λ k. eqb (g k) v) m)
    (λ h. let r = some_at (λ k. eqb (f k) v) m h in some_of (λ k. eqb (g k) v) m r.0 r.1 (ap (λ (y : ℕ). eqb y v) (e r.0 r.1) ∙ r.2))
    (λ h. let r = some_at (λ k. eqb (g k) v) m h in some_of (λ k. eqb (f k) v) m r.0 r.1 (ap (λ (y : ℕ). eqb y v) (sym (e r.0 r.1)) ∙ r.2))

-- ---- is the value a of f at m new
module _ (f : ℕ → ℕ) (lo n m a : ℕ) (p : ℕ → Bool) (e : a ≡ f m) (g : lo ≤ a) (h : a < n) (s : Seen f lo n m p) where
  pub new_noted : p a ≡ false → new_at f m ≡ true
  new_noted z =
      or_r (eqb (f m) 0) (eqb (tally f m (f m)) 0)
      (eq-eqb (tally f m (f m)) 0 (ap (tally f m) (sym e) ∙ count_none (λ k. eqb (f k) a) m (some_none (λ k. eqb (f k) a) m (sym (s a g h) ∙ z))))

  pub again_noted : p a ≡ true → (a ≡ 0 → ⊥) → new_at f m ≡ false
  again_noted z o =
      let r = some_at (λ k. eqb (f k) a) m (sym (s a g h) ∙ z) in
      let u : 0 < tally f m a = count_pos (λ k. eqb (f k) a) m r.0 r.1 r.2 in
      let v : 0 < tally f m (f m) = subst (λ (x : ℕ). 0 < tally f m x) e u in
      ap₂ ◌||◌ (ne_eqb (f m) 0 (λ q. o (e ∙ q))) (ne_eqb (tally f m (f m)) 0 (omega arith))
