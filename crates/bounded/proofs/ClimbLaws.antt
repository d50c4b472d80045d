-- Laws of the climb from parent to parent: among n numbers n steps are enough, and what a change of one parent keeps.
use mathlib.Core.Path.{◌≡◌, refl, sym, ap, ◌∙◌, subst}
use mathlib.Core.Bool.{Bool, true, ◌||◌}
use mathlib.Core.Logic.{◌≢◌, ◌⊎◌, inl, inr}
use Prim.Native.Nat.{ℕ, zero, suc, ◌+◌, ◌-◌, ◌≤◌}
use native.Mathlib.Nat.{not-suc-le-zero, zero-add, suc-add}
use native.Mathlib.Decide.{ℕ_discrete}
use native.Mathlib.Numerals.{add-one}
use native.Mathlib.Omega.{arith}
use borrow.Author.Tests.{eq-eqb, ne_eqb, eqb-true, eqb-false}
use lib.Dec.{eqb}
use Rattle.bounded.specs.Climb.{climb, Leads, leads_b, Closed}
use Rattle.bounded.specs.Update.{Changed, here, there}
use Rattle.bounded.proofs.BoolLaws.{or_r, or_cases}
use Rattle.bounded.proofs.SearchLaws.{Lowest, lowest_of}
use Rattle.bounded.proofs.CountLaws.{pigeons}

-- i steps and then k
pub climb_add : (up : ℕ → ℕ) (i k d : ℕ) → climb up (i + k) d ≡ climb up k (climb up i d)
unfolding climb
climb_add up zero k d = ap (λ (m : ℕ). climb up m d) (zero-add k)
climb_add up (suc i) k d = ap (λ (m : ℕ). climb up m d) (suc-add i k) ∙ climb_add up i k (up d)

-- the last step apart
pub climb_last : (up : ℕ → ℕ) (k d : ℕ) → climb up (k + 1) d ≡ up (climb up k d)
unfolding climb
climb_last up k d = climb_add up k 1 d

-- above 0, which is its own parent, there is nothing
pub climb_zero : (up : ℕ → ℕ) → up 0 ≡ 0 → (k : ℕ) → climb up k 0 ≡ 0
unfolding climb
climb_zero up e zero = refl
climb_zero up e (suc k) = ap (climb up k) e ∙ climb_zero up e k

module _ (up : ℕ → ℕ) (a : ℕ) where
  -- a loop's turns, with k steps left
  pub leads_here : (k d : ℕ) → d ≡ a → leads_b up a k d ≡ true
  unfolding leads_b
  leads_here zero d e = eq-eqb d a e
  leads_here (suc k) d e = ap (λ (b : Bool). b || leads_b up a k (up d)) (eq-eqb d a e)

  pub leads_turn : (k d : ℕ) → (d ≡ a → ⊥) → leads_b up a (k + 1) d ≡ leads_b up a k (up d)
  unfolding leads_b
  leads_turn k d h = ap (λ (m : ℕ). leads_b up a m d) (add-one k) ∙ ap (λ (b : Bool). b || leads_b up a k (up d)) (ne_eqb d a h)

  pub leads_end : (d : ℕ) → leads_b up a 0 d ≡ eqb d a
  unfolding leads_b
  leads_end d = refl

  -- a leads to itself; a number whose parent leads to a leads to a
  pub leads_self : Leads up a a
  unfolding climb
  leads_self = (0, refl)

  pub leads_up : (d : ℕ) → Leads up a (up d) → Leads up a d
  unfolding climb
  leads_up d r = (suc r.0, r.1)

  -- a number other than a that leads to a does so through its parent
  pub leads_on : (d : ℕ) → (d ≡ a → ⊥) → Leads up a d → Leads up a (up d)
  unfolding climb
  leads_on d h r = go r.0 r.1
    where
      go : (k : ℕ) → climb up k d ≡ a → Leads up a (up d)
      go zero e = absurd (h e)
      go (suc k) e = (k, e)

  -- a number whose parent is 0 leads to no other
  pub leads_top : up 0 ≡ 0 → (d : ℕ) → up d ≡ 0 → 1 ≤ a → d ≢ a → Leads up a d → ⊥
  leads_top none d top low other r =
      let l = leads_on d other r in
      let z : climb up l.0 0 ≡ a = ap (climb up l.0) (sym top) ∙ l.1 in
      let o = climb_zero up none l.0 in
      omega arith

  -- a climb that came to e, which is known to lead to a
  pub leads_known : (k d e : ℕ) → climb up k d ≡ e → Leads up a e → Leads up a d
  leads_known k d e h r = (k + r.0, climb_add up k r.0 d ∙ ap (climb up r.0) h ∙ r.1)

  -- the test and what it says
  pub leads_prop : (k d : ℕ) → leads_b up a k d ≡ true → Leads up a d
  unfolding leads_b climb
  leads_prop zero d e = (0, eqb-true d a e)
  leads_prop (suc k) d e = go (or_cases (eqb d a) (leads_b up a k (up d)) e) (leads_prop k (up d))
    where
      go : (eqb d a ≡ true) ⊎ (leads_b up a k (up d) ≡ true) → (leads_b up a k (up d) ≡ true → Leads up a (up d)) → Leads up a d
      go (inl h) f = (0, eqb-true d a h)
      go (inr h) f = leads_up d (f h)

  pub leads_of : (k d : ℕ) → climb up k d ≡ a → (n : ℕ) → k ≤ n → leads_b up a n d ≡ true
  unfolding climb leads_b
  leads_of zero d e n h = leads_here n d e
  leads_of (suc k) d e zero h = absurd (not-suc-le-zero h)
  leads_of (suc k) d e (suc n) h = or_r (eqb d a) (leads_b up a n (up d)) (leads_of k (up d) e n (omega arith))

  -- i steps from d come to a
  abbrev arrives : ℕ → ℕ → Bool
  arrives d i = eqb (climb up i d) a

  -- up to the fewest steps t that do, the climb stays where D holds
  stays : (D : ℕ → Type 0) (n d k t : ℕ) → Closed D up a n → D d → Lowest (arrives d) 0 k t → (i : ℕ) → i ≤ t → D (climb up i d)
  unfolding climb
  stays D n d k t closed p r zero h = p
  stays D n d k t closed p r (suc i) h =
      let e : climb up (suc i) d ≡ up (climb up i d) = ap (λ (m : ℕ). climb up m d) (sym (add-one i)) ∙ climb_last up i d in
      subst D (sym e)
      (closed.parent (climb up i d) (stays D n d k t closed p r i (omega arith)) (eqb-false (climb up i d) a (r.before i (omega arith) (omega arith))))

  -- and comes to no number twice
  short : (D : ℕ → Type 0) (n d k t : ℕ) → Closed D up a n → D d → Lowest (arrives d) 0 k t → t ≤ n
  short D n d k t closed p r =
      pigeons n t (λ i. climb up i d - 1)
      (λ i l. let b = closed.within (climb up i d) (stays D n d k t closed p r i (omega arith)) in omega arith)
      (λ i j l m e.
      let x = closed.within (climb up i d) (stays D n d k t closed p r i (omega arith)) in
      let y = closed.within (climb up j d) (stays D n d k t closed p r j (omega arith)) in
      let same : climb up i d ≡ climb up j d = omega arith in
      let u : j + (t - j) ≡ t = omega arith in
      eqb-false (climb up (i + (t - j)) d) a (r.before (i + (t - j)) (omega arith) (omega arith))
      (climb_add up i (t - j) d ∙ ap (climb up (t - j)) same ∙ sym (climb_add up j (t - j) d) ∙ ap (λ (m : ℕ). climb up m d) u
      ∙ eqb-true (climb up t d) a r.holds))

  -- n steps are enough where the climb stays among the numbers 1 to n
  pub leads_bool : (D : ℕ → Type 0) (n d : ℕ) → Closed D up a n → D d → Leads up a d → leads_b up a n d ≡ true
  leads_bool D n d closed p l =
      let r = lowest_of (arrives d) 0 (l.0 + 1) l.0 (omega arith) (omega arith) (eq-eqb (climb up l.0 d) a l.1) in
      leads_of r.0 d (eqb-true (climb up r.0 d) a r.1.holds) n (short D n d (l.0 + 1) r.0 closed p r.1)

-- the parent of i becomes e, which does not lead to i: what leads to a, as e does, still leads to a
module _ (par par' : ℕ → ℕ) (i e : ℕ) (h : (x : ℕ) → Changed par i e x (par' x)) where
  -- a climb that does not come to i is the same under the new parents
  pub climb_avoid : (k x : ℕ) → (Leads par i x → ⊥) → climb par' k x ≡ climb par k x
  unfolding climb
  climb_avoid zero x n = refl
  climb_avoid (suc k) x n = elim (h x) [
    | here g r ↦ absurd (n (0, g))
    | there g r ↦ ap (climb par' k) r ∙ climb_avoid k (par x) (λ c. n (leads_up par i x c))
  ]

  pub leads_avoid : (a x : ℕ) → (Leads par i x → ⊥) → Leads par a x → Leads par' a x
  leads_avoid a x n r = (r.0, climb_avoid r.0 x n ∙ r.1)

  moved_steps : (a : ℕ) → Leads par' a e → (k x : ℕ) → climb par k x ≡ a → Leads par' a x
  unfolding climb
  moved_steps a r zero x c = (0, c)
  moved_steps a r (suc k) x c = leads_up par' a x (elim (h x) [
    | here g q ↦ subst (Leads par' a) (sym q) r
    | there g q ↦ subst (Leads par' a) (sym q) (moved_steps a r k (par x) c)
  ])

  pub leads_moved : (a : ℕ) → (Leads par i e → ⊥) → Leads par a e → (x : ℕ) → Leads par a x → Leads par' a x
  leads_moved a n r x l = moved_steps a (leads_avoid a e n r) l.0 x l.1

-- a climb among numbers whose parents stay
pub leads_kept : (D : ℕ → Type 0) (up up' : ℕ → ℕ) (a n : ℕ) → Closed D up a n → ((x : ℕ) → D x → up' x ≡ up x) → (k d : ℕ) → D d → climb up k d ≡ a → Leads up' a d
unfolding climb
leads_kept D up up' a n c h zero d q e = (0, e)
leads_kept D up up' a n c h (suc k) d q e = go (ℕ_discrete d a) (λ r. leads_kept D up up' a n c h k (up d) (c.parent d q r) e)
  where
    go : Dec (d ≡ a) → ((d ≡ a → ⊥) → Leads up' a (up d)) → Leads up' a d
    go (yes r) f = (0, r)
    go (no r) f = leads_up up' a d (subst (Leads up' a) (sym (h d q)) (f r))
