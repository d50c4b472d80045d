-- Counts and tallies of two functions that differ at one number at most.
use mathlib.Core.Path.{◌≡◌, refl, sym, ap, ◌∙◌}
use mathlib.Core.Bool.{Bool}
use mathlib.Core.Logic.{◌≢◌}
use mathlib.Core.List.{List}
use Prim.Native.Nat.{ℕ, ◌+◌, ◌≤◌, ◌<◌}
use native.Mathlib.Decide.{ℕ_discrete}
use native.Mathlib.Omega.{arith}
use borrow.Author.Tests.{eq-eqb, ne_eqb}
use lib.Dec.{eqb}
use Rattle.bounded.specs.Update.{upd}
use Rattle.bounded.specs.Count.{one, count, tally, Tallied}
use Rattle.bounded.proofs.UpdateLaws.{ElseBelow, changed, upd_same, upd_other}
use Rattle.bounded.proofs.CountLaws.{count_ext, count_at, unmet}

pub one_same : (a b : ℕ) → a ≡ b → one (eqb a b) ≡ 1
one_same a b e = ap one (eq-eqb a b e)

pub one_other : (a b : ℕ) → a ≢ b → one (eqb a b) ≡ 0
one_other a b h = ap one (ne_eqb a b h)

-- one number counts otherwise
pub count_but : (f g : ℕ → Bool) (m p : ℕ) → p < m → ((q : ℕ) → q < m → q ≢ p → g q ≡ f q) → count g m + one (f p) ≡ count f m + one (g p)
count_but f g m p l h =
    let u = upd f p (g p) in
    let e : count g m ≡ count u m = count_ext g u m (λ k b. at k b (ℕ_discrete k p)) in
    let a = count_at f u p (g p) (changed f p (g p)) m l in
    omega arith
  where
    at : (k : ℕ) → k < m → Dec (k ≡ p) → g k ≡ upd f p (g p) k
    at k b (yes e) = ap g e ∙ sym (upd_same f p (g p)) ∙ ap (upd f p (g p)) (sym e)
    at k b (no e) = h k b e ∙ sym (upd_other f p (g p) k e)

-- one value is another: what is met once more, and once less
pub tally_but : (f g : ℕ → ℕ) (m p : ℕ) → p < m → ElseBelow m p f g → (v : ℕ) → tally g m v + one (eqb (f p) v) ≡ tally f m v + one (eqb (g p) v)
tally_but f g m p l h v = count_but (λ k. eqb (f k) v) (λ k. eqb (g k) v) m p l (λ q b z. ap (λ (x : ℕ). eqb x v) (h q b z))

-- where 0 was, i is
pub tally_filled : (f g : ℕ → ℕ) (m p i : ℕ) → p < m → ElseBelow m p f g → f p ≡ 0 → g p ≡ i → (v : ℕ) → 1 ≤ v → tally g m v ≡ tally f m v + one (eqb i v)
tally_filled f g m p i l h e r v y =
    let b = tally_but f g m p l h v in
    let d : one (eqb (f p) v) ≡ 0 = one_other (f p) v (λ z. omega arith) in
    let c : one (eqb (g p) v) ≡ one (eqb i v) = ap (λ (x : ℕ). one (eqb x v)) r in
    omega arith

pub tally_more : (f g : ℕ → ℕ) (m p i : ℕ) → p < m → ElseBelow m p f g → f p ≡ 0 → g p ≡ i → 1 ≤ i → tally g m i ≡ tally f m i + 1
tally_more f g m p i l h e r y = let b = tally_filled f g m p i l h e r i y in let d = one_same i i refl in omega arith

pub tally_rest : (f g : ℕ → ℕ) (m p i : ℕ) → p < m → ElseBelow m p f g → f p ≡ 0 → g p ≡ i → (v : ℕ) → 1 ≤ v → v ≢ i → tally g m v ≡ tally f m v
tally_rest f g m p i l h e r v y q = let b = tally_filled f g m p i l h e r v y in let d = one_other i v (λ x. q (sym x)) in omega arith

-- the same values
pub tally_same : (f g : ℕ → ℕ) (m : ℕ) → ((q : ℕ) → q < m → g q ≡ f q) → (v : ℕ) → tally g m v ≡ tally f m v
tally_same f g m h v = count_ext (λ k. eqb (g k) v) (λ k. eqb (f k) v) m (λ k b. ap (λ (x : ℕ). eqb x v) (h k b))

pub tallied_ext : (f g : ℕ → ℕ) (lo n m : ℕ) (l : List ℕ) → ((q : ℕ) → q < m → g q ≡ f q) → Tallied f lo n m l → Tallied g lo n m l
tallied_ext f g lo n m l h t = record { long = t.long; each = λ v a b. t.each v a b ∙ sym (tally_same f g m h v) }

-- a value that one number alone has is met once
pub met_one : (f : ℕ → ℕ) (m p v : ℕ) → 1 ≤ v → p < m → f p ≡ v → ((q : ℕ) → q < m → f q ≡ v → q ≡ p) → tally f m v ≡ 1
met_one f m p v o l e h =
    let g = upd f p 0 in
    let a = tally_but f g m p l (λ q _ z. upd_other f p 0 q z) v in
    let b = unmet g m v (λ q k w. other q k w (ℕ_discrete q p)) in
    let c = one_same (f p) v e in
    let x = upd_same f p 0 in
    let d = one_other (g p) v (λ w. omega arith) in
    omega arith
  where
    other : (q : ℕ) → q < m → upd f p 0 q ≡ v → Dec (q ≡ p) → ⊥
    other q k w (yes z) = let x = upd_same f p 0 in let y : upd f p 0 q ≡ upd f p 0 p = ap (upd f p 0) z in omega arith
    other q k w (no z) = z (h q k (sym (upd_other f p 0 q z) ∙ w))
