-- Values that differ, but for 0: what keeps them so, and how many there are.
use mathlib.Core.Path.{◌≡◌, sym, ap, ◌∙◌, subst}
use mathlib.Core.Bool.{Bool, true}
use mathlib.Core.Logic.{◌≢◌}
use Prim.Native.Nat.{ℕ, zero, suc, ◌+◌, ◌-◌, ◌≤◌, ◌<◌}
use native.Mathlib.Decide.{ℕ_discrete}
use native.Mathlib.Numerals.{add-one}
use native.Mathlib.Omega.{arith}
use borrow.Author.Tests.{eq-eqb, ne_eqb, lt-ltb, le-ltb}
use lib.Dec.{eqb, ltb}
use Rattle.bounded.specs.Below.{some_below}
use Rattle.bounded.specs.Update.{Changed, here, there}
use Rattle.bounded.specs.Count.{one, count, Differ}
use Rattle.bounded.proofs.BelowLaws.{none_some}
use Rattle.bounded.proofs.CountLaws.{count_none, count_ext, count_at, count_hit, count_miss}
use Rattle.bounded.proofs.SeenLaws.{some_skip, some_here}

-- some of them become 0
pub differ_less : (f g : ℕ → ℕ) (m : ℕ) → Differ f m → ((x : ℕ) → x < m → 0 < g x → g x ≡ f x) → Differ g m
differ_less f g m d h i j l k p e =
    let a = h j k p in
    let b = h i (omega arith) (omega arith) in
    d i j l k (omega arith) (omega arith)

-- one becomes c, which was none of them
pub differ_new : (f g : ℕ → ℕ) (m y c : ℕ) → Differ f m → ((x : ℕ) → x < m → f x ≢ c) → g y ≡ c → ((x : ℕ) → x < m → x ≢ y → g x ≡ f x) → Differ g m
differ_new f g m y c d u e h i j l k p q = go (ℕ_discrete i y) (ℕ_discrete j y)
  where
    go : Dec (i ≡ y) → Dec (j ≡ y) → ⊥
    go (yes a) (yes b) = omega arith
    go (yes a) (no b) = u j k (sym (h j k b) ∙ sym q ∙ ap g a ∙ e)
    go (no a) (yes b) = u i (omega arith) (sym (h i (omega arith) a) ∙ q ∙ ap g b ∙ e)
    go (no a) (no b) = let v = h i (omega arith) a in let w = h j k b in d i j l k (omega arith) (omega arith)

-- ---- each value is met once, so as many values are met as are not 0
-- v is among the first m values
abbrev met : (ℕ → ℕ) → ℕ → ℕ → Bool
met f m v = some_below (λ x. eqb (f x) v) m

abbrev pub nonzero : (ℕ → ℕ) → ℕ → Bool
nonzero f x = ltb 0 (f x)

pub met_count : (f : ℕ → ℕ) (b m : ℕ) → Differ f m → ((x : ℕ) → x < m → f x ≤ b) → count (λ k. met f m (k + 1)) b ≡ count (nonzero f) m
met_count f b zero d h = count_none (λ k. met f 0 (k + 1)) b (λ k l. none_some (λ x. eqb (f x) (k + 1)) 0 (λ x m. absurd (omega arith))) ∙ sym (count_none (nonzero f) 0 (λ k l. absurd (omega arith)))
met_count f b (suc m) d h =
    subst (λ (y : ℕ). count (λ k. met f y (k + 1)) b ≡ count (nonzero f) y) (add-one m)
    (go (ℕ_discrete (f m) 0) (met_count f b m (λ i j l k. d i j l (omega arith)) (λ x l. h x (omega arith))))
  where
    step : (v : ℕ) → f m ≢ v → met f (m + 1) v ≡ met f m v
    step v q = some_skip (λ x. eqb (f x) v) m (ne_eqb (f m) v q)

    at : f m ≢ 0 → (q : ℕ) → Dec (q ≡ f m - 1) → Changed (λ k. met f m (k + 1)) (f m - 1) true q (met f (m + 1) (q + 1))
    at z q (yes e) = here e (some_here (λ x. eqb (f x) (q + 1)) m (eq-eqb (f m) (q + 1) (omega arith)))
    at z q (no e) = there e (step (q + 1) (λ g. e (omega arith)))

    go : Dec (f m ≡ 0) → count (λ k. met f m (k + 1)) b ≡ count (nonzero f) m → count (λ k. met f (m + 1) (k + 1)) b ≡ count (nonzero f) (m + 1)
    go (yes z) r =
        count_ext (λ k. met f (m + 1) (k + 1)) (λ k. met f m (k + 1)) b (λ k l. step (k + 1) (λ g. omega arith))
        ∙ r ∙ sym (count_miss (nonzero f) m (le-ltb 0 (f m) (omega arith)))
    go (no z) r =
        let l = h m (omega arith) in
        let c = count_at (λ k. met f m (k + 1)) (λ k. met f (m + 1) (k + 1)) (f m - 1) true (λ q. at z q (ℕ_discrete q (f m - 1))) b (omega arith) in
        let w : f m - 1 + 1 ≡ f m = omega arith in
        let o : one (met f m (f m - 1 + 1)) ≡ 0 = ap one (none_some (λ x. eqb (f x) (f m - 1 + 1)) m (λ x k. ne_eqb (f x) (f m - 1 + 1) (λ g. d x m k (omega arith) (omega arith) (g ∙ w)))) in
        let y = count_hit (nonzero f) m (lt-ltb 0 (f m) (omega arith)) in
        omega arith
