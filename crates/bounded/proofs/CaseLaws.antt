-- Where a number stands: at another or elsewhere, at 0 or above, in a range or outside of it.
use mathlib.Core.Path.{◌≡◌, sym, subst}
use mathlib.Core.Logic.{◌≢◌}
use Prim.Native.Nat.{ℕ, zero, suc, ◌≤◌, ◌<◌}
use native.Mathlib.Decide.{ℕ_discrete, dec_lt}
use native.Mathlib.Omega.{arith}

-- what holds of i and of all others holds of all
pub each_else : (P : ℕ → Type 0) (i j : ℕ) → P i → (j ≢ i → P j) → P j
each_else P i j p f = elim (ℕ_discrete j i) as (λ _. P j) [ yes e ↦ subst P (sym e) p | no e ↦ f e ]

-- what holds of 0 and of the numbers above it holds of all
pub each_suc : (P : ℕ → Type 0) (k : ℕ) → P 0 → ((i : ℕ) → i < k → P (suc i)) → (j : ℕ) → j < suc k → P j
each_suc P k z f zero l = z
each_suc P k z f (suc j) l = f j (omega arith)

-- a number is from 1 to n, or not
pub in_range : (n i : ℕ) {P : Type 0} → (1 ≤ i → i ≤ n → P) → ((1 ≤ i → i ≤ n → ⊥) → P) → P
in_range n i {P} f g = go (dec_lt i 1) (dec_lt n i)
  where
    go : Dec (i < 1) → Dec (n < i) → P
    go (yes l) d = g (λ a b. omega arith)
    go (no l) (yes m) = g (λ a b. omega arith)
    go (no l) (no m) = f (omega arith) (omega arith)

-- below m, or not
pub is_below : (m x : ℕ) {P : Type 0} → (x < m → P) → (m ≤ x → P) → P
is_below m x {P} f g = go (dec_lt x m)
  where
    go : Dec (x < m) → P
    go (yes l) = f l
    go (no l) = g (omega arith)

-- j is none of the numbers below k, as a `match` leaves it
abbrev pub NoneBelow : ℕ → ℕ → Type 0
NoneBelow zero j = Unit
NoneBelow (suc k) j = NoneBelow k j × (j ≡ k → ⊥)

pub above : (k j : ℕ) → NoneBelow k j → k ≤ j
above zero j h = omega arith
above (suc k) j h = let l = above k j h.0 in let n = h.1 in omega arith
