-- Laws of sums over the numbers below a bound.
use Prim.Native.Nat.{ℕ, zero, suc, ◌+◌, ◌*◌, ◌≤◌, ◌<◌}
use mathlib.Core.Path.{◌≡◌, refl, sym, ap, ap₂}
use mathlib.Core.Logic.{◌≢◌}
use native.Mathlib.Nat.{mul-zero, mul-suc}
use native.Mathlib.Decide.{ℕ_discrete}
use native.Mathlib.Omega.{arith}
use Rattle.bounded.specs.Sum.{sum}

-- functions that are equal below n
pub sum_ext : (f g : ℕ → ℕ) (n : ℕ) → ((k : ℕ) → k < n → f k ≡ g k) → sum f n ≡ sum g n
unfolding sum
sum_ext f g zero h = refl
sum_ext f g (suc n) h = ap₂ ◌+◌ (sum_ext f g n (λ k l. h k (omega arith))) (h n (omega arith))

pub sum_none : (f : ℕ → ℕ) (n : ℕ) → ((k : ℕ) → k < n → f k ≡ 0) → sum f n ≡ 0
unfolding sum
sum_none f zero h = refl
sum_none f (suc n) h = let a = sum_none f n (λ k l. h k (omega arith)) in let b = h n (omega arith) in omega arith

-- functions that are equal below n but at i: each sum with the other's value there
pub sum_but : (f g : ℕ → ℕ) (n i : ℕ) → i < n → ((k : ℕ) → k < n → k ≢ i → g k ≡ f k) → sum g n + f i ≡ sum f n + g i
unfolding sum
sum_but f g zero i l h = absurd (omega arith)
sum_but f g (suc n) i l h = go (ℕ_discrete n i) (λ m. sum_but f g n i m (λ k a. h k (omega arith)))
  where
    go : Dec (n ≡ i) → (i < n → sum g n + f i ≡ sum f n + g i) → sum g n + g n + f i ≡ sum f n + f n + g i
    go (yes e) r =
        let a = sum_ext g f n (λ k m. h k (omega arith) (λ z. omega arith)) in
        let b = ap f e in
        let c = ap g e in
        omega arith
    go (no e) r = let a = r (omega arith) in let b = h n (omega arith) e in omega arith

-- each at most c
pub sum_most : (f : ℕ → ℕ) (c n : ℕ) → ((k : ℕ) → k < n → f k ≤ c) → sum f n ≤ c * n
unfolding sum
sum_most f c zero h = rw mul-zero (omega arith)
sum_most f c (suc n) h = let a = sum_most f c n (λ k l. h k (omega arith)) in let b = h n (omega arith) in rw mul-suc (omega arith)

-- and one of them with v to spare
pub sum_spare : (f : ℕ → ℕ) (c v i n : ℕ) → ((k : ℕ) → k < n → f k ≤ c) → i < n → f i + v ≤ c → sum f n + v ≤ c * n
unfolding sum
sum_spare f c v i zero h l m = absurd (omega arith)
sum_spare f c v i (suc n) h l m = rw mul-suc (go (ℕ_discrete i n) (λ b. sum_spare f c v i n (λ k a. h k (omega arith)) b m))
  where
    go : Dec (i ≡ n) → (i < n → sum f n + v ≤ c * n) → sum f n + f n + v ≤ c * n + c
    go (yes e) r = let a = sum_most f c n (λ k b. h k (omega arith)) in let b : f n ≡ f i = ap f (sym e) in omega arith
    go (no e) r = let a = r (omega arith) in let b = h n (omega arith) in omega arith
