-- The list of a function's values below a bound.
use Rattle.std.specs.Prelude.{◌≡◌, List, [], ◌∷◌, ℕ, zero, suc, ◌<◌, length, get_or}

-- f 0, f 1, .., n of them
unfoldable pub table : (ℕ → ℕ) → ℕ → List ℕ
table f zero = []
table f (suc n) = f 0 ∷ table (λ k. f (suc k)) n

-- the list has n numbers, and f's values below k
pub record Tabulated (f : ℕ → ℕ) (n k : ℕ) (l : List ℕ) : Type 0 where
  pub long : length l ≡ n
  pub each : (i : ℕ) → i < k → get_or l i 0 ≡ f i
