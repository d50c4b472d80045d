-- The largest of a function's values below a bound.
use Rattle.std.specs.Prelude.{ℕ, zero, suc, max}

unfoldable pub most : (ℕ → ℕ) → ℕ → ℕ
most f zero = 0
most f (suc n) = max (most f n) (f n)
