-- A closure that gives blocks.
use Rattle.std.specs.Prelude.{◌≡◌, ◌<◌, ℕ}
use denote.Param.Members.{Shared}
use Rattle.std.specs.Fn.{FnReturns}

-- f gives g k at each k below n
pub record Gives {F : Type 0} (h : Shared F (ℕ × Unit {0}) ℕ) (f : F) (n : ℕ) (g : ℕ → ℕ) : Type 0 where
  pub says : (k b : ℕ) → k < n → FnReturns h f (k, tt) b → b ≡ g k
