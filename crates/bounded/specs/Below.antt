-- A test at every number below a bound.
use Rattle.std.specs.Prelude.{Bool, true, not, ◌&&◌, ℕ, zero, suc, ◌+◌}

-- p holds at every number below n
unfoldable pub all_below : (ℕ → Bool) → ℕ → Bool
all_below p zero = true
all_below p (suc n) = all_below p n && p n

-- p holds at each of the numbers 1 to n
abbrev pub all_to : (ℕ → Bool) → ℕ → Bool
all_to p n = all_below (λ k. p (k + 1)) n

-- p holds at some number below n
unfoldable pub some_below : (ℕ → Bool) → ℕ → Bool
some_below p n = not (all_below (λ k. not (p k)) n)
