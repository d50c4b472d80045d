-- A test that tells which values a function takes below a bound.
use Rattle.std.specs.Prelude.{◌≡◌, Bool, ℕ, ◌≤◌, ◌<◌, eqb}
use Rattle.bounded.specs.Below.{some_below}

-- each v from lo to below n passes p if f sends some number below m to v, and else not
abbrev pub Seen : (ℕ → ℕ) → ℕ → ℕ → ℕ → (ℕ → Bool) → Type 0
Seen f lo n m p = (v : ℕ) → lo ≤ v → v < n → p v ≡ some_below (λ k. eqb (f k) v) m
