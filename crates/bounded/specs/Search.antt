-- A search for the lowest number that passes a test.
use Rattle.std.specs.Prelude.{Bool, true, false, ℕ, zero, suc, None, Option, Some}

-- a if the test holds, else b
abbrev pub pick : {A : Type 0} → Bool → A → A → A
pick true a b = a
pick false a b = b

-- the lowest of the k numbers from i on at which f holds
unfoldable pub first_from : (ℕ → Bool) → ℕ → ℕ → Option ℕ
first_from f i zero = None
first_from f i (suc k) = pick (f i) (Some i) (first_from f (suc i) k)

-- the lowest number below k at which f holds
unfoldable pub first : (ℕ → Bool) → ℕ → Option ℕ
first f k = first_from f 0 k

-- by cases on what was found
abbrev pub on_found : {A : Type 0} → Option ℕ → (ℕ → A) → A → A
on_found (Some t) g d = g t
on_found None g d = d
