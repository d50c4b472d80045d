-- A function with another value at one number.
use Rattle.std.specs.Prelude.{◌≡◌, ◌≢◌, ℕ}
use Rattle.std.proofs.Math.Decide.{ℕ_discrete}

abbrev pub choose : {A : Type 0} {P : Type 0} → Dec P → A → A → A
choose (yes p) a b = a
choose (no p) a b = b

-- f with the value v at p
unfoldable pub upd : {A : Type 0} → (ℕ → A) → ℕ → A → ℕ → A
upd f p v q = choose (ℕ_discrete q p) v (f q)

-- what a function that differs from f only at p, where it is v, has at q: r
pub data Changed {A : Type 0} (f : ℕ → A) (p : ℕ) (v : A) (q : ℕ) (r : A) : Type 0 where
  here : q ≡ p → r ≡ v → Changed f p v q r
  there : q ≢ p → r ≡ f q → Changed f p v q r
