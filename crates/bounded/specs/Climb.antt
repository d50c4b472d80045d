-- From a number to its parent, and so on, up to a given number: with a bound on the steps as a test, with none as a proposition.
use Rattle.std.specs.Prelude.{◌≡◌, Bool, ◌||◌, ℕ, zero, suc, ◌≤◌, ◌<◌, eqb}

-- d, k steps up
unfoldable pub climb : (ℕ → ℕ) → ℕ → ℕ → ℕ
climb up zero d = d
climb up (suc k) d = climb up k (up d)

-- some number of steps leads from d to a
abbrev pub Leads : (ℕ → ℕ) → ℕ → ℕ → Type 0
Leads up a d = (k : ℕ) × (climb up k d ≡ a)

-- at most k steps do
unfoldable pub leads_b : (ℕ → ℕ) → ℕ → ℕ → ℕ → Bool
leads_b up a zero d = eqb d a
leads_b up a (suc k) d = eqb d a || leads_b up a k (up d)

-- D holds of numbers from 1 to n alone; and if it holds of a number other than a, it holds of that number's parent
pub record Closed (D : ℕ → Type 0) (up : ℕ → ℕ) (a n : ℕ) : Type 0 where
  pub within : (x : ℕ) → D x → (0 < x) × (x ≤ n)
  pub parent : (x : ℕ) → D x → (x ≡ a → ⊥) → D (up x)
