-- How many numbers below a bound pass a test, and a list that holds such counts.
use Rattle.std.specs.Prelude.{◌≡◌, Bool, true, false, ◌||◌, List, ℕ, zero, suc, ◌+◌, ◌≤◌, ◌<◌, eqb, length, get_or}
use Rattle.bounded.specs.Below.{all_below}

abbrev pub one : Bool → ℕ
one true = 1
one false = 0

-- how many numbers below n pass p
unfoldable pub count : (ℕ → Bool) → ℕ → ℕ
count p zero = 0
count p (suc n) = count p n + one (p n)

-- how many of the numbers 1 to n pass p
abbrev pub count_to : (ℕ → Bool) → ℕ → ℕ
count_to p n = count (λ k. p (k + 1)) n

-- how many numbers below m does f send to v
abbrev pub tally : (ℕ → ℕ) → ℕ → ℕ → ℕ
tally f m v = count (λ k. eqb (f k) v) m

-- the list holds, at each v from lo up to but not including n, the tally of v
pub record Tallied (f : ℕ → ℕ) (lo n m : ℕ) (l : List ℕ) : Type 0 where
  pub long : length l ≡ n
  pub each : (v : ℕ) → lo ≤ v → v < n → get_or l v 0 ≡ tally f m v

-- no two numbers below m have the same value, other than 0, under f: the test, value by value, and the proposition
abbrev pub new_at : (ℕ → ℕ) → ℕ → Bool
new_at f j = eqb (f j) 0 || eqb (tally f j (f j)) 0

abbrev pub differ_b : (ℕ → ℕ) → ℕ → Bool
differ_b f m = all_below (new_at f) m

abbrev pub Differ : (ℕ → ℕ) → ℕ → Type 0
Differ f m = (i j : ℕ) → i < j → j < m → 0 < f j → f i ≡ f j → ⊥
