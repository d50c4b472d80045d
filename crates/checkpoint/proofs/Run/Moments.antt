-- The moments of a list by their numbers: at es w j is the world after the first j events.
use Prim.Native.Nat.{ℕ, zero, suc, ◌+◌, ◌-◌, ◌≤◌}
use mathlib.Core.Path.{◌≡◌, refl, ap, ◌∙◌}
use mathlib.Core.List.{List, [], ◌∷◌, ◌++◌}
use native.Mathlib.Omega.{arith}
use lib.ListN.{length}
use Rattle.checkpoint.specs.Live.{World}
use Rattle.checkpoint.specs.List.{Event, next, run, Moment, here, after}

unfoldable pub at : List Event → World → ℕ → World
at es w zero = w
at [] w (suc j) = w
at (e ∷ es) w (suc j) = at es (next e w) j

pub at_end : (es : List Event) (w : World) → at es w (length es) ≡ run es w
unfolding at run
at_end [] w = refl
at_end (e ∷ es) w = at_end es (next e w)

pub moment_at : (es : List Event) (w : World) (j : ℕ) → Moment es w (at es w j)
unfolding at
moment_at es w zero = here
moment_at [] w (suc j) = here
moment_at (e ∷ es) w (suc j) = after (moment_at es (next e w) j)

-- ---- a list in three parts: the events before moment a, those from it to moment b, and the rest
pub record Parts (es : List Event) (w : World) (a b : ℕ) : Type 0 where
  pub before : List Event
  pub during : List Event
  pub rest : List Event
  pub whole : es ≡ before ++ (during ++ rest)
  pub long : length during ≡ b - a
  pub first : run before w ≡ at es w a
  pub each : (j : ℕ) → j ≤ b - a → at during (run before w) j ≡ at es w (j + a)

-- the first k events
pub record Front (es : List Event) (w : World) (k : ℕ) : Type 0 where
  pub front : List Event
  pub rest : List Event
  pub whole : es ≡ front ++ rest
  pub long : length front ≡ k
  pub last : run front w ≡ at es w k
  pub each : (j : ℕ) → j ≤ k → at front w j ≡ at es w j

pub front : (es : List Event) (w : World) (k : ℕ) → k ≤ length es → Front es w k
unfolding at run
front es w zero l = record { front = []; rest = es; whole = refl; long = refl; last = refl; each = λ j m. first j (omega arith) }
  where
    first : (j : ℕ) → j ≡ 0 → at [] w j ≡ at es w j
    first zero m = refl
    first (suc j) m = absurd (omega arith)
front [] w (suc k) l = absurd (omega arith)
front (e ∷ es) w (suc k) l =
    let r = front es (next e w) k (omega arith) in
    record {
      front = e ∷ r.front;
      rest = r.rest;
      whole = ap (λ (x : List Event). e ∷ x) r.whole;
      long = ap suc r.long;
      last = r.last;
      each = λ j m. each r j m;
    }
  where
    each : (r : Front es (next e w) k) (j : ℕ) → j ≤ suc k → at (e ∷ r.front) w j ≡ at (e ∷ es) w j
    each r zero m = refl
    each r (suc j) m = r.each j (omega arith)

pub parts : (es : List Event) (w : World) (a b : ℕ) → a ≤ b → b ≤ length es → Parts es w a b
unfolding at run
parts es w zero b l m =
    let r = front es w b m in
    record { before = []; during = r.front; rest = r.rest; whole = r.whole; long = let x = r.long in omega arith; first = refl; each = λ j o. r.each j (omega arith) ∙ ap (at es w) (same j) }
  where
    same : (j : ℕ) → j ≡ j + 0
    same j = omega arith
parts [] w (suc a) b l m = absurd (omega arith)
parts (e ∷ es) w (suc a) zero l m = absurd (omega arith)
parts (e ∷ es) w (suc a) (suc b) l m =
    let r = parts es (next e w) a b (omega arith) (omega arith) in
    record {
      before = e ∷ r.before;
      during = r.during;
      rest = r.rest;
      whole = ap (λ (x : List Event). e ∷ x) r.whole;
      long = let x = r.long in omega arith;
      first = r.first;
      each = λ j o. r.each j (omega arith) ∙ ap (at (e ∷ es) w) (more j);
    }
  where
    more : (j : ℕ) → suc (j + a) ≡ j + suc a
    more j = omega arith
