-- The claims, of every call and of every sixteen calls in a row.
use Prim.Native.Nat.{ℕ, ◌+◌, ◌≤◌, ◌<◌}
use mathlib.Core.Path.{◌≡◌, sym, subst, ◌∙◌}
use mathlib.Core.Bool.{true, false}
use native.Mathlib.Omega.{arith}
use Rattle.bounded.proofs.SumLaws.{sum_ext}
use Rattle.dealer.specs.Deal.{bays, runs, gets}
use Rattle.dealer.specs.Claims.{Call, Answers, given, SomeRuns, AddsUp, OnlyRunning, Even, Claims}
use Rattle.dealer.proofs.Circle.{served_below}
use Rattle.dealer.proofs.Rounds.{even_gets}
use Rattle.dealer.proofs.AddsUp.{serves_running, adds_up, stays, none_get}
use Rattle.dealer.proofs.Filling.{gets_none}
use Rattle.dealer.proofs.CallLaws.{answers, accepted, Gave, steps, nothing, gave}
use Rattle.dealer.proofs.Fairness.{fair}

sums : (c : Call) (y : ℕ) → Answers c y → AddsUp c y
sums c y a =
    let k = accepted c y a in
    let same = sum_ext (given c) (gets c.flags c.last c.steps) bays k.gave in
    record {
      some = λ r. same ∙ adds_up c.flags c.last r.0 k.told.bay r.1 r.2 c.steps;
      none = λ r. (same ∙ none_get c.flags c.last r c.steps, sym k.answered ∙ stays c.flags c.last k.told.bay r c.steps);
    }

only : (c : Call) → OnlyRunning c
only c = record { counts = λ x hx r. idle x hx r (gave c); last = running }
  where
    idle : (x : ℕ) → x < bays → runs c.flags x ≡ false → Gave c → given c x ≡ 0
    idle x hx r (steps b g) = g x hx ∙ gets_none c.flags c.last c.steps x r
    idle x hx r (nothing g) = g x hx

    running : (y : ℕ) → Answers c y → SomeRuns c → (y < bays) × (runs c.flags y ≡ true)
    running y a r =
        let k = accepted c y a in
        let h = serves_running c.flags c.last r.0 k.told.bay r.1 r.2 c.steps k.told.low in (
          subst (λ (z : ℕ). z < bays) k.answered (served_below c.flags c.last c.steps k.told.bay),
          subst (λ (z : ℕ). runs c.flags z ≡ true) k.answered h,
        )

differ : (c : Call) → Even c
differ c x y hx hy rx ry = go (gave c)
  where
    go : Gave c → given c x ≤ given c y + 1
    go (steps b g) = omega (arith, even_gets c.flags c.last x y c.steps b.bay hx hy rx ry, g x hx, g y hy)
    go (nothing g) = omega (arith, g x hx)

pub claims : Claims
claims = record { answers = answers; adds_up = sums; only_running = only; even = differ; fair = fair }
