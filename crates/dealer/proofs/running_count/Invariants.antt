use Rattle.bounded.specs.Count.{count}
use Rattle.dealer.specs.Deal.{runs}
use Prim.Native.Nat.{◌≤◌, ◌-◌}
use mathlib.Core.Path.{◌≡◌}
use Rattle.dealer.proofs.running_count.Given as goal

-- `dealer::running_count` meets its contract. Assumes nothing.
abbrev pub invariant-loop-b : goal.invariant-loop-b
invariant-loop-b l = (l.n ≡ count (runs l.flags) l.b) × (l.n ≤ l.b) × (l.b ≤ 16)

abbrev pub decreases-loop-b : goal.decreases-loop-b
decreases-loop-b l = 16 - l.b
