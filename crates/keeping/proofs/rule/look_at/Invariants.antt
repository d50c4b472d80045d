use Prim.Native.Nat.{◌≤◌}
use lib.ListN.{length}
use Rattle.bounded.specs.Count.{one}
use Rattle.keeping.specs.Keeping.{looked_at}
use Rattle.keeping.specs.Days.{NotedFrom}
use Rattle.keeping.proofs.LoopLaws.{FilledFrom}
use Rattle.keeping.proofs.rule.look_at.Given as goal

abbrev pub invariant-loop-i : goal.invariant-loop-i
invariant-loop-i l = (l.i ≤ length l.days) × NotedFrom l.days l.i l.map × FilledFrom (λ j. one (looked_at l.days j)) (length l.days) l.i l.initial.out l.out

abbrev pub decreases-loop-i : goal.decreases-loop-i
decreases-loop-i l = l.i
