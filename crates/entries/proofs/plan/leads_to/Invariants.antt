use Prim.Native.Nat.{◌-◌}
use Rattle.entries.proofs.ParentLaws.{Climbing}
use Rattle.entries.proofs.plan.leads_to.Given as goal

abbrev pub invariant-loop : goal.invariant-loop
invariant-loop l = Climbing l.s l.n l.i l.e l.counter l.x

abbrev pub decreases-loop : goal.decreases-loop
decreases-loop l = l.n - l.counter
