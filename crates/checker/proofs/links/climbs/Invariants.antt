use Prim.Native.Nat.{◌-◌}
use Rattle.checker.proofs.LinkLaws.{Climbing}
use Rattle.checker.proofs.links.climbs.Given as goal

abbrev pub invariant-loop : goal.invariant-loop
invariant-loop l = Climbing l.s l.n l.d l.counter l.at

abbrev pub decreases-loop : goal.decreases-loop
decreases-loop l = l.n - l.counter
