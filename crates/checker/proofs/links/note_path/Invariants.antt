use Prim.Native.Nat.{◌≤◌, ◌-◌}
use Rattle.checker.proofs.LinkLaws.{Path}
use Rattle.checker.proofs.links.note_path.Given as goal

abbrev pub invariant-loop : goal.invariant-loop
invariant-loop l = (l.counter ≤ l.n) × Path l.s l.n l.noted l.known

abbrev pub decreases-loop : goal.decreases-loop
decreases-loop l = l.n - l.counter
