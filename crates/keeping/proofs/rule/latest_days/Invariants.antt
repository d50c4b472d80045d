use Prim.Native.Nat.{◌-◌, ◌≤◌}
use Rattle.keeping.specs.Keeping.{term_count}
use Rattle.keeping.specs.Days.{Latest}
use Rattle.keeping.proofs.rule.latest_days.Given as goal

abbrev pub invariant-loop-t : goal.invariant-loop-t
invariant-loop-t l = (l.t ≤ term_count l.terms) × Latest l.days l.terms l.t l.latest

abbrev pub decreases-loop-t : goal.decreases-loop-t
decreases-loop-t l = term_count l.terms - l.t
