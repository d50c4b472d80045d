use Prim.Native.Nat.{◌-◌, ◌≤◌}
use mathlib.Core.Path.{◌≡◌}
use mathlib.Core.Bool.{true}
use Rattle.bounded.specs.Below.{all_below}
use Rattle.keeping.specs.Keeping.{term_count}
use Rattle.keeping.proofs.TermLaws.{free_from, neat}
use Rattle.keeping.proofs.dates.in_order.Given as goal

abbrev pub invariant-loop-t : goal.invariant-loop-t
invariant-loop-t l = (l.t ≤ term_count l.terms) × (l.free ≡ free_from l.terms l.t) × (all_below (neat l.terms) l.t ≡ true)

abbrev pub decreases-loop-t : goal.decreases-loop-t
decreases-loop-t l = term_count l.terms - l.t
