use Prim.Native.Nat.{◌-◌, ◌≤◌}
use mathlib.Core.Path.{◌≡◌}
use lib.ListN.{length}
use Rattle.bounded.specs.Count.{count}
use Rattle.octets.specs.Octets.{splice}
use Rattle.keeping.specs.Days.{settled, settled_flags}
use Rattle.keeping.proofs.rule.settle.Given as goal

abbrev pub invariant-loop-i : goal.invariant-loop-i
invariant-loop-i l =
    (l.i ≤ length l.days) × (l.kept ≡ count (settled l.days l.terms l.today l.map l.latest l.initial.out) l.i)
    × (l.out ≡ splice l.initial.out 0 (settled_flags l.days l.terms l.today l.map l.latest l.initial.out l.i))

abbrev pub decreases-loop-i : goal.decreases-loop-i
decreases-loop-i l = length l.days - l.i
