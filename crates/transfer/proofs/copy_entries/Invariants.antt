use mathlib.Core.Path.{◌≡◌}
use Prim.Native.Nat.{◌-◌, ◌≤◌}
use lib.ListN.{length}
use Rattle.checkpoint.specs.Copier.{copied_entries}
use Rattle.transfer.proofs.copy_entries.Given as goal

abbrev pub invariant-loop-j : goal.invariant-loop-j
invariant-loop-j l = (l.j ≤ 4) × (length l.x ≡ 64) × (l.x ≡ copied_entries l.d l.n l.i l.k l.initial.x l.j)

abbrev pub decreases-loop-j : goal.decreases-loop-j
decreases-loop-j l = 4 - l.j
