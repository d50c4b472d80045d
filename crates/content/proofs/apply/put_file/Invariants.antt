use Prim.Native.Nat.{◌-◌, ◌≤◌}
use mathlib.Core.Path.{◌≡◌}
use lib.ListN.{length}
use Rattle.octets.specs.Octets.{part}
use Rattle.content.specs.Content.{put_file}
use Rattle.content.proofs.apply.put_file.Given as goal

abbrev pub invariant-loop-j : goal.invariant-loop-j
invariant-loop-j l = (l.j ≤ l.k) × (l.s ≡ put_file l.initial.s l.n l.i l.o (part l.xs 0 l.j)) × (length l.s ≡ length l.initial.s)

abbrev pub decreases-loop-j : goal.decreases-loop-j
decreases-loop-j l = l.k - l.j
