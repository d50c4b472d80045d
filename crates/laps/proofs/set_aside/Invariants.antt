use Prim.Native.Nat.{◌≤◌, ◌-◌}
use mathlib.Core.Path.{◌≡◌}
use lib.ListN.{length}
use Rattle.octets.specs.Octets.{pasted}
use Rattle.laps.proofs.set_aside.Given as goal

abbrev pub invariant-loop-k : goal.invariant-loop-k
invariant-loop-k l = (l.k ≤ length l.times - l.from) × (length l.out ≡ length l.initial.out) × (l.out ≡ pasted l.initial.out l.to l.times l.from l.k)

abbrev pub decreases-loop-k : goal.decreases-loop-k
decreases-loop-k l = length l.times - l.from - l.k
