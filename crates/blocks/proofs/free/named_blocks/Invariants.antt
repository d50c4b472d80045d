use Prim.Native.Nat.{◌*◌, ◌≤◌, ◌-◌}
use Rattle.blocks.specs.Free.{long_but}
use Rattle.blocks.specs.Map.{Maps}
use Rattle.blocks.proofs.free.named_blocks.Given as goal

abbrev pub invariant-loop-k : goal.invariant-loop-k
invariant-loop-k l = (l.k ≤ l.n) × Maps (long_but l.s l.l l.long) l.s l.n (44 * l.k) l.map

abbrev pub decreases-loop-k : goal.decreases-loop-k
decreases-loop-k l = l.n - l.k
