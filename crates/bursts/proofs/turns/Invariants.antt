use Prim.Native.Nat.{◌-◌, ◌≤◌}
use mathlib.Core.Path.{◌≡◌}
use lib.ListN.{length}
use Rattle.checkpoint.specs.Live.{world}
use Rattle.checkpoint.specs.Burst.{burst_from}
use Rattle.bursts.specs.Turn.{Kept}
use Rattle.bursts.proofs.turns.Given as goal

abbrev pub invariant-loop-k : goal.invariant-loop-k
invariant-loop-k l = (l.k ≤ l.count) × (length l.m ≡ length l.initial.m) × (length l.d ≡ length l.initial.d) × (burst_from (l.count - l.k) l.k (world l.s l.m l.d) ≡ burst_from l.count 0 (world l.s l.initial.m l.initial.d)) × Kept (world l.s l.m l.d) l.w.inodes l.named.map l.named.counts

abbrev pub decreases-loop-k : goal.decreases-loop-k
decreases-loop-k l = l.count - l.k
