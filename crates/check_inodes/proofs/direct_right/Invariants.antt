use Rattle.std.proofs.Common.{◌≡◌, ◌-◌, ◌≤◌, true}
use Rattle.bounded.specs.Below.{all_below}
use Rattle.check_inodes.specs.Pass.{MapsOf, row_place, kth_b}
use Rattle.check_inodes.proofs.direct_right.Given as goal

abbrev pub invariant-loop-k : goal.invariant-loop-k
invariant-loop-k l = (l.k ≤ l.used) × (all_below (kth_b l.s l.n l.b l.i) l.k ≡ true) × MapsOf l.s l.n (row_place l.i l.k) l.map

abbrev pub decreases-loop-k : goal.decreases-loop-k
decreases-loop-k l = l.used - l.k
