use Rattle.std.proofs.Common.{◌≡◌, ◌+◌, ◌-◌, ◌≤◌, true}
use Rattle.bounded.specs.Below.{all_below}
use Rattle.blocks.specs.Block.{address_block}
use Rattle.check_inodes.specs.Pass.{MapsOf, row_place, kth_b}
use Rattle.check_inodes.proofs.further_right.Given as goal

abbrev pub invariant-loop-j : goal.invariant-loop-j
invariant-loop-j l = (l.j ≤ l.used) × (l.used ≤ 32) × (l.a ≡ address_block l.s l.n l.i) × (all_below (λ x. kth_b l.s l.n l.b l.i (12 + x)) l.j ≡ true) × MapsOf l.s l.n (row_place l.i (12 + l.j)) l.map

abbrev pub decreases-loop-j : goal.decreases-loop-j
decreases-loop-j l = l.used - l.j
