use Rattle.std.proofs.Common.{◌≡◌, ◌+◌, ◌-◌, ◌*◌, ◌≤◌, true, ◌&&◌}
use Rattle.sound.specs.Test.{inode_b}
use Rattle.bounded.specs.Below.{all_below}
use Rattle.check_inodes.specs.Pass.{MapsOf, new_blocks_b}
use Rattle.check_inodes.proofs.inodes_right.Given as goal

abbrev pub invariant-loop-k : goal.invariant-loop-k
invariant-loop-k l = (l.k ≤ l.n) × (all_below (λ j. inode_b l.s l.n l.b (j + 1) && new_blocks_b l.s l.n (j + 1)) l.k ≡ true) × MapsOf l.s l.n (44 * l.k) l.map

abbrev pub decreases-loop-k : goal.decreases-loop-k
decreases-loop-k l = l.n - l.k
