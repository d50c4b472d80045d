use Prim.Native.Nat.{◌*◌, ◌-◌, ◌≤◌}
use Rattle.bounded.specs.Count.{Tallied}
use Rattle.checkpoint.specs.Image.{image_naming}
use Rattle.image.proofs.naming.count_names.Given as goal

abbrev pub invariant-loop-k : goal.invariant-loop-k
invariant-loop-k l = (l.k ≤ l.n) × Tallied (image_naming l.m l.n) 1 257 (48 * l.k) l.counts

abbrev pub decreases-loop-k : goal.decreases-loop-k
decreases-loop-k l = l.n - l.k
