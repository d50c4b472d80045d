use Prim.Native.Nat.{◌+◌, ◌*◌, ◌-◌, ◌≤◌}
use Rattle.bounded.specs.Count.{Tallied}
use Rattle.sound.specs.Place.{place_of}
use Rattle.checkpoint.specs.Image.{image_naming}
use Rattle.image.proofs.naming.count_block.Given as goal

abbrev pub invariant-loop-j : goal.invariant-loop-j
invariant-loop-j l = (l.j ≤ 4) × Tallied (image_naming l.m l.n) 1 257 (place_of l.e (4 * l.k) + l.j) l.counts

abbrev pub decreases-loop-j : goal.decreases-loop-j
decreases-loop-j l = 4 - l.j
