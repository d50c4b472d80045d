use Prim.Native.Nat.{◌*◌, ◌-◌, ◌≤◌}
use Rattle.bounded.specs.Count.{Tallied}
use Rattle.sound.specs.Place.{place_of}
use Rattle.checkpoint.specs.Image.{image_naming}
use Rattle.image.proofs.naming.count_directory.Given as goal

abbrev pub invariant-loop-k : goal.invariant-loop-k
invariant-loop-k l = (l.k ≤ 12) × Tallied (image_naming l.m l.n) 1 257 (place_of l.e (4 * l.k)) l.counts

abbrev pub decreases-loop-k : goal.decreases-loop-k
decreases-loop-k l = 12 - l.k
