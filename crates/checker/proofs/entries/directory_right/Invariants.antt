use Prim.Native.Nat.{◌*◌, ◌-◌, ◌≤◌}
use mathlib.Core.Bool.{true}
use mathlib.Core.Path.{◌≡◌}
use Rattle.bounded.specs.Below.{all_below}
use Rattle.sound.specs.Place.{place_of}
use Rattle.sound.specs.Test.{entry_b}
use Rattle.checker.specs.Pass.{Passed}
use Rattle.checker.proofs.entries.directory_right.Given as goal

abbrev pub invariant-loop-k : goal.invariant-loop-k
invariant-loop-k l = (l.k ≤ l.blocks) × (all_below (λ t. entry_b l.s l.n (place_of l.d t)) (4 * l.k) ≡ true) × Passed l.s l.n l.d (4 * l.k) (place_of l.d (4 * l.k)) l.names l.counts

abbrev pub decreases-loop-k : goal.decreases-loop-k
decreases-loop-k l = l.blocks - l.k
