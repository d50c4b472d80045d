use Prim.Native.Nat.{◌+◌, ◌*◌, ◌-◌, ◌≤◌}
use mathlib.Core.Path.{◌≡◌}
use mathlib.Core.Bool.{true}
use Rattle.bounded.specs.Below.{all_below}
use Rattle.sound.specs.Place.{place_of}
use Rattle.sound.specs.Test.{entry_b}
use Rattle.checker.specs.Pass.{Passed}
use Rattle.checker.proofs.entries.block_right.Given as goal

abbrev pub invariant-loop-j : goal.invariant-loop-j
invariant-loop-j l = (l.j ≤ 4) × (all_below (λ i. entry_b l.s l.n (place_of l.d (4 * l.k + i))) l.j ≡ true) × Passed l.s l.n l.d (4 * l.k + l.j) (place_of l.d (4 * l.k + l.j)) l.names l.counts

abbrev pub decreases-loop-j : goal.decreases-loop-j
decreases-loop-j l = 4 - l.j
