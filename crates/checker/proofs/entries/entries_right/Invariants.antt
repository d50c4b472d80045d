use Prim.Native.Nat.{◌*◌, ◌-◌, ◌≤◌}
use mathlib.Core.Bool.{true}
use mathlib.Core.Path.{◌≡◌}
use lib.ListN.{length}
use Rattle.bounded.specs.Count.{Tallied}
use Rattle.bounded.specs.Below.{all_below}
use Rattle.directory.specs.Slot.{most_slots}
use Rattle.sound.specs.Place.{naming}
use Rattle.sound.specs.Test.{entry_b}
use Rattle.checker.proofs.entries.entries_right.Given as goal

abbrev pub invariant-loop-k : goal.invariant-loop-k
invariant-loop-k l = (l.k ≤ l.n) × (all_below (entry_b l.s l.n) (most_slots * l.k) ≡ true) × (length l.names ≡ 48) × Tallied (naming l.s l.n) 1 257 (most_slots * l.k) l.counts

abbrev pub decreases-loop-k : goal.decreases-loop-k
decreases-loop-k l = l.n - l.k
