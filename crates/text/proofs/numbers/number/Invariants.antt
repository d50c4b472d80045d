use Rattle.text.specs.Number.{largest, is_digit, decimal}
use Rattle.bounded.specs.Below.{all_below}
use lib.ListN.{length}
use Prim.Native.Nat.{◌≤◌, min}
use mathlib.Core.Bool.{true}
use mathlib.Core.Path.{◌≡◌}
use Rattle.text.proofs.numbers.number.Given as goal

abbrev pub invariant-loop-x : goal.invariant-loop-x
invariant-loop-x l = (1 ≤ length l.s) × (all_below (is_digit l.s) l.x-index ≡ true) × (l.v ≡ min (decimal l.s l.x-index) largest)
