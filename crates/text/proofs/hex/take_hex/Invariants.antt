use Rattle.text.specs.Hex.{hex_byte}
use Rattle.octets.specs.Octets.{splice}
use Rattle.bounded.specs.Table.{table}
use lib.ListN.{length}
use Prim.Native.Nat.{◌*◌, ◌≤◌}
use mathlib.Core.Path.{◌≡◌}
use Rattle.text.proofs.hex.take_hex.Given as goal

abbrev pub invariant-loop-k : goal.invariant-loop-k
invariant-loop-k l = (l.k ≤ l.n) × (2 * l.n ≤ length l.s) × (l.n ≤ length l.initial.out) × (length l.out ≡ length l.initial.out) × (l.out ≡ splice l.initial.out 0 (table (hex_byte l.s) l.k))
