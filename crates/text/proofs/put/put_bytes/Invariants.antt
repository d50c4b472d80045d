use Rattle.text.specs.Put.{Put, each}
use Rattle.io.specs.Digits.{last_digits}
use lib.ListN.{length, take}
use Prim.Native.Nat.{◌+◌, ◌*◌}
use mathlib.Core.Path.{◌≡◌}
use Rattle.text.proofs.put.put_bytes.Given as goal

abbrev pub invariant-loop-x : goal.invariant-loop-x
invariant-loop-x l = (l.e ≡ l.o + 2 * l.x-index) × (length l.out ≡ length l.initial.out) × Put l.initial.out l.o (each (last_digits 16 2) (take l.x-index l.bytes)) l.e l.out
