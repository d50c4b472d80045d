use Prim.Native.Nat.{◌≤◌}
use mathlib.Core.Path.{◌≡◌}
use lib.ListN.{length, take}
use Rattle.octets.specs.Octets.{splice, word_bytes}
use Rattle.content.proofs.apply.put_further.Given as goal

abbrev pub invariant-loop-k : goal.invariant-loop-k
invariant-loop-k l = (l.k ≤ length l.address-items) × (l.s ≡ splice l.initial.s l.o (word_bytes (take l.k l.address-items))) × (length l.s ≡ length l.initial.s)
