use Prim.Native.Nat.{◌≤◌, ◌-◌}
use mathlib.Core.Path.{◌≡◌}
use lib.ListN.{length, take}
use Rattle.octets.specs.Octets.{splice, word_bytes}
use Rattle.layout.proofs.inode.put_words.Given as goal

abbrev pub invariant-loop-k : goal.invariant-loop-k
invariant-loop-k l = (l.k ≤ 12) × (length l.v-items ≡ 12) × (l.s ≡ splice l.initial.s l.o (word_bytes (take l.k l.v-items))) × (length l.s ≡ length l.initial.s)
