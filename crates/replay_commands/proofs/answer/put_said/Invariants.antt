use Rattle.text.specs.Put.{Put, each}
use Rattle.replay_commands.specs.Line.{number_text}
use lib.ListN.{length, take}
use Prim.Native.Nat.{◌+◌, ◌*◌, ◌≤◌}
use mathlib.Core.Path.{◌≡◌}
use Rattle.replay_commands.proofs.answer.put_said.Given as goal

abbrev pub invariant-loop-n : goal.invariant-loop-n
invariant-loop-n l = (l.e ≤ l.o + length l.word + 21 * l.n-index) × (length l.out ≡ length l.initial.out) × Put l.initial.out l.initial.e (each number_text (take l.n-index l.numbers)) l.e l.out
