-- The fields passed are the numbers before k.
use Rattle.std.proofs.Common.{◌≡◌, ◌+◌, ◌<◌, ℕ, Some, slice_index}
use Rattle.text.specs.Number.{number_of}
use Rattle.text.specs.Pieces.{piece}
use Rattle.text.proofs.fields.take_numbers.Given as goal

abbrev pub invariant-loop-k : goal.invariant-loop-k
invariant-loop-k l = (j : ℕ) → j < l.k → number_of (piece l.line 32 (l.first + j)) ≡ Some (slice_index l.numbers j)
