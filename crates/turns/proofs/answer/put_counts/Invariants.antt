-- A space and a number of at most 20 digits for each bay passed.
use Rattle.std.proofs.Common.{◌≤◌, ◌+◌, ◌*◌}
use Rattle.turns.proofs.answer.put_counts.Given as goal

abbrev pub invariant-loop-count : goal.invariant-loop-count
invariant-loop-count l = l.e ≤ 2 + 21 * l.count-index
