-- A space and a number of at most 20 digits for each time passed.
use Rattle.std.proofs.Common.{◌≤◌, ◌+◌, ◌*◌}
use Rattle.matched.proofs.print.put_times.Given as goal

abbrev pub invariant-loop-time : goal.invariant-loop-time
invariant-loop-time l = l.e ≤ l.o + 21 * l.time-index
