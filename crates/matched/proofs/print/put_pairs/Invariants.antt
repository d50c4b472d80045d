-- Two spaces and two numbers of at most 20 digits for each pair passed.
use Rattle.std.proofs.Common.{◌≤◌, ◌+◌, ◌*◌, length}
use Rattle.matched.proofs.print.put_pairs.Given as goal

abbrev pub invariant-loop-w : goal.invariant-loop-w
invariant-loop-w l = l.e ≤ l.o + 42 * length l.yielded
