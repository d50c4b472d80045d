-- Before month k the day is the one that month k begins on.
use Rattle.std.proofs.Common.{◌≡◌}
use Rattle.calendar.specs.Gregorian.{month_start}
use Rattle.monthstarts.proofs.print_starts.Given as goal

abbrev pub invariant-loop-k : goal.invariant-loop-k
invariant-loop-k l = l.day ≡ month_start l.k
