use Rattle.std.proofs.Common.{◌+◌, ◌/◌, ◌%◌, arith}
use Rattle.calendar.specs.Gregorian.{first_year}
use Rattle.calendar.proofs.MonthLaws.{length_most, start_most, start_first, start_next}
use Rattle.monthstarts.proofs.print_starts.Goals as goal

pub loop-k-init : goal.loop-k-init
loop-k-init c = start_first

pub overflow_add-day : goal.overflow_add-day
overflow_add-day c =
    let l = length_most (first_year + c.loop-k.k / 12) (c.loop-k.k % 12 + 1) in
    let s = start_most c.loop-k.k in
    grind (arith, l, s, c.month_length-day.ensures, c.loop-k.invariant)

pub loop-k-preserved : goal.loop-k-preserved
loop-k-preserved c =
    let n = start_next c.loop-k.k in
    grind (arith, n, c.month_length-day.ensures, c.loop-k.invariant)
