use Rattle.std.proofs.Common.{sym, ◌∙◌, arith}
use Rattle.calendar.proofs.DayLaws.{no_date, a_day, days_end}
use Rattle.calendar.proofs.reckon.Goals as goal

pub returns-then-not-is_date : goal.returns-then-not-is_date
returns-then-not-is_date c = no_date c.args.date (sym c.is_date.ensures ∙ c.if-not-is_date.true)

pub overflow_cast-result : goal.overflow_cast-result
overflow_cast-result c =
    let f = c.start_in-first.ensures in
    let h = days_end c.args.date (sym c.is_date.ensures ∙ c.if-not-is_date.false) in
    omega arith

pub returns : goal.returns
returns c = let f = c.start_in-first.ensures in a_day c.args.date _ (sym c.is_date.ensures ∙ c.if-not-is_date.false) (omega arith)
