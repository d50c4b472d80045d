use mathlib.Core.Path.{refl}
use Rattle.calendar.specs.Gregorian.{month_length, months}
use Rattle.calendar.proofs.StartLaws.{starts_right}
use Rattle.calendar.proofs.month_starts.Goals as goal

-- the table that the rule gives, computed here, is the code's
pub returns : goal.returns
unfolding month_length
returns c = record { long = refl; each = starts_right months }
