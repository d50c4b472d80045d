use Prim.Native.Nat.{ℕ, ◌-◌, ◌≤◌}
use mathlib.Core.Path.{◌≡◌}
use mathlib.Core.Bool.{Bool, true}
use mathlib.Core.List.{List}
use lib.ListN.{length, get_or}
use Rattle.bounded.specs.Below.{all_below}
use Rattle.bounded.specs.Table.{Tabulated}
use Rattle.calendar.specs.Date.{date_of, is_date}
use Rattle.keeping.specs.Call.{day_at}
use Rattle.keeping.proofs.dates.read_days.Given as goal

abbrev pub dated : List ℕ → ℕ → Bool
dated l j = is_date (date_of (get_or l j 0))

abbrev pub invariant-loop-i : goal.invariant-loop-i
invariant-loop-i l = (l.i ≤ length l.dates) × (all_below (dated l.dates) l.i ≡ true) × Tabulated (day_at l.dates) (length l.initial.days) l.i l.days

abbrev pub decreases-loop-i : goal.decreases-loop-i
decreases-loop-i l = length l.dates - l.i
