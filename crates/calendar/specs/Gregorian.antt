-- The Gregorian rule, and the months from January 2000 on.
use Rattle.std.specs.Prelude.{ℕ, ◌+◌, ◌/◌, ◌%◌, Bool, not, ◌&&◌, ◌||◌, List, eqb}
use Rattle.bounded.specs.Search.{pick}
use Rattle.bounded.specs.Sum.{sum}
use Rattle.bounded.specs.Table.{Tabulated}

-- every fourth year is a leap year, but of the centuries only every fourth
abbrev pub is_leap : ℕ → Bool
is_leap y = (eqb (y % 4) 0 && not (eqb (y % 100) 0)) || eqb (y % 400) 0

-- April, June, September, November
abbrev pub has_thirty : ℕ → Bool
has_thirty m = eqb m 4 || (eqb m 6 || (eqb m 9 || eqb m 11))

-- the days of month m, 1 to 12, of year y
unfoldable pub month_length : ℕ → ℕ → ℕ
month_length y m = pick (eqb m 2) (pick (is_leap y) 29 28) (pick (has_thirty m) 30 31)

-- "from 2000-01-01 to 2049-12-31"
abbrev pub first_year : ℕ
first_year = 2000

abbrev pub last_year : ℕ
last_year = 2049

-- so many months
abbrev pub months : ℕ
months = 600

-- months counted from January 2000, which is 0
abbrev pub length_of : ℕ → ℕ
length_of k = month_length (first_year + k / 12) (k % 12 + 1)

-- the first day of month k, counted from 2000-01-01 as day 0: the months before it have so many days
abbrev pub month_start : ℕ → ℕ
month_start k = sum length_of k

-- "a constant table of 600 day numbers, one for each month": the rule at every entry
abbrev pub MonthStarts : List ℕ → Type 0
MonthStarts t = Tabulated month_start months months t
