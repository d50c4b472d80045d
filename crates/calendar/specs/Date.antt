-- A date, whether it exists, its day number, and its week.
use Rattle.std.specs.Prelude.{ℕ, ◌+◌, ◌-◌, ◌*◌, ◌/◌, ◌%◌, Bool, ◌&&◌, leb, None, Option, Some}
use Rattle.bounded.specs.Search.{pick}
use Rattle.calendar.specs.Gregorian.{first_year, last_year, month_length, month_start}

pub record Date : Type 0 where
  pub year : ℕ
  pub month : ℕ
  pub day : ℕ

-- a date as one number: 2024-02-29 is 20240229
abbrev pub date_of : ℕ → Date
date_of n = record { year = n / 10000; month = n / 100 % 100; day = n % 100 }

abbrev pub within : ℕ → ℕ → ℕ → Bool
within a x b = leb a x && leb x b

-- the opposite of 23's "a date doesn't exist or lies outside the years"
abbrev pub is_date : Date → Bool
is_date d =
    within first_year d.year last_year
    && (within 1 d.month 12 && within 1 d.day (month_length d.year d.month))

-- its month, counted from January 2000
abbrev pub month_of : Date → ℕ
month_of d = (d.year - first_year) * 12 + (d.month - 1)

abbrev pub day_number : Date → ℕ
day_number d = month_start (month_of d) + (d.day - 1)

-- 2049-12-31
abbrev pub last_day : ℕ
last_day = 18262

-- what is found of a number that stands for a date
unfoldable pub reckoned : ℕ → Option ℕ
reckoned n = pick (is_date (date_of n)) (Some (day_number (date_of n))) None

-- "Monday-to-Sunday week": 2000-01-01 was a Saturday, so weeks begin on days 2, 9, 16, ..
abbrev pub week : ℕ → ℕ
week d = (d + 5) / 7

-- the Sunday of a day's week
abbrev pub sunday : ℕ → ℕ
sunday d = week d * 7 + 1
