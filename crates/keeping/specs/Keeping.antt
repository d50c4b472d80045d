-- Which copies to keep. Days are day numbers; cs are the days of the copies, which are counted from 0
-- in list order; ts are the days of the terms: first, last, first, last, ..
use Rattle.std.specs.Prelude.{ℕ, ◌+◌, ◌*◌, ◌/◌, Bool, not, ◌&&◌, ◌||◌, List, eqb, leb, ltb, length, get_or}
use Rattle.bounded.specs.Below.{some_below}
use Rattle.calendar.specs.Date.{within, week}

module _ (cs : List ℕ) where
  abbrev pub copy_count : ℕ
  copy_count = length cs

  abbrev pub day_of : ℕ → ℕ
  day_of i = get_or cs i 0

  -- "Of several on one date only the last in the list is looked at"
  abbrev pub looked_at : ℕ → Bool
  looked_at i = not (some_below (λ j. ltb i j && eqb (day_of j) (day_of i)) copy_count)

-- "The school enters .. terms by first and last day"
module _ (ts : List ℕ) where
  abbrev pub term_count : ℕ
  term_count = length ts / 2

  abbrev pub first_day : ℕ → ℕ
  first_day t = get_or ts (2 * t) 0

  abbrev pub last_day : ℕ → ℕ
  last_day t = get_or ts (2 * t + 1) 0

-- "aged 0 to 13 days"
abbrev pub young_days : ℕ
young_days = 13

-- "56 days after the term's last day"
abbrev pub term_days : ℕ
term_days = 56

module _ (cs ts : List ℕ) where
  -- copy i "lies in a term", term t; "both included"
  abbrev pub lies_in : ℕ → ℕ → Bool
  lies_in i t = within (first_day ts t) (day_of cs i) (last_day ts t)

  -- copy j is looked at, lies in term t, and is later than copy i
  abbrev pub later_in : ℕ → ℕ → ℕ → Bool
  later_in t i j = looked_at cs j && (lies_in j t && ltb (day_of cs i) (day_of cs j))

  -- "the last of its Monday-to-Sunday week within that term"
  unfoldable pub last_of_week : ℕ → ℕ → Bool
  last_of_week t i = not (some_below (λ j. later_in t i j && eqb (week (day_of cs j)) (week (day_of cs i))) (copy_count cs))

  -- "the last copy of a term"
  unfoldable pub last_of_term : ℕ → ℕ → Bool
  last_of_term t i = not (some_below (later_in t i) (copy_count cs))

  -- on the day asked
  module _ (today : ℕ) where
    -- "A copy aged 0 to 13 days on the day asked is kept"
    abbrev pub young : ℕ → Bool
    young i = leb today (day_of cs i + young_days)

    -- "until 56 days after the term's last day, that day included"
    abbrev pub in_time : ℕ → Bool
    in_time t = leb today (last_day ts t + term_days)

    -- "An older one that lies in a term is kept until .., if it is the last of its .. week within that
    -- term; the last copy of a term is always kept"
    abbrev pub term_keeps : ℕ → ℕ → Bool
    term_keeps i t = lies_in i t && ((last_of_week t i && in_time t) || last_of_term t i)

    -- "Other copies go": copy i is kept
    unfoldable pub keeps : ℕ → Bool
    keeps i = looked_at cs i && (young i || some_below (term_keeps i) (term_count ts))
