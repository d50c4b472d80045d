-- What the code keeps while it looks at copies: a bit for each day on which a copy is dated, and for
-- each term the last such day up to the term's end.
use Rattle.std.specs.Prelude.{ℕ, ◌+◌, ◌-◌, ◌/◌, ◌%◌, ◌≤◌, ◌<◌, min, ◌≡◌, Bool, true, not, ◌&&◌, ◌||◌, List, [], ◌∷◌, eqb, leb, length, get_or, set, Err, None, Ok, Option, Some}
use Rattle.bounded.specs.Below.{some_below}
use Rattle.bounded.specs.Most.{most}
use Rattle.bounded.specs.Search.{pick}
use Rattle.bounded.specs.Count.{one}
use Rattle.bounded.specs.Table.{table, Tabulated}
use Rattle.octets.specs.Octets.{splice}
use Rattle.answers.specs.declared.Refusal.TheVariants.{BadTerms, AfterAsked}
use Rattle.answers.specs.Order.{row, first_by}
use Rattle.marks.specs.Mark.{marked, with_mark}
use Rattle.calendar.specs.Date.{date_of, day_number, within, sunday}
use Rattle.calendar.specs.Date as date
use Rattle.keeping.specs.Keeping.{copy_count, day_of, looked_at, term_count, first_day, last_day, young_days, term_days}
use Rattle.keeping.specs.Call.{most_terms, all_dates, wrong_date, day_at, wrong_terms, after_asked, flags, kept_count, Left, left}

-- ---- the map: 286 words of 64 bits have a bit for each day
abbrev pub day_words : ℕ
day_words = 286

abbrev pub day_bits : ℕ
day_bits = 18304

unfoldable pub noted : List ℕ → ℕ → Bool
noted l d = marked (get_or l (d / 64) 0) (d % 64)

unfoldable pub noting : List ℕ → ℕ → List ℕ
noting l d = set l (d / 64) (with_mark (get_or l (d / 64) 0) (d % 64))

-- one of the k days after day d is noted
unfoldable pub noted_after : List ℕ → ℕ → ℕ → Bool
noted_after l d k = some_below (λ j. noted l (d + 1 + j)) k

-- a day is noted just where the copies from i on have one
pub record NotedFrom (cs : List ℕ) (i : ℕ) (map : List ℕ) : Type 0 where
  pub long : length map ≡ day_words
  pub each : (d : ℕ) → d < day_bits → noted map d ≡ some_below (λ j. leb i j && eqb (day_of cs j) d) (copy_count cs)

-- ---- what is asked of days
abbrev pub InYears : List ℕ → Type 0
InYears l = (i : ℕ) → i < length l → get_or l i 0 ≤ date.last_day

-- the days of copies and terms fit the map, and out has a byte for each copy
pub record Ready (cs ts out : List ℕ) : Type 0 where
  pub copies_fit : InYears cs
  pub terms_fit : InYears ts
  pub few_terms : term_count ts ≤ most_terms
  pub room : length cs ≤ length out

-- no day is noted yet
pub record Unseen (cs map out : List ℕ) : Type 0 where
  pub copies_fit : InYears cs
  pub none : NotedFrom cs (copy_count cs) map
  pub room : length cs ≤ length out

pub record Askable (ts : List ℕ) (d : ℕ) : Type 0 where
  pub terms_fit : InYears ts
  pub few_terms : term_count ts ≤ most_terms
  pub fits : d ≤ date.last_day

-- what reading a list of dates answers, and where their days go
pub record DaysRead (dates before after : List ℕ) (answer : Bool) : Type 0 where
  pub long : length after ≡ length before
  pub told : answer ≡ all_dates dates
  pub days : answer ≡ true → Tabulated (day_at dates) (length before) (length dates) after

-- the day asked, if every date is one
unfoldable pub asked_day : List ℕ → List ℕ → ℕ → Option ℕ
asked_day copies terms asked = pick (wrong_date copies terms asked) None (Some (day_number (date_of asked)))

-- what reading all dates answers, and where the days of the lists go
pub record AllRead (copies terms : List ℕ) (asked : ℕ) (cs ts cs' ts' : List ℕ) (answer : Option ℕ) : Type 0 where
  pub told : answer ≡ asked_day copies terms asked
  pub days : all_dates copies ≡ true → all_dates terms ≡ true
      → Tabulated (day_at copies) (length cs) (length copies) cs' × Tabulated (day_at terms) (length ts) (length terms) ts'

-- ---- the last day up to b on which a copy is dated, 0 if there is none
abbrev pub up_to : List ℕ → ℕ → ℕ → ℕ
up_to cs b j = pick (leb (day_of cs j) b) (day_of cs j) 0

abbrev pub latest_by : List ℕ → ℕ → ℕ
latest_by cs b = most (up_to cs b) (copy_count cs)

abbrev pub Latest : List ℕ → List ℕ → ℕ → List ℕ → Type 0
Latest cs ts n l = Tabulated (λ t. latest_by cs (last_day ts t)) most_terms n l

-- ---- the rule by the map and the terms' latest days
-- which copies are looked at, as flags
unfoldable pub look_flags : List ℕ → List ℕ
look_flags cs = table (λ i. one (looked_at cs i)) (copy_count cs)

-- for a copy of day d and one term
abbrev pub term_test : List ℕ → ℕ → ℕ → ℕ → ℕ → ℕ → Bool
term_test map first last latest today d =
    within first d last
    && ((not (noted_after map d (min (sunday d) last - d)) && leb today (last + term_days)) || leb latest d)

-- for all terms
abbrev pub day_test : List ℕ → List ℕ → List ℕ → ℕ → ℕ → Bool
day_test map ts latest today d =
    leb today (d + young_days)
    || some_below (λ t. term_test map (first_day ts t) (last_day ts t) (get_or latest t 0) today d) (term_count ts)

unfoldable pub copy_test : ℕ → List ℕ → List ℕ → List ℕ → ℕ → ℕ → Bool
copy_test looked map ts latest today d = eqb looked 1 && day_test map ts latest today d

-- for copy i, where out has the flags of those that are looked at
abbrev pub settled : List ℕ → List ℕ → ℕ → List ℕ → List ℕ → List ℕ → ℕ → Bool
settled cs ts today map latest out i = copy_test (get_or out i 0) map ts latest today (day_of cs i)

abbrev pub settled_flags : List ℕ → List ℕ → ℕ → List ℕ → List ℕ → List ℕ → ℕ → List ℕ
settled_flags cs ts today map latest out n = table (λ i. one (settled cs ts today map latest out i)) n

-- ---- the call from 24 on, by the days of its dates
unfoldable pub days_call : List ℕ → List ℕ → ℕ → List ℕ → Left
days_call cs ts today out =
    first_by (λ e. left (Err e) out) (row (wrong_terms ts) BadTerms ∷ row (after_asked cs today) AfterAsked ∷ [])
    (left (Ok (kept_count cs ts today)) (splice out 0 (flags cs ts today)))
