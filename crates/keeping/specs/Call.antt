-- What the call answers and leaves in the list that it is lent, refused or not.
use Rattle.std.specs.Prelude.{ℕ, ◌*◌, ◌%◌, min, max, Bool, not, ◌&&◌, ◌||◌, List, [], ◌∷◌, eqb, leb, ltb, length, get_or, Err, Ok}
use Rattle.bounded.specs.Below.{all_below, some_below}
use Rattle.bounded.specs.Count.{one, count}
use Rattle.bounded.specs.Table.{table}
use Rattle.octets.specs.Octets.{splice}
use Rattle.calendar.specs.Date.{date_of, is_date, day_number}
use Rattle.answers.specs.declared.Refusal.TheVariants.{BadBuffer, NoDate, BadTerms, AfterAsked}
use Rattle.answers.specs.Order.{Row, row, first_by}
use Rattle.answers.specs.Told.{Answer, Told, told}
use Rattle.keeping.specs.Keeping.{copy_count, day_of, term_count, first_day, last_day, keeps}

-- "A case keeps up to 256 finished images"
abbrev pub most_copies : ℕ
most_copies = 256

-- "The school enters up to twelve terms"
abbrev pub most_terms : ℕ
most_terms = 12

-- "Longer lists of images or terms get 1", by their lengths. So do terms of which one has no last day,
-- and a list for the answers that is too short
abbrev pub wrong_lengths : ℕ → ℕ → ℕ → Bool
wrong_lengths copies terms out =
    ltb most_copies copies || (ltb (2 * most_terms) terms || (not (eqb (terms % 2) 0) || ltb out copies))

-- "23 when a date doesn't exist or lies outside the years": a copy's, a term's, or the day asked
unfoldable pub all_dates : List ℕ → Bool
all_dates l = all_below (λ i. is_date (date_of (get_or l i 0))) (length l)

abbrev pub wrong_date : List ℕ → List ℕ → ℕ → Bool
wrong_date copies terms asked = not (all_dates copies && (all_dates terms && is_date (date_of asked)))

-- the days of dates, in list order
abbrev pub day_at : List ℕ → ℕ → ℕ
day_at l i = day_number (date_of (get_or l i 0))

unfoldable pub in_days : List ℕ → List ℕ
in_days l = table (day_at l) (length l)

-- "24 when terms overlap, run backwards or are out of order"
module _ (ts : List ℕ) where
  -- some day lies in both
  abbrev pub overlap : ℕ → ℕ → Bool
  overlap s t = leb (max (first_day ts s) (first_day ts t)) (min (last_day ts s) (last_day ts t))

  abbrev pub backwards : ℕ → Bool
  backwards t = ltb (last_day ts t) (first_day ts t)

  -- of s, which stands before t in the list
  abbrev pub out_of_order : ℕ → ℕ → Bool
  out_of_order s t = ltb (first_day ts t) (first_day ts s)

  unfoldable pub wrong_terms : Bool
  wrong_terms = some_below (λ t. backwards t || some_below (λ s. overlap s t || out_of_order s t) t) (term_count ts)

-- "25 when a copy is dated after the day asked"
unfoldable pub after_asked : List ℕ → ℕ → Bool
after_asked cs today = some_below (λ i. ltb today (day_of cs i)) (copy_count cs)

-- the lists of dates that a call is handed, the day asked, and the list lent for the answers
module _ (copies terms : List ℕ) (asked : ℕ) (out : List ℕ) where
  -- "in that order", after 1
  abbrev pub keep_table : List Row
  keep_table =
      row (wrong_lengths (length copies) (length terms) (length out)) BadBuffer
      ∷ row (wrong_date copies terms asked) NoDate
      ∷ row (wrong_terms (in_days terms)) BadTerms
      ∷ row (after_asked (in_days copies) (day_number (date_of asked))) AfterAsked
      ∷ []

-- "Answer keep or go for each, in list order": 1 for each copy that is kept, else 0
unfoldable pub flags : List ℕ → List ℕ → ℕ → List ℕ
flags cs ts today = table (λ i. one (keeps cs ts today i)) (copy_count cs)

abbrev pub kept_count : List ℕ → List ℕ → ℕ → ℕ
kept_count cs ts today = count (keeps cs ts today) (copy_count cs)

-- the answer, and the list after the call
pub record Left : Type 0 where
  pub answer : Told
  pub out : List ℕ

abbrev pub left : Answer → List ℕ → Left
left a o = record { answer = told a; out = o }

-- the answer is how many copies are kept; the flags stand at the front of the list lent for them, whose
-- rest stays
unfoldable pub keep_call : List ℕ → List ℕ → ℕ → List ℕ → Left
keep_call copies terms asked out =
    let today = day_number (date_of asked) in
    first_by (λ e. left (Err e) out) (keep_table copies terms asked out)
    (left (Ok (kept_count (in_days copies) (in_days terms) today)) (splice out 0 (flags (in_days copies) (in_days terms) today)))
