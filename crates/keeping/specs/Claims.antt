-- What a school may rely on. Of the code this knows the contract of `keep`, and nothing else.
use Rattle.std.specs.Prelude.{ℕ, suc, ◌+◌, ◌≤◌, ◌<◌, ◌≡◌, Bool, true, false, List, [], ◌∷◌, length, get_or, Err, Ok}
use Rattle.bounded.specs.Reflect.{Reflects}
use Rattle.bounded.specs.Search.{pick}
use Rattle.bounded.specs.Count.{one}
use Rattle.calendar.specs.Date.{date_of, is_date, day_number, week}
use Rattle.answers.specs.declared.Refusal.TheVariants.{BadBuffer, NoDate, BadTerms, AfterAsked}
use Rattle.answers.specs.Order.{is_in_order}
use Rattle.answers.specs.Told.{Answer, Told, told}
use Rattle.keeping.specs.Keeping.{copy_count, day_of, term_count, first_day, last_day, young_days, term_days, keeps}
use Rattle.keeping.specs.Call.{wrong_lengths, all_dates, in_days, wrong_terms, kept_count, left, keep_table, keep_call}

-- ---- terms
-- day d lies in term t
abbrev pub DayIn : List ℕ → ℕ → ℕ → Type 0
DayIn ts d t = (first_day ts t ≤ d) × (d ≤ last_day ts t)

-- "terms overlap, run backwards or are out of order", of any two: they share a day; one ends before it
-- begins; or one begins before another that stands before it in the list
pub data TermsWrong (ts : List ℕ) : Type 0 where
  overlap : (s t d : ℕ) → s < t → t < term_count ts → DayIn ts d s → DayIn ts d t → TermsWrong ts
  backwards : (t : ℕ) → t < term_count ts → last_day ts t < first_day ts t → TermsWrong ts
  out_of_order : (s t : ℕ) → s < t → t < term_count ts → first_day ts t < first_day ts s → TermsWrong ts

pub record Terms : Type 0 where
  -- 24 comes exactly then
  pub wrong : (ts : List ℕ) → Reflects (wrong_terms ts) (TermsWrong ts)
  -- otherwise a day lies in at most one term
  pub one : (ts : List ℕ) → wrong_terms ts ≡ false → (d s t : ℕ) → s < term_count ts → t < term_count ts → DayIn ts d s → DayIn ts d t → s ≡ t

-- ---- what stays and what goes, of copies cs in terms ts on the day asked
module _ (cs ts : List ℕ) (today : ℕ) where
  abbrev pub Kept : ℕ → Type 0
  Kept i = (i < copy_count cs) × (keeps cs ts today i ≡ true)

  abbrev pub Old : ℕ → Type 0
  Old i = day_of cs i + young_days < today

  -- copy k is kept and lies in term t, no copy of the term is later, and no other of it is kept
  pub record Sole (t k : ℕ) : Type 0 where
    pub kept : Kept k
    pub inside : DayIn ts (day_of cs k) t
    pub last : (j : ℕ) → j < copy_count cs → DayIn ts (day_of cs j) t → day_of cs j ≤ day_of cs k
    pub alone : (j : ℕ) → Kept j → DayIn ts (day_of cs j) t → j ≡ k

  pub record Stays : Type 0 where
    -- on one date at most one copy is kept, and every young date keeps one
    pub one_a_date : (i j : ℕ) → Kept i → Kept j → day_of cs i ≡ day_of cs j → i ≡ j
    pub young_date : (i : ℕ) → i < copy_count cs → today ≤ day_of cs i + young_days → (k : ℕ) × Kept k × (day_of cs k ≡ day_of cs i)
    -- of the older ones no two that are kept lie in one week of one term
    pub one_a_week : wrong_terms ts ≡ false → (i j t : ℕ) → Kept i → Kept j → Old i → Old j → t < term_count ts
        → DayIn ts (day_of cs i) t → DayIn ts (day_of cs j) t → week (day_of cs i) ≡ week (day_of cs j) → i ≡ j
    -- more than 56 days after a term's last day just one of its copies is kept, its last
    pub one_a_term : wrong_terms ts ≡ false → (i t : ℕ) → i < copy_count cs → t < term_count ts → DayIn ts (day_of cs i) t
        → last_day ts t + term_days < today → (k : ℕ) × Sole t k

-- the numbers of a list at the places that pass p, in order
unfoldable pub chosen : (ℕ → Bool) → List ℕ → List ℕ
chosen p [] = []
chosen p (x ∷ xs) = pick (p 0) (x ∷ chosen (λ k. p (suc k)) xs) (chosen (λ k. p (suc k)) xs)

-- the copies that are kept
abbrev pub remaining : List ℕ → List ℕ → ℕ → List ℕ
remaining cs ts today = chosen (keeps cs ts today) cs

-- ---- from day to day
module _ (cs ts : List ℕ) where
  pub record Later : Type 0 where
    -- a term that has a copy keeps one for ever
    pub for_ever : (i t : ℕ) → i < copy_count cs → t < term_count ts → DayIn ts (day_of cs i) t
        → (k : ℕ) × DayIn ts (day_of cs k) t × ((today : ℕ) → Kept cs ts today k)
    -- what goes on a day goes on every later day
    pub stays_gone : (d e i : ℕ) → d ≤ e → keeps cs ts d i ≡ false → keeps cs ts e i ≡ false
    -- asking again with what was kept keeps all of it
    pub kept_again : (d i : ℕ) → i < copy_count (remaining cs ts d) → keeps (remaining cs ts d) ts d i ≡ true
    -- and deleting what goes on day d leaves, on every later day, what would be left without that
    pub deleted_before : (d e : ℕ) → d ≤ e → remaining (remaining cs ts d) ts e ≡ remaining cs ts e

-- ---- the call, which left v in the list out
module _ (copies terms : List ℕ) (asked : ℕ) (out v : List ℕ) where
  abbrev lengths_wrong : Bool
  lengths_wrong = wrong_lengths (length copies) (length terms) (length out)

  abbrev pub AllDates : Type 0
  AllDates = (all_dates copies ≡ true) × (all_dates terms ≡ true) × (is_date (date_of asked) ≡ true)

  -- answered: "keep or go for each, in list order", and nothing else was written
  pub record Answered : Type 0 where
    pub lengths : lengths_wrong ≡ false
    pub dates : AllDates
    pub terms_right : TermsWrong (in_days terms) → ⊥
    pub none_after : (i : ℕ) → i < length copies → day_of (in_days copies) i ≤ day_number (date_of asked)
    pub flag : (i : ℕ) → i < length copies → get_or v i 0 ≡ one (keeps (in_days copies) (in_days terms) (day_number (date_of asked)) i)
    pub rest : (i : ℕ) → length copies ≤ i → get_or v i 0 ≡ get_or out i 0
    pub long : length v ≡ length out

  -- or refused for the first of four reasons; then nothing was written
  pub data Delivered : Told → Type 0 where
    answered : Answered → Delivered (told (Ok (kept_count (in_days copies) (in_days terms) (day_number (date_of asked)))))
    bad_lengths : lengths_wrong ≡ true → v ≡ out → Delivered (told (Err BadBuffer))
    no_date : lengths_wrong ≡ false → (AllDates → ⊥) → v ≡ out → Delivered (told (Err NoDate))
    bad_terms : lengths_wrong ≡ false → AllDates → TermsWrong (in_days terms) → v ≡ out → Delivered (told (Err BadTerms))
    after_asked_lem : lengths_wrong ≡ false → AllDates → (TermsWrong (in_days terms) → ⊥)
        → (i : ℕ) → i < length copies → day_number (date_of asked) < day_of (in_days copies) i → v ≡ out → Delivered (told (Err AfterAsked))

pub record Claims : Type 0 where
  pub terms : Terms
  pub stays : (cs ts : List ℕ) (today : ℕ) → Stays cs ts today
  pub later : (cs ts : List ℕ) → Later cs ts
  pub delivered : (copies terms : List ℕ) (asked : ℕ) (out v : List ℕ) (a : Answer) → left a v ≡ keep_call copies terms asked out
      → Delivered copies terms asked out v (told a)
  -- 1, then 23, 24, 25: "in that order"
  pub in_order : (copies terms : List ℕ) (asked : ℕ) (out : List ℕ) → is_in_order 0 (keep_table copies terms asked out) ≡ true
