-- What the call answers and leaves, by what was found before.
use Rattle.std.specs.Prelude.{Err, None, Ok, Some}
use Prim.Native.Nat.{ℕ, ◌*◌, ◌%◌, ◌≤◌, ◌<◌}
use mathlib.Core.Path.{◌≡◌, refl, sym, ap, subst, ◌∙◌}
use mathlib.Core.Bool.{Bool, true, false, not, ◌&&◌}
use mathlib.Core.List.{List}
use native.Mathlib.Omega.{arith}
use borrow.Author.Tests.{ltb-false}
use lib.Dec.{ltb, eqb}
use lib.ListN.{length, get_or, take}
use lib.Seq.{ext_get_or, get_or-take, length-take-le}
use Rattle.bounded.specs.Search.{pick}
use Rattle.bounded.specs.Table.{table, Tabulated}
use Rattle.bounded.proofs.BelowLaws.{all_at}
use Rattle.bounded.proofs.BoolLaws.{and_left, and_right, or_false_l, or_false_r}
use Rattle.bounded.proofs.TableLaws.{length_table, get_or_table}
use Rattle.octets.specs.Octets.{splice}
use Rattle.std.specs.Prelude.{None, Some, Option}
use Rattle.calendar.specs.Date as date
use Rattle.calendar.specs.Date.{date_of, is_date, day_number, reckoned}
use Rattle.calendar.proofs.DayLaws.{days_end}
use Rattle.answers.specs.declared.Refusal.TheVariants.{BadBuffer, NoDate, BadTerms, AfterAsked}
use Rattle.keeping.specs.Call.{most_copies, most_terms, wrong_lengths, all_dates, day_at, in_days, wrong_terms, after_asked, kept_count, flags, left, keep_call}
use Rattle.keeping.specs.Days.{InYears, Ready, AllRead, asked_day, days_call}
use Rattle.answers.specs.Told.{Answer}

-- ---- from 24 on
module _ (cs ts : List ℕ) (today : ℕ) (out : List ℕ) where
  pub terms_refused : wrong_terms ts ≡ true → left (Err BadTerms) out ≡ days_call cs ts today out
  unfolding days_call
  terms_refused h = rw h

  pub asked_refused : wrong_terms ts ≡ false → after_asked cs today ≡ true → left (Err AfterAsked) out ≡ days_call cs ts today out
  unfolding days_call
  asked_refused h k = rw (h, k)

  pub decided : wrong_terms ts ≡ false → after_asked cs today ≡ false → (n : ℕ) (v : List ℕ) → n ≡ kept_count cs ts today → v ≡ splice out 0 (flags cs ts today)
      → left (Ok n) v ≡ days_call cs ts today out
  unfolding days_call
  decided h k n v e f = rw (h, k, e, f)

-- ---- the whole
module _ (copies terms : List ℕ) (asked : ℕ) (out : List ℕ) where
  abbrev wrong : Bool
  wrong = wrong_lengths (length copies) (length terms) (length out)

  pub lengths_refused : wrong ≡ true → left (Err BadBuffer) out ≡ keep_call copies terms asked out
  unfolding keep_call
  lengths_refused h = rw h

  pub dates_refused : wrong ≡ false → all_dates copies && (all_dates terms && is_date (date_of asked)) ≡ false → left (Err NoDate) out ≡ keep_call copies terms asked out
  unfolding keep_call
  dates_refused h k = rw (h, k)

  pub accepted : wrong ≡ false → all_dates copies ≡ true → all_dates terms ≡ true → is_date (date_of asked) ≡ true
      → days_call (in_days copies) (in_days terms) (day_number (date_of asked)) out ≡ keep_call copies terms asked out
  unfolding keep_call days_call
  accepted h a b d = rw (h, a, b, d)

  -- as the code has it: cs, ts and today are what it read
  pub answered : (a : Answer) (v cs ts : List ℕ) (today : ℕ) → wrong ≡ false → all_dates copies ≡ true → all_dates terms ≡ true → is_date (date_of asked) ≡ true
      → cs ≡ in_days copies → ts ≡ in_days terms → today ≡ day_number (date_of asked) → left a v ≡ days_call cs ts today out → left a v ≡ keep_call copies terms asked out
  answered a v cs ts today h i j k e f g r =
      r ∙ ap (λ (l : List ℕ). days_call l ts today out) e ∙ ap (λ (l : List ℕ). days_call (in_days copies) l today out) f
      ∙ ap (λ (n : ℕ). days_call (in_days copies) (in_days terms) n out) g ∙ accepted h i j k

  -- what the lengths are then
  pub lengths : wrong ≡ false → (length copies ≤ most_copies) × (length terms ≤ 2 * most_terms) × (length copies ≤ length out)
  lengths h =
      let a = or_false_l (ltb most_copies (length copies)) _ h in
      let r = or_false_r (ltb most_copies (length copies)) _ h in
      let b = or_false_l (ltb (2 * most_terms) (length terms)) _ r in
      let s = or_false_r (ltb (2 * most_terms) (length terms)) _ r in
      let d = or_false_r (not (eqb (length terms % 2) 0)) _ s in
      (ltb-false _ _ a, ltb-false _ _ b, ltb-false _ _ d)

-- ---- all dates, as they are read
module _ (copies terms : List ℕ) (asked : ℕ) where
  pub no_copies : all_dates copies ≡ false → None ≡ asked_day copies terms asked
  unfolding asked_day
  no_copies h = rw h

  pub no_terms : all_dates copies ≡ true → all_dates terms ≡ false → None ≡ asked_day copies terms asked
  unfolding asked_day
  no_terms h k = rw (h, k)

  pub lists_read : all_dates copies ≡ true → all_dates terms ≡ true → reckoned asked ≡ asked_day copies terms asked
  unfolding asked_day reckoned
  lists_read h k = rw (h, k) (go (is_date (date_of asked)))
    where
      go : (b : Bool) → pick b (Some (day_number (date_of asked))) None ≡ pick (not b) None (Some (day_number (date_of asked)))
      go true = refl
      go false = refl

  -- what an answer says
  pub asked_none : asked_day copies terms asked ≡ None → all_dates copies && (all_dates terms && is_date (date_of asked)) ≡ false
  unfolding asked_day
  asked_none e = go (all_dates copies && (all_dates terms && is_date (date_of asked))) e
    where
      go : (b : Bool) → pick (not b) None (Some (day_number (date_of asked))) ≡ None → b ≡ false
      go true r = let z : ◌≡◌ {A = ℕ} 0 1 = cc in absurd (omega arith)
      go false r = refl

  pub asked_day_lem : (d : ℕ) → asked_day copies terms asked ≡ Some d → (all_dates copies ≡ true) × (all_dates terms ≡ true) × (is_date (date_of asked) ≡ true) × (d ≡ day_number (date_of asked))
  unfolding asked_day
  asked_day_lem d e =
      let h = go (all_dates copies && (all_dates terms && is_date (date_of asked))) e in
      let r = and_right (all_dates copies) _ h.0 in
      (and_left (all_dates copies) _ h.0, and_left (all_dates terms) _ r, and_right (all_dates terms) _ r, h.1)
    where
      go : (b : Bool) → pick (not b) None (Some (day_number (date_of asked))) ≡ Some d → (b ≡ true) × (d ≡ day_number (date_of asked))
      go true r = (refl, cc)
      go false r = let z : ◌≡◌ {A = ℕ} 0 1 = cc in absurd (omega arith)

-- ---- the days that were read
-- the front of the list that they went to
pub front_days : (dates : List ℕ) (n : ℕ) (l : List ℕ) → length dates ≤ n → Tabulated (day_at dates) n (length dates) l → take (length dates) l ≡ in_days dates
unfolding in_days
front_days dates n l h t =
    let e = t.long in
    let k = length-take-le (length dates) l (omega arith) in
    ext_get_or 0 (take (length dates) l) (table (day_at dates) (length dates)) (k ∙ sym (length_table (day_at dates) (length dates)))
    (λ i b. let c : i < length dates = omega arith in get_or-take (length dates) l i 0 c ∙ t.each i c ∙ sym (get_or_table (day_at dates) (length dates) i c))

pub days_long : (dates : List ℕ) → length (in_days dates) ≡ length dates
unfolding in_days
days_long dates = length_table (day_at dates) (length dates)

-- they lie in the years
pub in_years : (dates : List ℕ) → all_dates dates ≡ true → InYears (in_days dates)
unfolding in_days all_dates
in_years dates a i h =
    let c : i < length dates = (let e = length_table (day_at dates) (length dates) in omega arith) in
    subst (λ (d : ℕ). d ≤ date.last_day) (sym (get_or_table (day_at dates) (length dates) i c))
    (days_end (get_or dates i 0) (all_at (λ j. is_date (date_of (get_or dates j 0))) (length dates) a i c))

pub ready : (copies terms out cs ts : List ℕ) → all_dates copies ≡ true → all_dates terms ≡ true → cs ≡ in_days copies → ts ≡ in_days terms
    → length terms ≤ 2 * most_terms → length copies ≤ length out → Ready cs ts out
ready copies terms out cs ts a b e f h k =
    let p = ap length e ∙ days_long copies in
    let q = ap length f ∙ days_long terms in
    record {
      copies_fit = subst InYears (sym e) (in_years copies a);
      terms_fit = subst InYears (sym f) (in_years terms b);
      few_terms = omega arith;
      room = omega arith;
    }

-- ---- what the code knows once the lengths are right and all dates are read: day is the day asked, cs and ts hold the lists' days at their fronts
pub record Read (copies terms : List ℕ) (asked : ℕ) (out cs ts : List ℕ) (day : ℕ) : Type 0 where
  pub right : wrong_lengths (length copies) (length terms) (length out) ≡ false
  pub copies_dated : all_dates copies ≡ true
  pub terms_dated : all_dates terms ≡ true
  pub asked_dated : is_date (date_of asked) ≡ true
  pub day_is : day ≡ day_number (date_of asked)
  pub copies_long : length copies ≤ length cs
  pub terms_long : length terms ≤ length ts
  pub copies_are : take (length copies) cs ≡ in_days copies
  pub terms_are : take (length terms) ts ≡ in_days terms
  pub fits : Ready (take (length copies) cs) (take (length terms) ts) out

pub all_read : (copies terms : List ℕ) (asked : ℕ) (out : List ℕ) {before after cs ts : List ℕ} {r : Option ℕ} {day : ℕ} → wrong_lengths (length copies) (length terms) (length out) ≡ false
    → length before ≡ most_copies → length after ≡ 2 * most_terms → AllRead copies terms asked before after cs ts r → r ≡ Some day → Read copies terms asked out cs ts day
all_read copies terms asked out {cs = cs} {ts = ts} {day = day} w p q h e =
    let l = lengths copies terms asked out w in
    let d = asked_day_lem copies terms asked day (sym h.told ∙ e) in
    let t = h.days d.0 d.1 in
    let m = t.0.long ∙ p in
    let n = t.1.long ∙ q in
    let a = front_days copies most_copies cs l.0 (subst (λ (x : ℕ). Tabulated (day_at copies) x (length copies) cs) p t.0) in
    let b = front_days terms (2 * most_terms) ts l.1 (subst (λ (x : ℕ). Tabulated (day_at terms) x (length terms) ts) q t.1) in
    record {
      right = w;
      copies_dated = d.0;
      terms_dated = d.1;
      asked_dated = d.2;
      day_is = d.3;
      copies_long = omega arith;
      terms_long = omega arith;
      copies_are = a;
      terms_are = b;
      fits = ready copies terms out _ _ d.0 d.1 a b l.1 l.2;
    }
