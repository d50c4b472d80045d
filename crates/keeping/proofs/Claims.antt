-- The claims, from the definition of the call; and so of the code, by its contract.
use Prim.Native.Nat.{ℕ, ◌≤◌, ◌<◌}
use mathlib.Core.Path.{◌≡◌, refl, sym, subst, ◌∙◌}
use mathlib.Core.Logic.{⊎_elim}
use mathlib.Core.Bool.{Bool, true, false, ◌&&◌}
use mathlib.Core.List.{List}
use native.Mathlib.Omega.{arith}
use borrow.Author.Tests.{ltb-true, ltb-false}
use contract.Lifetimes.{Lfts}
use denote.Triple.Clauses.{AtExit}
use borrow.Fn.Kinds.{Dens, res_t, ended_of}
use lib.Dec.{ltb}
use lib.ListN.{length, get_or}
use Rattle.bounded.specs.Count.{one}
use Rattle.bounded.proofs.BelowLaws.{some_at, some_none}
use Rattle.bounded.proofs.BoolLaws.{clash, holds_or_fails, and-true, and_left, and_right}
use Rattle.bounded.proofs.ReflectLaws.{r_no}
use Rattle.octets.specs.Octets.{splice}
use Rattle.octets.proofs.PartLaws.{length_splice}
use Rattle.calendar.specs.Date.{date_of, is_date, day_number}
use Rattle.answers.specs.Told.{told}
use Rattle.keeping.specs.Keeping.{copy_count, day_of, keeps}
use Rattle.keeping.specs.Call.{wrong_lengths, all_dates, in_days, wrong_terms, after_asked, kept_count, flags, Left, keep_call}
use Rattle.keeping.specs.Days.{days_call}
use Rattle.keeping.specs.Claims.{Delivered, answered, bad_lengths, no_date, bad_terms, after_asked_lem, Claims}
use Rattle.keeping.proofs.keep.Kinds as keep-kinds
use Rattle.keeping.proofs.keep.Reads as keep-reads
use Rattle.keeping.proofs.LoopLaws.{front_at, front_rest}
use Rattle.keeping.proofs.TermLaws.{one_term, terms_wrong}
use Rattle.keeping.proofs.SchoolLaws.{stays}
use Rattle.keeping.proofs.LaterLaws.{later}
use Rattle.keeping.proofs.CallLaws.{terms_refused, asked_refused, decided, lengths_refused, dates_refused, accepted, lengths, days_long}

module _ (copies terms : List ℕ) (asked : ℕ) (out : List ℕ) where
  abbrev cs : List ℕ
  cs = in_days copies

  abbrev ts : List ℕ
  ts = in_days terms

  abbrev today : ℕ
  today = day_number (date_of asked)

  abbrev call : Left
  call = keep_call copies terms asked out

  abbrev DeliveredBy : Left → Type 0
  DeliveredBy l = Delivered copies terms asked out l.out l.answer

  abbrev date_test : Bool
  date_test = all_dates copies && (all_dates terms && is_date (date_of asked))

  dates_say : date_test ≡ true → (all_dates copies ≡ true) × (all_dates terms ≡ true) × (is_date (date_of asked) ≡ true)
  dates_say e =
      let r = and_right (all_dates copies) _ e in
      (and_left (all_dates copies) _ e, and_left (all_dates terms) _ r, and_right (all_dates terms) _ r)

  dates_fail : date_test ≡ false → (all_dates copies ≡ true) × (all_dates terms ≡ true) × (is_date (date_of asked) ≡ true) → ⊥
  dates_fail e h = clash date_test (and-true (all_dates copies) _ h.0 (and-true (all_dates terms) _ h.1 h.2)) e

  none_after : after_asked cs today ≡ false → (i : ℕ) → i < length copies → day_of cs i ≤ today
  unfolding after_asked
  none_after h i l = let e = days_long copies in ltb-false today (day_of cs i) (some_none (λ j. ltb today (day_of cs j)) (copy_count cs) h i (omega arith))

  some_after : after_asked cs today ≡ true → (i : ℕ) × (i < length copies) × (today < day_of cs i)
  unfolding after_asked
  some_after f =
      let w = some_at (λ j. ltb today (day_of cs j)) (copy_count cs) f in
      let e = days_long copies in
      let l = w.1 in
      (w.0, omega arith, ltb-true today (day_of cs w.0) w.2)

  flagged : wrong_lengths (length copies) (length terms) (length out) ≡ false → (i : ℕ) → i < length copies → get_or (splice out 0 (flags cs ts today)) i 0 ≡ one (keeps cs ts today i)
  unfolding flags
  flagged h i l =
      let e = days_long copies in
      let r = (lengths copies terms asked out h).2 in
      front_at (λ j. one (keeps cs ts today j)) (copy_count cs) out i (omega arith) (omega arith)

  unflagged : (i : ℕ) → length copies ≤ i → get_or (splice out 0 (flags cs ts today)) i 0 ≡ get_or out i 0
  unfolding flags
  unflagged i l = let e = days_long copies in front_rest (λ j. one (keeps cs ts today j)) out (copy_count cs) i (omega arith)

  -- from 24 on
  module _ (h : wrong_lengths (length copies) (length terms) (length out) ≡ false) (k : date_test ≡ true) where
    by_days : {l : Left} → l ≡ days_call cs ts today out → DeliveredBy l → DeliveredBy call
    by_days e d = let r = dates_say k in subst DeliveredBy (e ∙ accepted copies terms asked out h r.0 r.1 r.2) d

    delivers_days : DeliveredBy call
    delivers_days =
        ⊎_elim
        (λ (g : wrong_terms ts ≡ true). by_days (terms_refused cs ts today out g) (bad_terms h (dates_say k) ((terms_wrong ts).to g) refl))
        (λ (g : wrong_terms ts ≡ false).
        let right = r_no (terms_wrong ts) g in
        ⊎_elim
        (λ (f : after_asked cs today ≡ true).
        let w = some_after f in
        by_days (asked_refused cs ts today out g f) (after_asked_lem h (dates_say k) right w.0 w.1 w.2 refl))
        (λ (f : after_asked cs today ≡ false).
        by_days (decided cs ts today out g f (kept_count cs ts today) (splice out 0 (flags cs ts today)) refl refl)
        (answered record {
          lengths = h;
          dates = dates_say k;
          terms_right = right;
          none_after = none_after f;
          flag = flagged h;
          rest = unflagged;
          long = length_splice out 0 (flags cs ts today);
        }))
        (holds_or_fails (after_asked cs today)))
        (holds_or_fails (wrong_terms ts))

  -- whatever the lists
  pub delivers : DeliveredBy call
  delivers =
      ⊎_elim
      (λ (h : wrong_lengths (length copies) (length terms) (length out) ≡ true). subst DeliveredBy (lengths_refused copies terms asked out h) (bad_lengths h refl))
      (λ (h : wrong_lengths (length copies) (length terms) (length out) ≡ false).
      ⊎_elim (λ (k : date_test ≡ true). delivers_days h k)
      (λ (k : date_test ≡ false). subst DeliveredBy (dates_refused copies terms asked out h k) (no_date h (dates_fail k) refl))
      (holds_or_fails date_test))
      (holds_or_fails (wrong_lengths (length copies) (length terms) (length out)))

pub claims : Claims
claims = record {
  terms = record { wrong = terms_wrong; one = one_term };
  stays = stays;
  later = later;
  delivered = λ copies terms asked out v a e. subst (λ (l : Left). Delivered copies terms asked out l.out l.answer) (sym e) (delivers copies terms asked out);
  in_order = λ copies terms asked out. refl;
}

-- ---- and so of the code: what a caller learns of `keep` by its contract, whatever the arguments a; z is
-- its answer, e the parameters at exit
pub keep_delivers : (κs : Lfts 3) (a : Dens κs keep-kinds.ps) (z : (res_t keep-kinds.r κs).Denot) (e : AtExit (ended_of 3 keep-kinds.ps keep-kinds.r) κs)
    → keep-reads.Learnt κs a z e
    → Delivered a.0.now a.1.0.now a.1.1.0 a.1.1.1.0.now e.1.1.1.0.now (told z)
keep_delivers κs a z e h = claims.delivered _ _ _ _ _ z h
