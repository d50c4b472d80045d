-- From day to day: what goes stays gone, and deleting it changes nothing for the others.
use Prim.Native.Nat.{ℕ, ◌+◌, ◌≤◌, ◌<◌}
use mathlib.Core.Path.{◌≡◌, refl, sym, ap, ap₂, ◌∙◌}
use mathlib.Core.Logic.{◌⊎◌, inl, inr, ⊎_elim}
use mathlib.Core.Bool.{Bool, true, false, not, ◌&&◌, ◌||◌}
use mathlib.Core.List.{List}
use native.Mathlib.Nat.{le_refl}
use native.Mathlib.Omega.{arith}
use borrow.Author.Tests.{le-leb, leb-true, ltb-true, eq-eqb, eqb-true}
use lib.Dec.{eqb, leb, ltb}
use Rattle.bounded.proofs.BelowLaws.{none_some}
use Rattle.bounded.proofs.BoolLaws.{clash, fails, same_test, and-true, and_left, and_right, or_cases, holds_or_fails}
use Rattle.calendar.specs.Date.{within, week}
use Rattle.keeping.specs.Keeping.{copy_count, day_of, term_count, first_day, last_day, young_days, term_days, looked_at, lies_in, later_in, last_of_week, last_of_term, young, in_time, term_keeps, keeps}
use Rattle.keeping.specs.Claims.{DayIn, Kept, remaining, Later}
use Rattle.keeping.proofs.LoopLaws.{some_ext}
use Rattle.keeping.proofs.ChosenLaws.{place, Places, places, chosen_twice}
use Rattle.keeping.proofs.SchoolLaws.{best, one_looked, lies_says, later_in_lem, later_says, term_last, last_in_term, week_last, last_in_week, last_in, keeps_looked, keeps_by, young_kept, last_kept, week_kept}

module _ (cs ts : List ℕ) where
  -- ---- what is kept on a day was kept on every day before
  in_time_before : (d e t : ℕ) → d ≤ e → in_time cs ts e t ≡ true → in_time cs ts d t ≡ true
  in_time_before d e t l h = let k = leb-true e (last_day ts t + term_days) h in le-leb d (last_day ts t + term_days) (omega arith)

  pub kept_before : (d e i : ℕ) → d ≤ e → keeps cs ts e i ≡ true → keeps cs ts d i ≡ true
  kept_before d e i l h =
      let a = keeps_looked cs ts e i h in
      ⊎_elim
      (λ (y : young cs ts e i ≡ true). let k = leb-true e (day_of cs i + young_days) y in young_kept cs ts d i a (omega arith))
      (λ (w : (t : ℕ) × (t < term_count ts) × (term_keeps cs ts e i t ≡ true)).
      let t = w.0 in
      let b = and_left (lies_in cs ts i t) _ w.2 in
      ⊎_elim
      (λ (x : last_of_week cs ts t i && in_time cs ts e t ≡ true).
      week_kept cs ts d i t a w.1 b (and_left (last_of_week cs ts t i) _ x) (in_time_before d e t l (and_right (last_of_week cs ts t i) _ x)))
      (λ (x : last_of_term cs ts t i ≡ true). last_kept cs ts d i t a w.1 b x)
      (or_cases (last_of_week cs ts t i && in_time cs ts e t) (last_of_term cs ts t i) (and_right (lies_in cs ts i t) _ w.2)))
      (keeps_by cs ts e i h)

  stays_gone : (d e i : ℕ) → d ≤ e → keeps cs ts d i ≡ false → keeps cs ts e i ≡ false
  stays_gone d e i l h = fails (keeps cs ts e i) (λ k. clash (keeps cs ts d i) (kept_before d e i l k) h)

  for_ever : (i t : ℕ) → i < copy_count cs → t < term_count ts → DayIn ts (day_of cs i) t → (k : ℕ) × DayIn ts (day_of cs k) t × ((today : ℕ) → Kept cs ts today k)
  for_ever i t l h d =
      let r = last_in cs ts i t l d in
      let x = r.1 in
      (r.0, (lies_says cs ts r.0 t).to x.inside, λ today. (x.below, last_kept cs ts today r.0 t x.looked_at_lem h x.inside x.last))

  -- ---- the last copy of a week in a term
  abbrev in_week : ℕ → ℕ → ℕ → Bool
  in_week t w j = looked_at cs j && (lies_in cs ts j t && eqb (week (day_of cs j)) w)

  pub record LastInWeek (t w i k : ℕ) : Type 0 where
    pub below : k < copy_count cs
    pub looked_at_lem : looked_at cs k ≡ true
    pub inside : lies_in cs ts k t ≡ true
    pub that : week (day_of cs k) ≡ w
    pub last : last_of_week cs ts t k ≡ true
    pub latest : day_of cs i ≤ day_of cs k

  pub week_in : (i t : ℕ) → i < copy_count cs → looked_at cs i ≡ true → lies_in cs ts i t ≡ true → (k : ℕ) × LastInWeek t (week (day_of cs i)) i k
  week_in i t l a b =
      let w = week (day_of cs i) in
      let r = best (in_week t w) (day_of cs) (copy_count cs) i l (and-true (looked_at cs i) _ a (and-true (lies_in cs ts i t) _ b (eq-eqb w w refl))) in
      let k = r.0 in
      let x = r.1.holds in
      let y = and_right (looked_at cs k) _ x in
      let z = eqb-true _ _ (and_right (lies_in cs ts k t) _ y) in (
        k,
        record {
          below = r.1.below;
          looked_at_lem = and_left (looked_at cs k) _ x;
          inside = and_left (lies_in cs ts k t) _ y;
          that = z;
          last = week_last cs ts t k (λ j h e v.
              let s = later_says cs ts t k j e in
              let m = r.1.most j h (and-true (looked_at cs j) _ s.0 (and-true (lies_in cs ts j t) _ s.1 (eq-eqb _ _ (v ∙ z)))) in
              let n = s.2 in
              omega arith);
          latest = r.1.most i l (and-true (looked_at cs i) _ a (and-true (lies_in cs ts i t) _ b (eq-eqb w w refl)));
        },
      )

  -- ---- of what was left on day d, each is kept on a later day e just where it would be without that
  module _ (d e : ℕ) (l : d ≤ e) where
    abbrev sub : List ℕ
    sub = remaining cs ts d

    abbrev at : ℕ → ℕ
    at = place (keeps cs ts d) cs

    s : Places (keeps cs ts d) cs sub at
    s = places (keeps cs ts d) cs

    looked_there : (i : ℕ) → i < copy_count sub → looked_at cs (at i) ≡ true
    looked_there i h = keeps_looked cs ts d (at i) (s.holds i h)

    looked_here : (i : ℕ) → i < copy_count sub → looked_at sub i ≡ true
    looked_here i h =
        ap not (none_some (λ j. ltb i j && eqb (day_of sub j) (day_of sub i)) (copy_count sub) (λ j k. fails _ (λ t.
        let a = ltb-true i j (and_left (ltb i j) _ t) in
        let b = eqb-true (day_of sub j) (day_of sub i) (and_right (ltb i j) _ t) in
        let z = one_looked cs ts (at i) (at j) (s.below i h) (s.below j k) (looked_there i h) (looked_there j k) (sym (s.same i h) ∙ sym b ∙ s.same j k) in
        let w = s.rises i j a k in
        omega arith)))

    same_lies : (i t : ℕ) → i < copy_count sub → lies_in sub ts i t ≡ lies_in cs ts (at i) t
    same_lies i t h = ap (λ (x : ℕ). within (first_day ts t) x (last_day ts t)) (s.same i h)

    -- what is later there is later here, and the other way round for a copy that was kept
    later_there : (t i j : ℕ) → i < copy_count sub → j < copy_count sub → later_in sub ts t i j ≡ true → later_in cs ts t (at i) (at j) ≡ true
    later_there t i j h k x =
        let r = later_says sub ts t i j x in
        let a = s.same i h in
        let b = s.same j k in
        let n = r.2 in
        later_in_lem cs ts t (at i) (at j) (looked_there j k) (sym (same_lies j t k) ∙ r.1) (omega arith)

    later_here : (t i k : ℕ) → i < copy_count sub → Kept cs ts d k → lies_in cs ts k t ≡ true → day_of cs (at i) < day_of cs k
        → (j : ℕ) × (j < copy_count sub) × (later_in sub ts t i j ≡ true) × (day_of sub j ≡ day_of cs k)
    later_here t i k h m b n =
        let r = s.back k m.0 m.1 in
        let j = r.0 in
        let f = s.same j r.1 ∙ ap (day_of cs) r.2 in
        let g = s.same i h in
        (j, r.1, later_in_lem sub ts t i j (looked_here j r.1) (same_lies j t r.1 ∙ ap (λ (x : ℕ). lies_in cs ts x t) r.2 ∙ b) (omega arith), f)

    same_term_last : (t i : ℕ) → t < term_count ts → i < copy_count sub → last_of_term sub ts t i ≡ last_of_term cs ts t (at i)
    same_term_last t i m h =
        same_test _ _
        (λ x. term_last cs ts t (at i) (λ j k y.
        let r = later_says cs ts t (at i) j y in
        let q = last_in cs ts j t k ((lies_says cs ts j t).to r.1) in
        let z = q.1 in
        let n = r.2 in
        let o = z.latest j k ((lies_says cs ts j t).to r.1) in
        let w = later_here t i q.0 h (z.below, last_kept cs ts d q.0 t z.looked_at_lem m z.inside z.last) z.inside (omega arith) in
        last_in_term sub ts t i w.0 x w.1 w.2))
        (λ x. term_last sub ts t i (λ j k y. last_in_term cs ts t (at i) (at j) x (s.below j k) (later_there t i j h k y)))

    same_week_last : (t i : ℕ) → t < term_count ts → i < copy_count sub → in_time cs ts d t ≡ true → last_of_week sub ts t i ≡ last_of_week cs ts t (at i)
    same_week_last t i m h a =
        same_test _ _
        (λ x. week_last cs ts t (at i) (λ j k y v.
        let r = later_says cs ts t (at i) j y in
        let q = week_in j t k r.0 r.1 in
        let z = q.1 in
        let n = r.2 in
        let o = z.latest in
        let w = later_here t i q.0 h (z.below, week_kept cs ts d q.0 t z.looked_at_lem m z.inside z.last a) z.inside (omega arith) in
        last_in_week sub ts t i w.0 x w.1 w.2 (ap week w.3 ∙ z.that ∙ v ∙ ap week (sym (s.same i h)))))
        (λ x. week_last sub ts t i (λ j k y v.
        last_in_week cs ts t (at i) (at j) x (s.below j k) (later_there t i j h k y) (ap week (sym (s.same j k)) ∙ v ∙ ap week (s.same i h))))

    same_term : (t i : ℕ) → t < term_count ts → i < copy_count sub → term_keeps sub ts e i t ≡ term_keeps cs ts e (at i) t
    same_term t i m h =
        ap₂ ◌&&◌ (same_lies i t h) (ap₂ ◌||◌ (in_time_lem (holds_or_fails (in_time cs ts e t))) (same_term_last t i m h))
      where
        in_time_lem : (in_time cs ts e t ≡ true) ⊎ (in_time cs ts e t ≡ false) → last_of_week sub ts t i && in_time cs ts e t ≡ last_of_week cs ts t (at i) && in_time cs ts e t
        in_time_lem (inl y) = ap (λ (x : Bool). x && in_time cs ts e t) (same_week_last t i m h (in_time_before d e t l y))
        in_time_lem (inr y) = ap (λ (x : Bool). last_of_week sub ts t i && x) y ∙ off (last_of_week sub ts t i) (last_of_week cs ts t (at i)) ∙ ap (λ (x : Bool). last_of_week cs ts t (at i) && x) (sym y)
          where
            off : (a b : Bool) → a && false ≡ b && false
            off true true = refl
            off true false = refl
            off false true = refl
            off false false = refl

    pub same_keeps : (i : ℕ) → i < copy_count sub → keeps sub ts e i ≡ keeps cs ts e (at i)
    unfolding keeps
    same_keeps i h =
        ap₂ ◌&&◌ (looked_here i h ∙ sym (looked_there i h))
        (ap₂ ◌||◌ (ap (λ (x : ℕ). leb e (x + young_days)) (s.same i h)) (some_ext _ _ (term_count ts) (λ t m. same_term t i m h)))

    deleted : remaining sub ts e ≡ remaining cs ts e
    deleted = chosen_twice (keeps cs ts d) (keeps cs ts e) (keeps sub ts e) cs same_keeps (λ k m x. kept_before d e k l x)

  pub later : Later cs ts
  later = record {
    for_ever = for_ever;
    stays_gone = stays_gone;
    kept_again = λ d i h. same_keeps d d (le_refl d) i h ∙ (places (keeps cs ts d) cs).holds i h;
    deleted_before = deleted;
  }
