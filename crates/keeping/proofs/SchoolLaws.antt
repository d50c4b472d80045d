-- What stays: one copy a date, one a week of a term, one a term.
use Prim.Native.Nat.{ℕ, zero, suc, ◌+◌, ◌≤◌, ◌<◌}
use mathlib.Core.Path.{◌≡◌, sym, ap, subst, ◌∙◌}
use mathlib.Core.Logic.{◌⊎◌, inl, inr, ⊎_elim}
use mathlib.Core.Bool.{Bool, true, false, not, ◌&&◌}
use mathlib.Core.List.{List}
use native.Mathlib.Decide.{dec_lt, ℕ_discrete}
use native.Mathlib.Omega.{arith}
use borrow.Author.Tests.{le-leb, lt-leb, lt-ltb, eq-eqb, leb-true, ltb-true, eqb-true, not-true}
use lib.Dec.{eqb, ltb}
use Rattle.bounded.specs.Reflect.{Reflects}
use Rattle.bounded.proofs.BelowLaws.{some_of, some_at, none_some}
use Rattle.bounded.proofs.BoolLaws.{clash, fails, and-true, and_left, and_right, or_l, or_r, or_cases, holds_or_fails}
use Rattle.bounded.proofs.ReflectLaws.{r_and, r_le}
use Rattle.calendar.specs.Date.{week}
use Rattle.keeping.specs.Keeping.{copy_count, day_of, term_count, last_day, young_days, term_days, looked_at, lies_in, later_in, last_of_week, last_of_term, young, in_time, term_keeps, keeps}
use Rattle.keeping.specs.Call.{wrong_terms}
use Rattle.keeping.specs.Claims.{DayIn, Kept, Old, Sole, Stays}
use Rattle.keeping.proofs.RangeLaws.{looked}
use Rattle.keeping.proofs.TermLaws.{one_term}

-- ---- of the numbers below n that pass p, one at which f is largest
pub record Best (p : ℕ → Bool) (f : ℕ → ℕ) (n k : ℕ) : Type 0 where
  pub below : k < n
  pub holds : p k ≡ true
  pub most : (j : ℕ) → j < n → p j ≡ true → f j ≤ f k

module _ (p : ℕ → Bool) (f : ℕ → ℕ) where
  none_or_best : (n : ℕ) → ((j : ℕ) → j < n → p j ≡ false) ⊎ ((k : ℕ) × Best p f n k)
  none_or_best zero = inl (λ j l. absurd (omega arith))
  none_or_best (suc n) = go (none_or_best n) (holds_or_fails (p n))
    where
      here : (k : ℕ) → p k ≡ true → ((j : ℕ) → j < n → p j ≡ true → f j ≤ f k) → f n ≤ f k → k < suc n → Best p f (suc n) k
      here k e m h l = record {
        below = l;
        holds = e;
        most = λ j b t. elim (ℕ_discrete j n) as (λ _. f j ≤ f k) [
          | yes q ↦ let w = ap f q in omega arith
          | no q ↦ m j (omega arith) t
        ];
      }

      go : ((j : ℕ) → j < n → p j ≡ false) ⊎ ((k : ℕ) × Best p f n k) → (p n ≡ true) ⊎ (p n ≡ false) → ((j : ℕ) → j < suc n → p j ≡ false) ⊎ ((k : ℕ) × Best p f (suc n) k)
      go (inl h) (inl e) = inr (n, here n e (λ j l t. absurd (clash (p j) t (h j l))) (omega arith) (omega arith))
      go (inl h) (inr e) = inl (λ j l. elim (ℕ_discrete j n) as (λ _. p j ≡ false) [ yes q ↦ ap p q ∙ e | no q ↦ h j (omega arith) ])
      go (inr (k, b)) (inl e) = elim (dec_lt (f n) (f k)) as (λ _. ((j : ℕ) → j < suc n → p j ≡ false) ⊎ ((k : ℕ) × Best p f (suc n) k)) [
        | yes l ↦ inr (k, here k b.holds b.most (omega arith) (let w = b.below in omega arith))
        | no l ↦ inr (n, here n e (λ j m t. let w = b.most j m t in omega arith) (omega arith) (omega arith))
      ]
      go (inr (k, b)) (inr e) = inr (
        k,
        record {
          below = let w = b.below in omega arith;
          holds = b.holds;
          most = λ j l t. elim (ℕ_discrete j n) as (λ _. f j ≤ f k) [ yes q ↦ absurd (clash (p j) t (ap p q ∙ e)) | no q ↦ b.most j (omega arith) t ];
        },
      )

  pub best : (n i : ℕ) → i < n → p i ≡ true → (k : ℕ) × Best p f n k
  best n i l e = ⊎_elim (λ h. absurd (clash (p i) e (h i l))) (λ b. b) (none_or_best n)

module _ (cs ts : List ℕ) where
  -- ---- a copy that is looked at is the only one on its date
  not_both : (i j : ℕ) → i < j → j < copy_count cs → looked_at cs i ≡ true → day_of cs j ≡ day_of cs i → ⊥
  not_both i j l h a e =
      clash _ (some_of (λ k. ltb i k && eqb (day_of cs k) (day_of cs i)) (copy_count cs) j h (and-true (ltb i j) _ (lt-ltb i j l) (eq-eqb _ _ e))) (not-true _ a)

  pub one_looked : (i j : ℕ) → i < copy_count cs → j < copy_count cs → looked_at cs i ≡ true → looked_at cs j ≡ true → day_of cs i ≡ day_of cs j → i ≡ j
  one_looked i j h k a b e = elim (dec_lt i j) as (λ _. i ≡ j) [
    | yes l ↦ absurd (not_both i j l k a (sym e))
    | no l ↦ elim (dec_lt j i) as (λ _. i ≡ j) [
      | yes m ↦ absurd (not_both j i m h b e)
      | no m ↦ omega arith
    ]
  ]

  -- ---- tests and what they say
  pub lies_says : (i t : ℕ) → Reflects (lies_in cs ts i t) (DayIn ts (day_of cs i) t)
  lies_says i t = r_and (r_le _ _) (r_le _ _)

  pub later_in_lem : (t i j : ℕ) → looked_at cs j ≡ true → lies_in cs ts j t ≡ true → day_of cs i < day_of cs j → later_in cs ts t i j ≡ true
  later_in_lem t i j a b l = and-true (looked_at cs j) _ a (and-true (lies_in cs ts j t) _ b (lt-ltb _ _ l))

  pub later_says : (t i j : ℕ) → later_in cs ts t i j ≡ true → (looked_at cs j ≡ true) × (lies_in cs ts j t ≡ true) × (day_of cs i < day_of cs j)
  later_says t i j e =
      let r = and_right (looked_at cs j) _ e in
      (and_left (looked_at cs j) _ e, and_left (lies_in cs ts j t) _ r, ltb-true _ _ (and_right (lies_in cs ts j t) _ r))

  pub term_last : (t i : ℕ) → ((j : ℕ) → j < copy_count cs → later_in cs ts t i j ≡ true → ⊥) → last_of_term cs ts t i ≡ true
  unfolding last_of_term
  term_last t i h = ap not (none_some (later_in cs ts t i) (copy_count cs) (λ j l. fails _ (h j l)))

  pub last_in_term : (t i j : ℕ) → last_of_term cs ts t i ≡ true → j < copy_count cs → later_in cs ts t i j ≡ true → ⊥
  unfolding last_of_term
  last_in_term t i j a l e = clash _ (some_of (later_in cs ts t i) (copy_count cs) j l e) (not-true _ a)

  abbrev same_week : ℕ → ℕ → ℕ → Bool
  same_week t i j = later_in cs ts t i j && eqb (week (day_of cs j)) (week (day_of cs i))

  pub week_last : (t i : ℕ) → ((j : ℕ) → j < copy_count cs → later_in cs ts t i j ≡ true → week (day_of cs j) ≡ week (day_of cs i) → ⊥) → last_of_week cs ts t i ≡ true
  unfolding last_of_week
  week_last t i h =
      ap not (none_some (same_week t i) (copy_count cs) (λ j l. fails (same_week t i j) (λ e. h j l (and_left (later_in cs ts t i j) _ e) (eqb-true _ _ (and_right (later_in cs ts t i j) _ e)))))

  pub last_in_week : (t i j : ℕ) → last_of_week cs ts t i ≡ true → j < copy_count cs → later_in cs ts t i j ≡ true → week (day_of cs j) ≡ week (day_of cs i) → ⊥
  unfolding last_of_week
  last_in_week t i j a l e w = clash _ (some_of (same_week t i) (copy_count cs) j l (and-true (later_in cs ts t i j) _ e (eq-eqb _ _ w))) (not-true _ a)

  -- the last copy of a term is the last of its week there
  pub last_twice : (t i : ℕ) → last_of_term cs ts t i ≡ true → last_of_week cs ts t i ≡ true
  last_twice t i a = week_last t i (λ j l e w. last_in_term t i j a l e)

  -- ---- what keeps a copy
  module _ (today : ℕ) where
    pub keeps_looked : (i : ℕ) → keeps cs ts today i ≡ true → looked_at cs i ≡ true
    unfolding keeps
    keeps_looked i e = and_left (looked_at cs i) _ e

    pub keeps_by : (i : ℕ) → keeps cs ts today i ≡ true → (young cs ts today i ≡ true) ⊎ ((t : ℕ) × (t < term_count ts) × (term_keeps cs ts today i t ≡ true))
    unfolding keeps
    keeps_by i e = ⊎_elim inl (λ h. inr (some_at (term_keeps cs ts today i) (term_count ts) h)) (or_cases (young cs ts today i) _ (and_right (looked_at cs i) _ e))

    pub young_kept : (i : ℕ) → looked_at cs i ≡ true → today ≤ day_of cs i + young_days → keeps cs ts today i ≡ true
    unfolding keeps
    young_kept i a h = and-true (looked_at cs i) _ a (or_l (young cs ts today i) _ (le-leb _ _ h))

    pub term_kept : (i t : ℕ) → looked_at cs i ≡ true → t < term_count ts → term_keeps cs ts today i t ≡ true → keeps cs ts today i ≡ true
    unfolding keeps
    term_kept i t a l e = and-true (looked_at cs i) _ a (or_r (young cs ts today i) _ (some_of (term_keeps cs ts today i) (term_count ts) t l e))

    pub last_kept : (i t : ℕ) → looked_at cs i ≡ true → t < term_count ts → lies_in cs ts i t ≡ true → last_of_term cs ts t i ≡ true → keeps cs ts today i ≡ true
    last_kept i t a l b e = term_kept i t a l (and-true (lies_in cs ts i t) _ b (or_r (last_of_week cs ts t i && in_time cs ts today t) _ e))

    pub week_kept : (i t : ℕ) → looked_at cs i ≡ true → t < term_count ts → lies_in cs ts i t ≡ true → last_of_week cs ts t i ≡ true → in_time cs ts today t ≡ true → keeps cs ts today i ≡ true
    week_kept i t a l b e f = term_kept i t a l (and-true (lies_in cs ts i t) _ b (or_l _ (last_of_term cs ts t i) (and-true (last_of_week cs ts t i) _ e f)))

    -- an older copy that is kept is the last of its week in its term, and after the term's time its last
    term_says : (i t : ℕ) → term_keeps cs ts today i t ≡ true
        → (lies_in cs ts i t ≡ true) × (last_of_week cs ts t i ≡ true) × (last_day ts t + term_days < today → last_of_term cs ts t i ≡ true)
    term_says i t e =
        let w = last_of_week cs ts t i in
        let r = or_cases (w && in_time cs ts today t) (last_of_term cs ts t i) (and_right (lies_in cs ts i t) _ e) in (
          and_left (lies_in cs ts i t) _ e,
          ⊎_elim (λ h. and_left w _ h) (last_twice t i) r,
          λ l. ⊎_elim (λ h. absurd (clash (in_time cs ts today t) (and_right w _ h) (lt-leb _ _ l))) (λ h. h) r,
        )

    module _ (good : wrong_terms ts ≡ false) where
      old_says : (i t : ℕ) → Kept cs ts today i → Old cs ts today i → t < term_count ts → DayIn ts (day_of cs i) t
          → (last_of_week cs ts t i ≡ true) × (last_day ts t + term_days < today → last_of_term cs ts t i ≡ true)
      old_says i t k o l d =
          ⊎_elim
          (λ (y : young cs ts today i ≡ true). let h = leb-true today (day_of cs i + young_days) y in absurd (omega arith))
          (λ (w : (s : ℕ) × (s < term_count ts) × (term_keeps cs ts today i s ≡ true)).
          let r = term_says i w.0 w.2 in
          let e = one_term ts good (day_of cs i) w.0 t w.1 l ((lies_says i w.0).to r.0) d in
          subst (λ (s : ℕ). (last_of_week cs ts s i ≡ true) × (last_day ts s + term_days < today → last_of_term cs ts s i ≡ true)) e (r.1, r.2))
          (keeps_by i k.1)

    -- ---- the school's sentences
    one_a_date : (i j : ℕ) → Kept cs ts today i → Kept cs ts today j → day_of cs i ≡ day_of cs j → i ≡ j
    one_a_date i j k m e = one_looked i j k.0 m.0 (keeps_looked i k.1) (keeps_looked j m.1) e

    young_date : (i : ℕ) → i < copy_count cs → today ≤ day_of cs i + young_days → (k : ℕ) × Kept cs ts today k × (day_of cs k ≡ day_of cs i)
    young_date i l h =
        let r = looked cs ts (copy_count cs) i (omega arith) l in
        let e = r.3 in
        (r.0, (r.1, young_kept r.0 r.2 (omega arith)), e)

    one_a_week : wrong_terms ts ≡ false → (i j t : ℕ) → Kept cs ts today i → Kept cs ts today j → Old cs ts today i → Old cs ts today j → t < term_count ts
        → DayIn ts (day_of cs i) t → DayIn ts (day_of cs j) t → week (day_of cs i) ≡ week (day_of cs j) → i ≡ j
    one_a_week g i j t k m o p l d f w =
        one_a_date i j k m (same (λ h. last_in_week t i j (old_says g i t k o l d).0 m.0 (later_in_lem t i j (keeps_looked j m.1) ((lies_says j t).from f) h) (sym w))
        (λ h. last_in_week t j i (old_says g j t m p l f).0 k.0 (later_in_lem t j i (keeps_looked i k.1) ((lies_says i t).from d) h) w))
      where
        same : (day_of cs i < day_of cs j → ⊥) → (day_of cs j < day_of cs i → ⊥) → day_of cs i ≡ day_of cs j
        same a b = elim (dec_lt (day_of cs i) (day_of cs j)) as (λ _. day_of cs i ≡ day_of cs j) [
          | yes h ↦ absurd (a h)
          | no h ↦ elim (dec_lt (day_of cs j) (day_of cs i)) as (λ _. day_of cs i ≡ day_of cs j) [ yes n ↦ absurd (b n) | no n ↦ omega arith ]
        ]

  -- ---- a term's last copy
  abbrev in_term : ℕ → ℕ → Bool
  in_term t j = looked_at cs j && lies_in cs ts j t

  pub record LastIn (t k : ℕ) : Type 0 where
    pub below : k < copy_count cs
    pub looked_at_lem : looked_at cs k ≡ true
    pub inside : lies_in cs ts k t ≡ true
    pub last : last_of_term cs ts t k ≡ true
    pub latest : (j : ℕ) → j < copy_count cs → DayIn ts (day_of cs j) t → day_of cs j ≤ day_of cs k

  pub last_in : (i t : ℕ) → i < copy_count cs → DayIn ts (day_of cs i) t → (k : ℕ) × LastIn t k
  last_in i t l d =
      let q = seen i l d in
      let b = best (in_term t) (day_of cs) (copy_count cs) q.0 q.1 q.2 in
      let k = b.0 in (
        k,
        record {
          below = b.1.below;
          looked_at_lem = and_left (looked_at cs k) _ b.1.holds;
          inside = and_right (looked_at cs k) _ b.1.holds;
          last = term_last t k (λ j h e. let r = later_says t k j e in let m = b.1.most j h (and-true (looked_at cs j) _ r.0 r.1) in let x = r.2 in omega arith);
          latest = λ j h e. let s = seen j h e in let m = b.1.most s.0 s.1 s.2 in let x = s.3 in omega arith;
        },
      )
    where
      -- a copy in the term that is looked at, on its date
      seen : (j : ℕ) → j < copy_count cs → DayIn ts (day_of cs j) t → (k : ℕ) × (k < copy_count cs) × (in_term t k ≡ true) × (day_of cs k ≡ day_of cs j)
      seen j h e =
          let r = looked cs ts (copy_count cs) j (omega arith) h in
          let x = r.3 in
          let u = e.0 in
          let v = e.1 in
          (r.0, r.1, and-true (looked_at cs r.0) _ r.2 ((lies_says r.0 t).from (omega arith, omega arith)), x)

  one_a_term : (today : ℕ) → wrong_terms ts ≡ false → (i t : ℕ) → i < copy_count cs → t < term_count ts → DayIn ts (day_of cs i) t
      → last_day ts t + term_days < today → (k : ℕ) × Sole cs ts today t k
  one_a_term today g i t l h d o =
      let r = last_in i t l d in
      let k = r.0 in
      let x = r.1 in
      let kept : Kept cs ts today k = (x.below, last_kept today k t x.looked_at_lem h x.inside x.last) in (
        k,
        record {
          kept = kept;
          inside = (lies_says k t).to x.inside;
          last = x.latest;
          alone = λ j m e.
              let u = e.1 in
              let b = (old_says today g j t m (omega arith) h e).1 o in
              let v = x.latest j m.0 e in
              one_a_date today j k m kept (elim (dec_lt (day_of cs j) (day_of cs k)) as (λ _. day_of cs j ≡ day_of cs k) [
                | yes n ↦ absurd (last_in_term t j k b x.below (later_in_lem t j k x.looked_at_lem x.inside n))
                | no n ↦ omega arith
              ]);
        },
      )

  pub stays : (today : ℕ) → Stays cs ts today
  stays today = record {
    one_a_date = one_a_date today;
    young_date = young_date today;
    one_a_week = one_a_week today;
    one_a_term = one_a_term today;
  }
