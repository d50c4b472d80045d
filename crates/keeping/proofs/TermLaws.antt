-- Terms that are in order: each neighbour tells it, and then all pairs do.
use Prim.Native.Nat.{ℕ, zero, suc, ◌+◌, ◌≤◌, ◌<◌, min, max}
use mathlib.Core.Path.{◌≡◌, refl, ap}
use mathlib.Core.Logic.{◌⊎◌, inl, inr, ⊎_elim}
use mathlib.Core.Bool.{Bool, true, false, not, ◌&&◌}
use mathlib.Core.List.{List}
use native.Mathlib.Nat.{eq-or-lt_of_le}
use native.Mathlib.Decide.{dec_lt}
use native.Mathlib.Numerals.{add-one}
use native.Mathlib.Omega.{arith}
use borrow.Author.Tests.{not-true, lt-leb}
use lib.Dec.{leb}
use Rattle.bounded.specs.Below.{all_below}
use Rattle.bounded.specs.Reflect.{Reflects}
use Rattle.bounded.proofs.BelowLaws.{all_at, all_of}
use Rattle.bounded.proofs.BoolLaws.{same_test, fails, and_false_l, and_false_r}
use Rattle.bounded.proofs.ReflectLaws.{r_le, r_lt, r_and, r_or, r_some, r_no, r_says}
use Rattle.keeping.specs.Keeping.{term_count, first_day, last_day}
use Rattle.keeping.specs.Call.{wrong_terms}
use Rattle.keeping.specs.Claims.{DayIn, TermsWrong, overlap, backwards, out_of_order}

module _ (ts : List ℕ) where
  -- what 24's test says
  abbrev pub Wrong : Type 0
  Wrong =
      (t : ℕ) × (t < term_count ts)
      × ((last_day ts t < first_day ts t)
      ⊎ ((s : ℕ) × (s < t) × ((max (first_day ts s) (first_day ts t) ≤ min (last_day ts s) (last_day ts t)) ⊎ (first_day ts t < first_day ts s))))

  pub wrong_decides : Reflects (wrong_terms ts) Wrong
  unfolding wrong_terms
  wrong_decides = r_some (term_count ts) (λ t. r_or (r_lt (last_day ts t) (first_day ts t)) (r_some t (λ s. r_or (r_le _ _) (r_lt _ _))))

  -- ---- as the code walks: the first day that term t may begin
  abbrev pub free_from : ℕ → ℕ
  free_from zero = 0
  free_from (suc t) = last_day ts t + 1

  -- term t begins there or later, and ends no sooner than it begins
  abbrev pub neat : ℕ → Bool
  neat t = leb (free_from t) (first_day ts t) && leb (first_day ts t) (last_day ts t)

  neat_says : (t : ℕ) → Reflects (neat t) ((free_from t ≤ first_day ts t) × (first_day ts t ≤ last_day ts t))
  neat_says t = r_and (r_le _ _) (r_le _ _)

  pub free_next : (t : ℕ) → free_from (t + 1) ≡ last_day ts t + 1
  free_next t = ap free_from (add-one t)

  -- ---- where all are neat, each ends before any later one begins
  module _ (n : ℕ) (neat-all : (t : ℕ) → t < n → (free_from t ≤ first_day ts t) × (first_day ts t ≤ last_day ts t)) where
    pub before_later : (s t : ℕ) → s < t → t < n → last_day ts s < first_day ts t
    before_later s zero l h = absurd (omega arith)
    before_later s (suc t) l h =
        let a = neat-all (suc t) h in
        ⊎_elim
        (λ (e : s ≡ t). let b = ap (last_day ts) e in omega arith)
        (λ (k : s < t). let b = before_later s t k (omega arith) in let d = neat-all t (omega arith) in omega arith)
        (eq-or-lt_of_le (let k : s ≤ t = omega arith in k))

    none_wrong : n ≡ term_count ts → Wrong → ⊥
    none_wrong e (t, l, inl b) = let a = neat-all t (omega arith) in omega arith
    none_wrong e (t, l, inr (s, k, inl o)) = let a = before_later s t k (omega arith) in omega arith
    none_wrong e (t, l, inr (s, k, inr o)) = let a = before_later s t k (omega arith) in let b = neat-all s (omega arith) in omega arith

  -- ---- where none is wrong, all are neat
  all_neat : (Wrong → ⊥) → (t : ℕ) → t < term_count ts → (free_from t ≤ first_day ts t) × (first_day ts t ≤ last_day ts t)
  all_neat h t l = (free t l (ends t l), ends t l)
    where
      ends : (t : ℕ) → t < term_count ts → first_day ts t ≤ last_day ts t
      ends t l = elim (dec_lt (last_day ts t) (first_day ts t)) as (λ _. first_day ts t ≤ last_day ts t) [
        | yes k ↦ absurd (h (t, l, inl k))
        | no k ↦ omega arith
      ]

      free : (t : ℕ) → t < term_count ts → first_day ts t ≤ last_day ts t → free_from t ≤ first_day ts t
      free zero l e = omega arith
      free (suc t) l e =
          let s = suc t in
          let apart : max (first_day ts t) (first_day ts s) ≤ min (last_day ts t) (last_day ts s) → ⊥ = λ k. h (s, l, inr (t, omega arith, inl k)) in
          let order : first_day ts s < first_day ts t → ⊥ = λ k. h (s, l, inr (t, omega arith, inr k)) in
          let first = ends t (omega arith) in
          elim (dec_lt (last_day ts t) (first_day ts s)) as (λ _. free_from s ≤ first_day ts s) [
            | yes k ↦ omega arith
            | no k ↦ elim (dec_lt (first_day ts s) (first_day ts t)) as (λ _. free_from s ≤ first_day ts s) [
              | yes m ↦ absurd (order m)
              | no m ↦ absurd (apart (omega arith))
            ]
          ]

  pub neat_tells : all_below neat (term_count ts) ≡ not (wrong_terms ts)
  neat_tells =
      same_test (all_below neat (term_count ts)) (not (wrong_terms ts))
      (λ a. ap not (fails (wrong_terms ts) (λ e. none_wrong (term_count ts) (λ t l. (neat_says t).to (all_at neat (term_count ts) a t l)) refl (wrong_decides.to e))))
      (λ e. all_of neat (term_count ts) (λ t l. (neat_says t).from (all_neat (r_no wrong_decides (not-true (wrong_terms ts) e)) t l)))

  -- the walk stops at a term that is not neat
  pub not_free : (t : ℕ) → first_day ts t < free_from t → neat t ≡ false
  not_free t h = and_false_l _ _ (lt-leb _ _ h)

  pub not_ended : (t : ℕ) → last_day ts t < first_day ts t → neat t ≡ false
  not_ended t h = and_false_r (leb (free_from t) (first_day ts t)) _ (lt-leb _ _ h)

  pub is_neat : (t : ℕ) → free_from t ≤ first_day ts t → first_day ts t ≤ last_day ts t → neat t ≡ true
  is_neat t h k = (neat_says t).from (h, k)

  -- ---- then a day lies in at most one term
  pub one_term : wrong_terms ts ≡ false → (d s t : ℕ) → s < term_count ts → t < term_count ts → DayIn ts d s → DayIn ts d t → s ≡ t
  one_term g d s t h k a b =
      let n = all_neat (r_no wrong_decides g) in
      elim (dec_lt s t) as (λ _. s ≡ t) [
        | yes l ↦ let e = before_later (term_count ts) n s t l k in let u = a.1 in let v = b.0 in absurd (omega arith)
        | no l ↦ elim (dec_lt t s) as (λ _. s ≡ t) [
          | yes m ↦ let e = before_later (term_count ts) n t s m h in let u = b.1 in let v = a.0 in absurd (omega arith)
          | no m ↦ omega arith
        ]
      ]

  -- ---- 24 in a school's words
  to_words : Wrong → TermsWrong ts
  to_words (t, l, inl b) = backwards t l b
  to_words (t, l, inr (s, k, inl o)) = overlap s t (max (first_day ts s) (first_day ts t)) k l (omega arith, omega arith) (omega arith, omega arith)
  to_words (t, l, inr (s, k, inr o)) = out_of_order s t k l o

  from_words : TermsWrong ts → Wrong
  from_words (overlap s t d k l a b) = let u = a.0 in let v = a.1 in let w = b.0 in let x = b.1 in (t, l, inr (s, k, inl (omega arith)))
  from_words (backwards t l b) = (t, l, inl b)
  from_words (out_of_order s t k l o) = (t, l, inr (s, k, inr o))

  pub terms_wrong : Reflects (wrong_terms ts) (TermsWrong ts)
  terms_wrong = r_says to_words from_words wrong_decides
