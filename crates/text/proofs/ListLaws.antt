-- Std's words for a chain of iterators over a list, in the words of this crate: a search, a count, a test of all, equal texts.
use Rattle.std.specs.Prelude.{None, Some, Option}
use Rattle.std.specs.List.{list_all, count_by, find, range_with_len, position, position_or_len}
use Rattle.std.specs.Bool.{Decides}
use Rattle.std.specs.Option.{option_map, unwrap_or}
use Rattle.std.specs.Str.{bytes_eq}
use Rattle.std.proofs.lemmas.Bool.Decides.{Decides-eqb}
use Rattle.std.proofs.lemmas.Slice.Eq.{slice_eq-Decides}
use Rattle.std.proofs.lemmas.List.{get_or-drop}
use Rattle.std.proofs.lemmas.List.Sums.{fails_before_first}
use Rattle.std.proofs.lemmas.List.Recursion.{is_count_by}
use Rattle.std.proofs.lemmas.List.Quantifiers.{position-Some}
use Prim.Native.Nat.{ℕ, zero, suc, ◌+◌, ◌-◌, ◌≤◌, ◌<◌, min}
use mathlib.Core.Path.{◌≡◌, refl, sym, ap, ◌∙◌}
use mathlib.Core.Bool.{Bool, true, false, ◌&&◌, and_assoc, and-true as and-unit, cond}
use mathlib.Core.List.{List, [], ◌∷◌}
use native.Mathlib.Omega.{arith}
use native.Mathlib.Numerals.{add-one}
use borrow.Author.Tests.{eq-eqb, eqb-true, lt-ltb}
use lib.Dec.{eqb, ltb}
use native.Mathlib.Decide.{dec_lt}
use lib.ListN.{length, get_or, take, drop, length-drop}
use lib.Seq.{ext_get_or, take_all}
use Rattle.bounded.specs.Below.{all_below}
use Rattle.bounded.specs.Count.{one, count}
use Rattle.bounded.proofs.BoolLaws.{same_test, and-true, and_left, and_right}
use Rattle.bounded.proofs.BelowLaws.{all_at, all_of, all_ext}
use Rattle.bounded.proofs.SearchLaws.{absent_of, lowest_found, found_lowest}
use Rattle.bounded.specs.Search.{pick, first, first_from, on_found}
use Rattle.text.specs.Pieces.{place_from, find_from, is_word}

-- ---- a test of all
all_cons : (p : ℕ → Bool) (n : ℕ) → all_below p (suc n) ≡ p 0 && all_below (λ k. p (suc k)) n
unfolding all_below
all_cons p zero = sym (and-unit (p 0))
all_cons p (suc n) = ap (λ (b : Bool). b && p (suc n)) (all_cons p n) ∙ and_assoc (p 0) (all_below (λ k. p (suc k)) n) (p (suc n))

pub all_is : (p : ℕ → Bool) (s : List ℕ) → list_all p s ≡ all_below (λ k. p (get_or s k 0)) (length s)
unfolding all_below
all_is p [] = refl
all_is p (x ∷ s) = ap (λ (b : Bool). p x && b) (all_is p s) ∙ sym (all_cons (λ k. p (get_or (x ∷ s) k 0)) (length s))

-- ---- a count
count_cons : (p : ℕ → Bool) (n : ℕ) → count p (suc n) ≡ one (p 0) + count (λ k. p (suc k)) n
unfolding count
count_cons p zero = omega arith
count_cons p (suc n) = let e = count_cons p n in omega arith

one_more : (b : Bool) (n : ℕ) → one b + n ≡ cond b (1 + n) n
one_more true n = refl
one_more false n = omega arith

pub count_is : (p : ℕ → Bool) (s : List ℕ) → count (λ k. p (get_or s k 0)) (length s) ≡ count_by p s
unfolding count
count_is p s =
    is_count_by (λ l. count (λ k. p (get_or l k 0)) (length l)) p refl
    (λ x l. count_cons (λ k. p (get_or (x ∷ l) k 0)) (length l) ∙ one_more (p x) (count (λ k. p (get_or l k 0)) (length l)))
    s

-- ---- a search from o on
module _ (p : ℕ → Bool) (s : List ℕ) (o : ℕ) where
  at : (k : ℕ) {b : Bool} → p (get_or (drop o s) k 0) ≡ b → p (get_or s (o + k) 0) ≡ b
  at k h = ap p (sym (get_or-drop o s k 0)) ∙ h

  here : (j : ℕ) {b : Bool} → o ≤ j → p (get_or (drop o s) (j - o) 0) ≡ b → p (get_or s j 0) ≡ b
  here j l h = let e : o + (j - o) ≡ j = omega arith in ap (λ (i : ℕ). p (get_or s i 0)) (sym e) ∙ at (j - o) h

  pub found_is : (k : ℕ) → position p (drop o s) ≡ Some k → (o + k ≡ place_from (λ j. p (get_or s j 0)) o (length s)) × (o + k < length s)
  unfolding place_from
  found_is k e =
      let f = position-Some p (drop o s) k 0 e in
      let l : o + k < length s = omega (arith, f.0, length-drop o s) in
      (sym (rw (lowest_found (λ j. p (get_or s j 0)) o (length s - o) (o + k) (record { from = omega arith; below = omega arith; holds = at k f.1; before = λ j a b. here j a (f.2 (j - o) (omega arith)) })) refl), l)

  pub missed_is : position p (drop o s) ≡ None → length s ≡ place_from (λ j. p (get_or s j 0)) o (length s)
  unfolding place_from
  missed_is e =
      sym (rw (absent_of (λ j. p (get_or s j 0)) o (length s - o) (λ j a b. here j a (fails_before_first p (drop o s) (j - o) 0 (none_far (j - o) (omega (arith, length-drop o s)))))) refl)
    where
      all_far : (a b : ℕ) → cond (ltb a b) (Some a) None ≡ None → b ≤ a
      all_far a b h = elim (dec_lt a b) [ yes l ↦ absurd (let z = lt-ltb a b l in let q : ◌≡◌ {A = Option ℕ} (Some a) None = rw z at h in cc) | no l ↦ omega arith ]

      none_far : (j : ℕ) → j < length (drop o s) → j < position_or_len p (drop o s)
      none_far j l = let q : length (drop o s) ≤ position_or_len p (drop o s) = all_far _ _ e in omega arith

-- from past the end on there is nothing, as from the end on
pub from_end : (p : ℕ → Bool) (o n : ℕ) → place_from p (min o n) n ≡ place_from p o n
unfolding place_from first_from
from_end p o n = elim (dec_lt n o) [
  | yes l ↦ let a : min o n ≡ n = omega arith in let b : n - n ≡ 0 = omega arith in let d : n - o ≡ 0 = omega arith in rw (a, b, d) refl
  | no l ↦ let a : min o n ≡ o = omega arith in rw a refl
]

-- the place of the first from o on, from its place in what stands from o on, m being o or the end
module _ (s : List ℕ) (x o m : ℕ) (f : Option ℕ) (a : m ≡ min o (length s)) (e : f ≡ position (λ b. eqb b x) (take (length s - m) (drop m s))) where
  whole : position (λ b. eqb b x) (drop m s) ≡ f
  whole = ap (position (λ b. eqb b x)) (sym (take_all (length s - m) (drop m s) (omega (arith, length-drop m s)))) ∙ sym e

  from_there : find_from s x m ≡ find_from s x o
  unfolding find_from
  from_there = rw a (from_end (λ k. eqb (get_or s k 0) x) o (length s))

  pub find_found : (k : ℕ) → f ≡ Some k → (m + k ≡ find_from s x o) × (m + k ≤ length s)
  unfolding find_from
  find_found k h = let r = found_is (λ b. eqb b x) s m k (whole ∙ h) in (r.0 ∙ from_there, omega (arith, r.1))

  pub find_missed : f ≡ None → length s ≡ find_from s x o
  unfolding find_from
  find_missed h = missed_is (λ b. eqb b x) s m (whole ∙ h) ∙ from_there

-- ---- equal texts
pub eq_is_word : (s w : List ℕ) (r : Bool) → r ≡ bytes_eq s w → r ≡ is_word s w
unfolding is_word
eq_is_word s w r d = same_test r (is_word s w) (λ e. same ((eq_decides r d).0 e)) (λ e. (eq_decides r d).1 (equal e))
  where
    eq_decides : (r : Bool) → r ≡ bytes_eq s w → Decides r (s ≡ w)
    eq_decides r d = slice_eq-Decides Decides-eqb s w r d

    same : s ≡ w → is_word s w ≡ true
    same e = rw e (and-true (eqb (length w) (length w)) _ (eq-eqb (length w) (length w) refl) (all_of (λ k. eqb (get_or w k 0) (get_or w k 0)) (length w) (λ k l. eq-eqb (get_or w k 0) (get_or w k 0) refl)))

    equal : is_word s w ≡ true → s ≡ w
    equal e =
        let all : Bool = all_below (λ k. eqb (get_or s k 0) (get_or w k 0)) (length w) in
        let n : length s ≡ length w = eqb-true _ _ (and_left (eqb (length s) (length w)) all e) in
        ext_get_or 0 s w n (λ i l. eqb-true _ _ (all_at (λ k. eqb (get_or s k 0) (get_or w k 0)) (length w) (and_right (eqb (length s) (length w)) all e) i (omega arith)))

-- ---- over a range of numbers
pick_cond : {A : Type 0} (b : Bool) (x y : A) → cond b x y ≡ pick b x y
pick_cond true x y = refl
pick_cond false x y = refl

find_from_is : (p : ℕ → Bool) (i n : ℕ) → find p (range_with_len i n) ≡ first_from p i n
unfolding first_from
find_from_is p i zero = refl
find_from_is p i (suc n) =
    pick_cond (p i) (Some i) (find p (range_with_len (i + 1) n))
    ∙ ap (λ (r : Option ℕ). pick (p i) (Some i) r) (ap (λ (k : ℕ). find p (range_with_len k n)) (add-one i) ∙ find_from_is p (suc i) n)

same : (r : Option ℕ) → option_map (λ (x : ℕ). x) r ≡ r
same (Some x) = refl
same None = refl

pub find_range : (p : ℕ → Bool) (n : ℕ) (r : Option ℕ) → option_map (λ (x : ℕ). x) r ≡ find p (range_with_len 0 (n - 0)) → r ≡ first p n
unfolding first
find_range p n r e = let z : n - 0 ≡ n = omega arith in sym (same r) ∙ e ∙ rw z (find_from_is p 0 n)

-- the place of the first x from o on, from a search of the places
pub find_places : (s : List ℕ) (x o : ℕ) (r : Option ℕ) → option_map (λ (y : ℕ). y) r ≡ find (λ k. eqb (get_or s k 0) x) (range_with_len o (length s - o))
    → (v : ℕ) → v ≡ unwrap_or r (length s) → (v ≡ find_from s x o) × (v ≤ length s)
unfolding find_from place_from
find_places s x o r e v h =
    let w = at r (sym (same r) ∙ e ∙ find_from_is (λ k. eqb (get_or s k 0) x) o (length s - o)) in
    (h ∙ w.0, let l = w.1 in omega arith)
  where
    at : (q : Option ℕ) → q ≡ first_from (λ k. eqb (get_or s k 0) x) o (length s - o)
        → (unwrap_or q (length s) ≡ on_found (first_from (λ k. eqb (get_or s k 0) x) o (length s - o)) (λ t. t) (length s)) × (unwrap_or q (length s) ≤ length s)
    at (Some t) h =
        let l = found_lowest (λ k. eqb (get_or s k 0) x) o (length s - o) t (sym h) in
        (rw (← h) refl, let b = l.below in omega arith)
    at None h = (rw (← h) refl, omega arith)

all_from_is : (p : ℕ → Bool) (i n : ℕ) → list_all p (range_with_len i n) ≡ all_below (λ k. p (i + k)) n
unfolding all_below
all_from_is p i zero = refl
all_from_is p i (suc n) =
    ap (λ (b : Bool). p i && b) (all_from_is p (i + 1) n ∙ all_ext (λ k. p (i + 1 + k)) (λ k. p (i + suc k)) n (λ k l. let e : i + 1 + k ≡ i + suc k = omega arith in ap p e))
    ∙ ap (λ (b : Bool). b && all_below (λ k. p (i + suc k)) n) (let e : i ≡ i + 0 = omega arith in ap p e)
    ∙ sym (all_cons (λ k. p (i + k)) n)

pub all_range : (p : ℕ → Bool) (n : ℕ) (r : Bool) → r ≡ list_all p (range_with_len 0 (n - 0)) → r ≡ all_below p n
all_range p n r e =
    let z : n - 0 ≡ n = omega arith in
    e ∙ rw z (all_from_is p 0 n) ∙ all_ext (λ k. p (0 + k)) p n (λ k l. let f : 0 + k ≡ k = omega arith in ap p f)
