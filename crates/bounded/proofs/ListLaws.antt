-- A test at every or at some element of a list, how many pass it, and a fold, by numbers below the list's length.
use Rattle.std.proofs.Common.{◌≡◌, ℕ, suc, ◌+◌, Bool, ◌&&◌, true, false, cond, not, ◌||◌, ◌<◌, zero-add, List, [], ◌∷◌, length, get_or, refl, sym, ap, ap₂, ◌∙◌, arith}
use Rattle.std.specs.List.{list_all, list_any, range_with_len, fold}
use Rattle.std.proofs.lemmas.List.FromFn.{length-range_with_len, get_or-range_with_len}
use Rattle.std.specs.Prelude.{count_by}
use Rattle.std.proofs.lemmas.List.Sums.{sum_by-cons}
use Rattle.bounded.specs.Below.{all_below, some_below}
use Rattle.bounded.specs.Count.{one, count}
use Rattle.bounded.proofs.BelowLaws.{all_ext, all_split}
use Rattle.bounded.proofs.CountLaws.{count_ext, count_split}

-- the first number and those after it
all_front : (p : ℕ → Bool) (n : ℕ) → all_below p (suc n) ≡ p 0 && all_below (λ k. p (suc k)) n
unfolding all_below
all_front p n =
    let e : suc n ≡ 1 + n = omega arith in
    ap (all_below p) e ∙ all_split p 1 n ∙ ap₂ ◌&&◌ refl (all_ext (λ k. p (1 + k)) (λ k. p (suc k)) n (λ k l. let q : 1 + k ≡ suc k = omega arith in ap p q))

pub list_all-below : {A : Type 0} (p : A → Bool) (d : A) (xs : List A) → list_all p xs ≡ all_below (λ j. p (get_or xs j d)) (length xs)
list_all-below p d [] = unfold all_below in refl
list_all-below p d (x ∷ xs) =
    ap (λ (b : Bool). p x && b) (list_all-below p d xs) ∙ sym (all_front (λ j. p (get_or (x ∷ xs) j d)) (length xs))

count_front : (p : ℕ → Bool) (n : ℕ) → count p (suc n) ≡ one (p 0) + count (λ k. p (suc k)) n
unfolding count
count_front p n =
    let e : suc n ≡ 1 + n = omega arith in
    let z : 0 + one (p 0) ≡ one (p 0) = omega arith in
    ap (count p) e ∙ count_split p 1 n ∙ ap₂ ◌+◌ z (count_ext (λ k. p (1 + k)) (λ k. p (suc k)) n (λ k l. let q : 1 + k ≡ suc k = omega arith in ap p q))

pub count_by-below : {A : Type 0} (p : A → Bool) (d : A) (xs : List A) → count_by p xs ≡ count (λ j. p (get_or xs j d)) (length xs)
count_by-below p d [] = unfold count in refl
count_by-below p d (x ∷ xs) =
    sum_by-cons (λ y. cond (p y) 1 0) x xs ∙ ap₂ ◌+◌ (one_is (p x)) (count_by-below p d xs) ∙ sym (count_front (λ j. p (get_or (x ∷ xs) j d)) (length xs))
  where
    one_is : (b : Bool) → cond b 1 0 ≡ one b
    one_is true = refl
    one_is false = refl

pub list_any-below : {A : Type 0} (p : A → Bool) (d : A) (xs : List A) → list_any p xs ≡ some_below (λ j. p (get_or xs j d)) (length xs)
unfolding some_below
list_any-below p d xs = none p xs ∙ ap not (list_all-below (λ x. not (p x)) d xs)
  where
    either : (a b : Bool) → a || not b ≡ not (not a && b)
    either true b = refl
    either false b = refl

    none : {A : Type 0} (p : A → Bool) (xs : List A) → list_any p xs ≡ not (list_all (λ x. not (p x)) xs)
    none p [] = refl
    none p (x ∷ xs) = ap (λ (b : Bool). p x || b) (none p xs) ∙ either (p x) (list_all (λ y. not (p y)) xs)

pub list_any-range : (p : ℕ → Bool) (n : ℕ) → list_any p (range_with_len 0 n) ≡ some_below p n
unfolding some_below
list_any-range p n =
    list_any-below p 0 (range_with_len 0 n)
    ∙ ap (some_below (λ j. p (get_or (range_with_len 0 n) j 0))) (length-range_with_len 0 n)
    ∙ ap not (all_ext (λ j. not (p (get_or (range_with_len 0 n) j 0))) (λ j. not (p j)) n (λ j l. ap (λ (i : ℕ). not (p i)) (get_or-range_with_len 0 n j 0 l ∙ zero-add j)))

-- a fold whose value after k elements is g k
pub fold-steps : {A B : Type 0} (h : B → A → B) (g : ℕ → B) (d : A) (xs : List A) → ((k : ℕ) → k < length xs → h (g k) (get_or xs k d) ≡ g (k + 1)) → fold h (g 0) xs ≡ g (length xs)
fold-steps h g d [] s = refl
fold-steps h g d (x ∷ xs) s =
    ap (λ b. fold h b xs) (s 0 (omega arith))
    ∙ fold-steps h (λ k. g (suc k)) d xs (λ k l. let e : suc k + 1 ≡ suc (k + 1) = omega arith in s (suc k) (omega arith) ∙ ap g e)
