-- What chains over a range of numbers answer, in the words of Rattle.bounded: how many pass a test, and whether one does.
use Prim.Native.Nat.{ℕ, zero, suc, ◌+◌}
use mathlib.Core.Path.{◌≡◌, refl, sym, ap, ap₂, ◌∙◌}
use mathlib.Core.Bool.{Bool, true, false, not, ◌&&◌, ◌||◌}
use native.Mathlib.Omega.{arith}
use lib.Dec.{eqb}
use Rattle.std.specs.Int.{from_bool}
use Rattle.std.specs.List.{range_with_len, sum_by, list_any}
use Rattle.std.proofs.lemmas.List.Sums.{sum_by-cons}
use Rattle.bounded.specs.Below.{all_below, some_below}
use Rattle.bounded.specs.Count.{one, count, tally}
use Rattle.bounded.proofs.BelowLaws.{all_split, all_ext}
use Rattle.bounded.proofs.CountLaws.{count_zero, count_split, count_ext}

-- the sum of 1 for each of n numbers from a on that passes p
as_one : (b : Bool) → from_bool b ≡ one b
as_one true = refl
as_one false = refl

count_first : (p : ℕ → Bool) → count p 1 ≡ one (p 0)
unfolding count
count_first p = omega arith

sum_listed : (p : ℕ → Bool) (a n : ℕ) → sum_by (λ i. from_bool (p i)) (range_with_len a n) ≡ count (λ k. p (a + k)) n
sum_listed p a zero = count_zero (λ k. p (a + k))
sum_listed p a (suc n) =
    let z : a + 0 ≡ a = omega arith in
    let e : suc n ≡ 1 + n = omega arith in
    sum_by-cons (λ i. from_bool (p i)) a (range_with_len (a + 1) n)
    ∙ sym (ap (count (λ k. p (a + k))) e ∙ count_split (λ k. p (a + k)) 1 n
    ∙ ap₂ ◌+◌ (count_first (λ k. p (a + k)) ∙ ap (λ (i : ℕ). one (p i)) z ∙ sym (as_one (p a)))
    (count_ext _ _ n (λ k l. let q : a + (1 + k) ≡ a + 1 + k = omega arith in ap p q) ∙ sym (sum_listed p (a + 1) n)))

-- of the numbers below n, how many does f send to v
pub times_listed : (f : ℕ → ℕ) (v n : ℕ) → sum_by (λ i. from_bool (eqb (f i) v)) (range_with_len 0 n) ≡ tally f n v
times_listed f v n = sum_listed (λ i. eqb (f i) v) 0 n ∙ count_ext _ _ n (λ k l. let q : 0 + k ≡ k = omega arith in ap (λ (i : ℕ). eqb (f i) v) q)

-- one of n numbers from a on passes p
some_one : (b : Bool) (x : Bool) → not (not b && x) ≡ b || not x
some_one true x = refl
some_one false x = refl

none_one : (p : ℕ → Bool) → all_below p 1 ≡ p 0
unfolding all_below
none_one p = refl

any_listed : (p : ℕ → Bool) (a n : ℕ) → list_any p (range_with_len a n) ≡ not (all_below (λ k. not (p (a + k))) n)
unfolding all_below
any_listed p a zero = refl
any_listed p a (suc n) =
    let z : a + 0 ≡ a = omega arith in
    let e : suc n ≡ 1 + n = omega arith in
    ap (λ (y : Bool). p a || y) (any_listed p (a + 1) n)
    ∙ sym (some_one (p a) (all_below (λ k. not (p (a + 1 + k))) n))
    ∙ ap not
    (sym (ap (all_below (λ k. not (p (a + k)))) e ∙ all_split (λ k. not (p (a + k))) 1 n
    ∙ ap₂ ◌&&◌ (none_one (λ k. not (p (a + k))) ∙ ap (λ (i : ℕ). not (p i)) z)
    (all_ext _ _ n (λ k l. let q : a + (1 + k) ≡ a + 1 + k = omega arith in ap (λ (i : ℕ). not (p i)) q))))

pub some_listed : (p : ℕ → Bool) (n : ℕ) → list_any p (range_with_len 1 n) ≡ some_below (λ k. p (k + 1)) n
unfolding some_below
some_listed p n = any_listed p 1 n ∙ ap not (all_ext _ _ n (λ k l. let q : 1 + k ≡ k + 1 = omega arith in ap (λ (i : ℕ). not (p i)) q))
