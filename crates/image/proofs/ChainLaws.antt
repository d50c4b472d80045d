-- What chains over a range of numbers answer, in the words of Rattle.bounded: the largest value, a test of each, the first that passes.
use Rattle.std.specs.Prelude.{None, Option, Some, fold}
use Prim.Native.Nat.{ℕ, zero, suc, ◌+◌, max}
use mathlib.Core.Path.{◌≡◌, refl, sym, ap, ap₂, ◌∙◌}
use mathlib.Core.Bool.{Bool, true, false, ◌&&◌, cond}
use mathlib.Core.List.{List, [], ◌∷◌, ◌++◌}
use native.Mathlib.Numerals.{add-one}
use native.Mathlib.Omega.{arith}
use Rattle.std.specs.List.{find, range_with_len, list_all}
use Rattle.std.specs.Option.{option_map}
use Rattle.std.proofs.lemmas.List.{map-id}
use Rattle.std.proofs.lemmas.List.FromFn.{map-range_with_len_more}
use Rattle.std.proofs.lemmas.List.Sums.{fold-append}
use Rattle.bounded.specs.Below.{all_below, all_to}
use Rattle.bounded.specs.Most.{most}
use Rattle.bounded.specs.Search.{pick, first_from}
use Rattle.bounded.proofs.BelowLaws.{all_split, all_ext}

-- the largest value that f has below n
pub most_listed : (f : ℕ → ℕ) (n : ℕ) → fold (λ m x. max m (f x)) 0 (range_with_len 0 n) ≡ most f n
unfolding most
most_listed f zero = refl
most_listed f (suc n) =
    let k : suc n ≡ n + 1 = omega arith in
    ap (λ (i : ℕ). fold (λ m x. max m (f x)) 0 (range_with_len 0 i)) k
    ∙ ap (fold (λ m x. max m (f x)) 0) (range_more n)
    ∙ fold-append (λ m x. max m (f x)) 0 (range_with_len 0 n) (n ∷ [])
    ∙ ap (λ (m : ℕ). max m (f n)) (most_listed f n)
  where
    range_more : (n : ℕ) → range_with_len 0 (n + 1) ≡ range_with_len 0 n ++ n ∷ []
    range_more n = sym (map-id _) ∙ map-range_with_len_more (λ x. x) 0 n n (omega arith) ∙ ap (λ (xs : List ℕ). xs ++ n ∷ []) (map-id _)

-- p at each of n numbers from a on, and at 1 to n
all_one : (p : ℕ → Bool) → all_below p 1 ≡ p 0
unfolding all_below
all_one p = refl

pub all_listed : (p : ℕ → Bool) (a n : ℕ) → list_all p (range_with_len a n) ≡ all_below (λ k. p (a + k)) n
unfolding all_below
all_listed p a zero = refl
all_listed p a (suc n) =
    let z : a + 0 ≡ a = omega arith in
    let e : suc n ≡ 1 + n = omega arith in
    ap₂ ◌&&◌ (sym (all_one (λ k. p (a + k)) ∙ ap p z))
    (all_listed p (a + 1) n ∙ all_ext _ _ n (λ k l. let q : a + 1 + k ≡ a + (1 + k) = omega arith in ap p q))
    ∙ sym (ap (all_below (λ k. p (a + k))) e ∙ all_split (λ k. p (a + k)) 1 n)

pub each_listed : (p : ℕ → Bool) (n : ℕ) → list_all p (range_with_len 1 n) ≡ all_to p n
each_listed p n = all_listed p 1 n ∙ all_ext _ _ n (λ k l. let q : 1 + k ≡ k + 1 = omega arith in ap p q)

-- the first of n numbers from a on at which p holds
first_listed : (p : ℕ → Bool) (a n : ℕ) → find p (range_with_len a n) ≡ first_from p a n
unfolding first_from
first_listed p a zero = refl
first_listed p a (suc n) = go (p a) (first_listed p (a + 1) n)
  where
    go : (b : Bool) → find p (range_with_len (a + 1) n) ≡ first_from p (a + 1) n → cond b (Some a) (find p (range_with_len (a + 1) n)) ≡ pick b (Some a) (first_from p (suc a) n)
    go true h = refl
    go false h = h ∙ ap (λ (i : ℕ). first_from p i n) (add-one a)

pub found_listed : (p : ℕ → Bool) (a n : ℕ) (r : Option ℕ) → option_map (λ x. x) r ≡ find p (range_with_len a n) → r ≡ first_from p a n
found_listed p a n None e = e ∙ first_listed p a n
found_listed p a n (Some x) e = e ∙ first_listed p a n
