-- Chains over a range of numbers: a search of it, and what it counts.
use Rattle.std.specs.Prelude.{None, Option, Some}
use Prim.Native.Nat.{ℕ, zero, suc, ◌+◌, ◌-◌, ◌<◌}
use mathlib.Core.Path.{◌≡◌, refl, sym, ap, ap₂, ◌∙◌, subst}
use mathlib.Core.Bool.{Bool, true, false, cond}
use native.Mathlib.Numerals.{add-one}
use borrow.Author.Rules.{rules}
use Rattle.std.specs.List.{find, range_with_len, sum_by}
use Rattle.std.specs.Option.{option_map, IsSome}
use native.Mathlib.Omega.{arith}
use native.Mathlib.Decide.{dec_lt}
use denote.Param.Members.{Mut}
use lib.ListN.{length, get_or}
use lib.Seq.{ext_get_or}
use mathlib.Core.List.{List}
use Rattle.std.specs.Fn.{Called}
use Rattle.std.specs.Array.{IsFromFnResult, IsFromFnResultFrom}
use Rattle.bounded.specs.Table.{table}
use Rattle.bounded.proofs.TableLaws.{length_table, get_or_table}
use Rattle.std.specs.Int.{from_bool}
use Rattle.std.proofs.lemmas.List.Sums.{sum_by-cons}
use Rattle.bounded.specs.Search.{pick, first_from}
use Rattle.bounded.specs.Count.{one, count, count_to}
use Rattle.bounded.proofs.CountLaws.{count_zero, count_split, count_ext}

pub first_listed : (p : ℕ → Bool) (a n : ℕ) → find p (range_with_len a n) ≡ first_from p a n
unfolding first_from
first_listed p a zero = refl
first_listed p a (suc n) = go (p a) (first_listed p (a + 1) n)
  where
    go : (b : Bool) → find p (range_with_len (a + 1) n) ≡ first_from p (a + 1) n → cond b (Some a) (find p (range_with_len (a + 1) n)) ≡ pick b (Some a) (first_from p (suc a) n)
    go true h = refl
    go false h = h ∙ ap (λ (i : ℕ). first_from p i n) (add-one a)

-- what `find` answers
pub found_listed : (p : ℕ → Bool) (a n : ℕ) (r : Option ℕ) → option_map (λ x. x) r ≡ find p (range_with_len a n) → r ≡ first_from p a n
found_listed p a n None e = e ∙ first_listed p a n
found_listed p a n (Some x) e = e ∙ first_listed p a n

pub some_found : (r : Option ℕ) → (r ≡ None → ⊥) → IsSome r
some_found None h = absurd (h refl)
some_found (Some x) h = search rules

-- ---- a count: the sum of 1 for each number that passes
as_one : (b : Bool) → from_bool b ≡ one b
as_one true = refl
as_one false = refl

count_first : (p : ℕ → Bool) → count p 1 ≡ one (p 0)
unfolding count
count_first p = omega arith

pub sum_listed : (p : ℕ → Bool) (a n : ℕ) → sum_by (λ i. from_bool (p i)) (range_with_len a n) ≡ count (λ k. p (a + k)) n
sum_listed p a zero = count_zero (λ k. p (a + k))
sum_listed p a (suc n) =
    let z : a + 0 ≡ a = omega arith in
    let e : suc n ≡ 1 + n = omega arith in
    sum_by-cons (λ i. from_bool (p i)) a (range_with_len (a + 1) n)
    ∙ sym (ap (count (λ k. p (a + k))) e ∙ count_split (λ k. p (a + k)) 1 n
    ∙ ap₂ ◌+◌ (count_first (λ k. p (a + k)) ∙ ap (λ (i : ℕ). one (p i)) z ∙ sym (as_one (p a)))
    (count_ext _ _ n (λ k l. let q : a + (1 + k) ≡ a + 1 + k = omega arith in ap p q) ∙ sym (sum_listed p (a + 1) n)))

pub count_listed : (p : ℕ → Bool) (n : ℕ) → sum_by (λ i. from_bool (p i)) (range_with_len 1 n) ≡ count_to p n
count_listed p n = sum_listed p 1 n ∙ count_ext _ _ n (λ k l. let q : 1 + k ≡ k + 1 = omega arith in ap p q)

pub below_listed : (p : ℕ → Bool) (n : ℕ) → sum_by (λ i. from_bool (p i)) (range_with_len 0 n) ≡ count p n
below_listed p n = sum_listed p 0 n ∙ count_ext _ _ n (λ k l. let q : 0 + k ≡ k = omega arith in ap p q)

-- ---- an array made from the values of a function, by calls of a closure that stays as it is
module _ {F : Type 0} (g : Mut F (ℕ × Unit {0}) ℕ) (f : F) (h : ℕ → ℕ) (ys : List ℕ) (calls : (x r : ℕ) (q : F) → Called g f (x, tt) r q → (q ≡ f) × (r ≡ h x)) where
  made_at : (i n : ℕ) → IsFromFnResultFrom g f ys i n → (k : ℕ) → k < n → get_or ys (i + k) 0 ≡ h (i + k)
  made_at i zero m k l = absurd (omega arith)
  made_at i (suc n) m k l =
      let e = calls i m.1 m.0 m.3 in
      let rest = subst (λ (q : F). IsFromFnResultFrom g q ys (i + 1) n) e.0 m.4 in
      elim (dec_lt k 1) as (λ _. get_or ys (i + k) 0 ≡ h (i + k)) [
        | yes z ↦ let p : i + k ≡ i = omega arith in rw p (m.2.1 0 ∙ e.1)
        | no z ↦ let p : i + 1 + (k - 1) ≡ i + k = omega arith in rw p at (made_at (i + 1) n rest (k - 1) (omega arith))
      ]

  pub made_table : (n : ℕ) → IsFromFnResult g f ys n → ys ≡ table h n
  made_table n m = ext_get_or 0 ys (table h n) (m.long ∙ sym (length_table h n)) (λ k l. let e : n ≡ length ys = sym m.long in at n m.each k (omega arith))
    where
      at : (n : ℕ) → IsFromFnResultFrom g f ys 0 n → (k : ℕ) → k < n → get_or ys k 0 ≡ get_or (table h n) k 0
      at n e k l = let z : 0 + k ≡ k = omega arith in rw z at (made_at 0 n e k l) ∙ sym (get_or_table h n k l)
