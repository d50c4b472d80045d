-- What `all` over the numbers below n answers, as a test of each of them.
use Rattle.std.proofs.Common.{◌≡◌, ℕ, ◌<◌, Bool, true, false, Option, sym, subst, arith, get_or, length}
use Rattle.std.specs.declared.ops.Range.{Range}
use Rattle.std.specs.Bool.{MatchBool}
use Rattle.std.specs.Fn.{Called}
use Rattle.std.specs.Iterator.{YieldsThen}
use Rattle.std.specs.List.{FoldsTo, range_with_len, AllWithin, HoldsAt}
use Rattle.std.specs.Option.{MatchOption}
use denote.Param.Members.{Mut}
use mathlib.Core.List.{List}
use Rattle.std.proofs.iter.Yields.{nat_range_steps}
use Rattle.std.proofs.lemmas.Iterator.{cases_from_all, YieldsList-from_range}
use Rattle.std.proofs.lemmas.List.FromFn.{length-range_with_len, get_or-range_with_len}
use Rattle.bounded.specs.Below.{all_below}
use Rattle.bounded.proofs.BelowLaws.{all_of, all_stop}

-- the closure answers p at each number below n, and changes nothing
pub all_range : {F : Type 0} {g : Mut F (ℕ × Unit {0}) Bool} (p : ℕ → Bool) (n : ℕ) (s u : Range ℕ) (f : F) (r : Bool) →
    s ≡ record { start = 0; end = n } →
    (xs : List ℕ) × (o : Option ℕ) × (j : F) × YieldsThen nat_range_steps s xs o u × FoldsTo (λ p x q. Called g p (x, tt) true q) f xs j × MatchOption o (r ≡ true) (λ x. (r ≡ false) × ((h : F) × Called g j (x, tt) false h)) →
    ((x : ℕ) (b : Bool) (q : F) → Called g f (x, tt) b q → (q ≡ f) × (x < n → b ≡ p x)) → r ≡ all_below p n
all_range {F} {g} p n s u f r e ran each =
    go r
    (cases_from_all u f r (λ x. x < n → p x ≡ true) (λ x. x < n → p x ≡ false) ran (YieldsList-from_range 0 n n e (omega arith))
    (λ x q k. let h = each x true q k in (h.0, λ l. sym (h.1 l)))
    (λ x q k l. sym ((each x false q k).1 l)))
  where
    at : (k : ℕ) → k < n → get_or (range_with_len 0 n) k 0 ≡ k
    at k l = let z = get_or-range_with_len 0 n k 0 l in omega arith

    go : (b : Bool) → MatchBool b (AllWithin (λ x. x < n → p x ≡ true) (range_with_len 0 n) 0 (length (range_with_len 0 n))) ((k : ℕ) × (k < length (range_with_len 0 n)) × HoldsAt (λ x. x < n → p x ≡ false) (range_with_len 0 n) k) → b ≡ all_below p n
    go true h = sym (all_of p n (λ k l. let z = length-range_with_len 0 n in let v = h k 0 (omega arith) (omega arith) in subst (λ (x : ℕ). x < n → p x ≡ true) (at k l) v l))
    go false h = let z = length-range_with_len 0 n in let l : h.0 < n = omega arith in sym (all_stop p n h.0 l (subst (λ (x : ℕ). x < n → p x ≡ false) (at h.0 l) (h.2 0) l))
