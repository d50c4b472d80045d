-- Worked examples of the call, computed by its definition: the day asked, the terms, the copies, and a
-- flag for each copy; or the refusal.
use Prim.Native.Nat.{ℕ}
use mathlib.Core.Bool.{Bool, true, false, ◌&&◌}
use mathlib.Core.List.{List, [], ◌∷◌}
use lib.Dec.{T, eqb}
use lib.ListN.{length, get_or, replicate}
use Rattle.bounded.specs.Below.{all_below, some_below}
use Rattle.bounded.specs.Count.{count}
use Rattle.bounded.specs.Sum.{sum}
use Rattle.bounded.specs.Table.{table}
use Rattle.octets.specs.Octets.{splice}
use Rattle.calendar.specs.Gregorian.{month_length}
use Rattle.keeping.specs.Keeping.{last_of_week, last_of_term, keeps}
use Rattle.keeping.specs.Call.{all_dates, in_days, wrong_terms, after_asked, flags, keep_call}

same : List ℕ → List ℕ → Bool
same [] [] = true
same [] (y ∷ ys) = false
same (x ∷ xs) [] = false
same (x ∷ xs) (y ∷ ys) = eqb x y && same xs ys

ones : List ℕ → ℕ
ones l = count (λ i. eqb (get_or l i 0) 1) (length l)

-- the list lent holds 9s
answers : ℕ → List ℕ → List ℕ → List ℕ → Bool
answers asked terms copies fs =
    let r = keep_call copies terms asked (replicate (length copies) 9) in
    same r.out fs && (eqb r.answer.number 0 && same r.answer.values (ones fs ∷ []))

refuses : ℕ → List ℕ → List ℕ → ℕ → Bool
refuses asked terms copies n =
    let r = keep_call copies terms asked (replicate (length copies) 9) in
    same r.out (replicate (length copies) 9) && eqb r.answer.number n

examples : T (
    -- 13 and 14 days old
    answers 20240301 [] (20240301 ∷ 20240217 ∷ 20240216 ∷ []) (1 ∷ 1 ∷ 0 ∷ [])
    -- 56 days after the term
    && answers 20240215 (20230904 ∷ 20231221 ∷ []) (20231214 ∷ 20231217 ∷ 20231220 ∷ []) (0 ∷ 1 ∷ 1 ∷ [])
    -- 57 days after it
    && answers 20240216 (20230904 ∷ 20231221 ∷ []) (20231214 ∷ 20231217 ∷ 20231220 ∷ []) (0 ∷ 0 ∷ 1 ∷ [])
    -- weeks end on Sunday
    && answers 20240102 (20230904 ∷ 20231221 ∷ 20240108 ∷ 20240328 ∷ []) (20231009 ∷ 20231015 ∷ 20231016 ∷ 20231022 ∷ 20231023 ∷ []) (0 ∷ 1 ∷ 0 ∷ 1 ∷ 1 ∷ [])
    -- a week over the border of two terms
    && answers 20231214 (20230904 ∷ 20231018 ∷ 20231019 ∷ 20231221 ∷ []) (20231022 ∷ 20231019 ∷ 20231018 ∷ 20231016 ∷ []) (1 ∷ 0 ∷ 1 ∷ 0 ∷ [])
    -- the last copy of a term, for ever
    && answers 20491231 (20230904 ∷ 20231221 ∷ 20240108 ∷ 20240328 ∷ []) (20230905 ∷ 20231220 ∷ []) (0 ∷ 1 ∷ [])
    -- 14 days old, and one of 13 in the same week
    && answers 20240228 (20230904 ∷ 20231221 ∷ 20240108 ∷ 20240328 ∷ []) (20240214 ∷ 20240215 ∷ []) (0 ∷ 1 ∷ [])
    -- several on one date
    && answers 20240228 (20230904 ∷ 20231221 ∷ 20240108 ∷ 20240328 ∷ []) (20240228 ∷ 20240228 ∷ 20240228 ∷ []) (0 ∷ 0 ∷ 1 ∷ [])
    -- in no term
    && answers 20240228 (20230904 ∷ 20231221 ∷ 20240108 ∷ 20240328 ∷ []) (20230801 ∷ 20231228 ∷ 20240102 ∷ []) (0 ∷ 0 ∷ 0 ∷ [])
    -- the last day of all
    && answers 20491231 (20490906 ∷ 20491231 ∷ []) (20491231 ∷ 20491218 ∷ 20491217 ∷ []) (1 ∷ 1 ∷ 0 ∷ [])
    -- no 29 February
    && refuses 20491231 [] (20230229 ∷ []) 23
    -- 23 before 24
    && refuses 20240101 (20230502 ∷ 20230501 ∷ []) (20230229 ∷ []) 23
    -- a day shared
    && refuses 20240101 (20230101 ∷ 20230201 ∷ 20230201 ∷ 20230228 ∷ []) [] 24
    -- 24 before 25
    && refuses 20240101 (20230502 ∷ 20230501 ∷ []) (20240102 ∷ []) 24
    -- after the day asked
    && refuses 20240101 [] (20240102 ∷ []) 25)
unfolding all_below some_below count sum table splice month_length last_of_week last_of_term keeps all_dates in_days wrong_terms after_asked flags keep_call same ones answers refuses
examples = tt
