-- "looked at lowest first, when and only when the condition holds for that call": conditions in a table, and the order in which refusals are looked at.
use Rattle.std.specs.Prelude.{ℕ, suc, Bool, true, false, ◌&&◌, ◌||◌, List, [], ◌∷◌, eqb, ltb}
use Rattle.bounded.specs.Search.{pick}
use Rattle.answers.specs.declared.Refusal.{Refusal}
use Rattle.answers.specs.declared.Refusal.TheVariants.{BadBuffer, UnsoundStore, BadDesk, IllegalName, WrongInode, NameAbsent, NameTaken, NotEmpty, PastEnd, IntoItself, NoInode, NoBlocks, NoSlot, Busy, WrongState, ImageFull, BadCount, KindsDiffer, BadTurn, NoDate, BadTerms, AfterAsked, BadTimes}
use Rattle.answers.specs.Refusal.{refusal_number}

-- a condition, and its refusal
pub record Row : Type 0 where
  pub holds : Bool
  pub refusal : Refusal

abbrev pub row : Bool → Refusal → Row
row b e = record { holds = b; refusal = e }

-- what f makes of the refusal of the first condition that holds, else a
abbrev pub first_by : {A : Type 0} → (Refusal → A) → List Row → A → A
first_by f [] a = a
first_by f (r ∷ rs) a = pick r.holds (f r.refusal) (first_by f rs a)

-- ---- the order: a list of its own, since it does not follow from the numbers; its numbers are `looked_at`, by the law `looked_at_lem`
abbrev pub order : List Refusal
order =
    BadTurn ∷ BadTimes ∷ BadBuffer ∷ BadCount ∷ UnsoundStore ∷ BadDesk ∷ IllegalName ∷ WrongInode ∷ NameAbsent ∷ NameTaken
    ∷ NotEmpty ∷ PastEnd ∷ IntoItself ∷ KindsDiffer ∷ NoInode ∷ NoBlocks ∷ NoSlot ∷ Busy ∷ WrongState ∷ ImageFull
    ∷ NoDate ∷ BadTerms ∷ AfterAsked ∷ []

-- the same by the paper's numbers: "looked at lowest first"; 17 "comes right after 1", 18 "comes after
-- 10", and 21 and 26 are "looked at first", each by the one call that has it; 23, 24 and 25, which one
-- call has, come after 1, "in that order"
abbrev pub looked_at : List ℕ
looked_at = 21 ∷ 26 ∷ 1 ∷ 17 ∷ 2 ∷ 3 ∷ 4 ∷ 5 ∷ 6 ∷ 7 ∷ 8 ∷ 9 ∷ 10 ∷ 18 ∷ 11 ∷ 12 ∷ 13 ∷ 14 ∷ 15 ∷ 16 ∷ 23 ∷ 24 ∷ 25 ∷ []

abbrev pub numbers : List Refusal → List ℕ
numbers [] = []
numbers (e ∷ es) = refusal_number e ∷ numbers es

-- k is one of them
abbrev pub among : List ℕ → ℕ → Bool
among [] k = false
among (x ∷ xs) k = eqb x k || among xs k

-- where the refusal of number k stands in a list that has it, counted from 1
abbrev pub rank_in : List Refusal → ℕ → ℕ
rank_in [] k = 0
rank_in (e ∷ es) k = pick (eqb (refusal_number e) k) 1 (suc (rank_in es k))

abbrev pub rank : Refusal → ℕ
rank e = rank_in order (refusal_number e)

-- the rows stand in that order, from after rank k on
abbrev pub is_in_order : ℕ → List Row → Bool
is_in_order k [] = true
is_in_order k (r ∷ rs) = ltb k (rank r.refusal) && is_in_order (rank r.refusal) rs
