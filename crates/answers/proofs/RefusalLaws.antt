-- The numbers of the refusals are those that are looked at, in the order of looking; none is 0, and each fits a byte.
use Rattle.std.specs.Prelude.{Result, Ok, Err}
use Prim.Native.Nat.{ℕ, ◌≤◌}
use mathlib.Core.Path.{◌≡◌, refl, sym, ap, ◌∙◌}
use Rattle.std.specs.Result.{IsErrAnd, result_eq}
use Rattle.answers.specs.contracts.RefusalPartialEq.TheImpl.{eq-value}
use Rattle.std.proofs.lemmas.Result.{err_from_is_err_and}
use mathlib.Core.Bool.{Bool, true, false, ◌&&◌}
use mathlib.Core.List.{List, [], ◌∷◌}
use native.Mathlib.Omega.{arith}
use borrow.Author.Tests.{eqb-true, ne_eqb}
use lib.Dec.{eqb, leb}
use lib.ListN.{get_or}
use denote.Enum.Bare.{same_true, true_same}
use mathlib.Core.Logic.{⊎_elim}
use Rattle.bounded.proofs.BoolLaws.{never, and_left, and_right, or_cases}
use Rattle.bounded.proofs.ReflectLaws.{r_and, r_le, r_eq, reflects_ext}
use Rattle.answers.specs.declared.Refusal.{Refusal}
use Rattle.answers.specs.contracts.Refusal.{the_type}
use Rattle.answers.specs.declared.Refusal.TheVariants.{BadBuffer, UnsoundStore, BadDesk, IllegalName, WrongInode, NameAbsent, NameTaken, NotEmpty, PastEnd, IntoItself, NoInode, NoBlocks, NoSlot, Busy, WrongState, ImageFull, BadCount, KindsDiffer, BadTurn, NoDate, BadTerms, AfterAsked, BadTimes}
use Rattle.answers.specs.Refusal.{refusal_number}
use Rattle.answers.specs.Told.{Answer, told}
use Rattle.answers.specs.Order.{order, looked_at, numbers, among}

-- a refusal is no answer
pub err_not_ok : {A : Type 0} (e : Refusal) (x : A) → ◌≡◌ {A = Result A Refusal} (Err e) (Ok x) → ⊥
err_not_ok e x h = let z : ◌≡◌ {A = ℕ} 0 1 = cc in absurd (omega arith)

-- the exit of a `?` whose error is a refusal already hands the refusal on
pub exit : {A : Type 0} (r : Result A Refusal) (e : Refusal) → IsErrAnd r (λ y. y ≡ e) → r ≡ Err e
exit r e h = let p = err_from_is_err_and r h in p.1 ∙ ap Err p.2

-- "looked at lowest first"; 17 "comes right after 1", 18 "comes after 10", and 21 and 26 are "looked at first", each by
-- its own call; 23 to 25 come after 1, "in that order"
pub looked_at_lem : numbers order ≡ looked_at
looked_at_lem = refl

pub known : (f : Refusal) → among looked_at (refusal_number f) ≡ true
known BadBuffer = refl
known UnsoundStore = refl
known BadDesk = refl
known IllegalName = refl
known WrongInode = refl
known NameAbsent = refl
known NameTaken = refl
known NotEmpty = refl
known PastEnd = refl
known IntoItself = refl
known NoInode = refl
known NoBlocks = refl
known NoSlot = refl
known Busy = refl
known WrongState = refl
known ImageFull = refl
known BadCount = refl
known KindsDiffer = refl
known BadTurn = refl
known NoDate = refl
known BadTerms = refl
known AfterAsked = refl
known BadTimes = refl

-- ---- the numbers of a list lie from 1 to 255
abbrev small : List ℕ → Bool
small [] = true
small (x ∷ xs) = (leb 1 x && leb x 255) && small xs

among_small : (xs : List ℕ) (k : ℕ) → small xs ≡ true → among xs k ≡ true → (1 ≤ k) × (k ≤ 255)
among_small [] k s h = never h
among_small (x ∷ xs) k s h =
    ⊎_elim (λ e. let r = (r_and (r_le 1 x) (r_le x 255)).to (and_left (leb 1 x && leb x 255) (small xs) s) in let q = eqb-true x k e in (omega arith, omega arith))
    (λ e. among_small xs k (and_right (leb 1 x && leb x 255) (small xs) s) e)
    (or_cases (eqb x k) (among xs k) h)

pub number_range : (f : Refusal) → (1 ≤ refusal_number f) × (refusal_number f ≤ 255)
number_range f = among_small looked_at (refusal_number f) refl (known f)

-- so none is 0, which stands for no refusal
pub not_none : (f : Refusal) → eqb (refusal_number f) 0 ≡ false
not_none f = let k = number_range f in ne_eqb (refusal_number f) 0 (λ e. omega arith)

-- ---- two refusals are one exactly if their numbers are
abbrev by_number : ℕ → Refusal
by_number k = get_or (BadBuffer ∷ BadBuffer ∷ UnsoundStore ∷ BadDesk ∷ IllegalName ∷ WrongInode ∷ NameAbsent ∷ NameTaken ∷ NotEmpty ∷ PastEnd ∷ IntoItself ∷ NoInode ∷ NoBlocks ∷ NoSlot ∷ Busy ∷ WrongState ∷ ImageFull ∷ BadCount ∷ KindsDiffer ∷ BadBuffer ∷ BadBuffer ∷ BadTurn ∷ BadBuffer ∷ NoDate ∷ BadTerms ∷ AfterAsked ∷ BadTimes ∷ []) k BadBuffer

by_number_lem : (f : Refusal) → by_number (refusal_number f) ≡ f
by_number_lem BadBuffer = refl
by_number_lem UnsoundStore = refl
by_number_lem BadDesk = refl
by_number_lem IllegalName = refl
by_number_lem WrongInode = refl
by_number_lem NameAbsent = refl
by_number_lem NameTaken = refl
by_number_lem NotEmpty = refl
by_number_lem PastEnd = refl
by_number_lem IntoItself = refl
by_number_lem NoInode = refl
by_number_lem NoBlocks = refl
by_number_lem NoSlot = refl
by_number_lem Busy = refl
by_number_lem WrongState = refl
by_number_lem ImageFull = refl
by_number_lem BadCount = refl
by_number_lem KindsDiffer = refl
by_number_lem BadTurn = refl
by_number_lem NoDate = refl
by_number_lem BadTerms = refl
by_number_lem AfterAsked = refl
by_number_lem BadTimes = refl

pub number_once : (f e : Refusal) → refusal_number f ≡ refusal_number e → f ≡ e
number_once f e h = sym (by_number_lem f) ∙ ap by_number h ∙ by_number_lem e

same_number : (f e : Refusal) → eq-value.it f e ≡ eqb (refusal_number f) (refusal_number e)
same_number f e =
    reflects_ext (record { to = same_true the_type tt f e; from = true_same the_type f e })
    (record { to = λ h. number_once f e (eqb-true _ _ h); from = λ h. (r_eq (refusal_number f) (refusal_number e)).from (ap refusal_number h) })

-- an answer is compared with a refusal by its number
pub is_refusal : (a : Answer) (e : Refusal) → result_eq eqb eq-value.it a (Err e) ≡ eqb (told a).number (refusal_number e)
is_refusal (Ok x) e = let k = number_range e in sym (ne_eqb 0 (refusal_number e) (λ h. omega arith))
is_refusal (Err f) e = same_number f e

pub is_taken : (a : Answer) → result_eq eqb eq-value.it a (Err NameTaken) ≡ eqb (told a).number (refusal_number NameTaken)
is_taken a = is_refusal a NameTaken
