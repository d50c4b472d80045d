-- The numbers of a list that are chosen: where each stands, and choosing twice.
use Prim.Native.Nat.{ℕ, zero, suc, ◌<◌}
use mathlib.Core.Path.{◌≡◌, refl, ap, ap₂}
use mathlib.Core.Bool.{Bool, true, false}
use mathlib.Core.List.{List, [], ◌∷◌}
use native.Mathlib.Omega.{arith}
use lib.ListN.{length, get_or}
use Rattle.bounded.specs.Search.{pick}
use Rattle.bounded.proofs.BoolLaws.{clash, fails}
use Rattle.keeping.specs.Claims.{chosen}

-- the place in the whole list of the number that stands at place i among those chosen
abbrev past : Bool → (ℕ → ℕ) → ℕ → ℕ
past true f zero = 0
past true f (suc i) = suc (f i)
past false f i = suc (f i)

unfoldable pub place : (ℕ → Bool) → List ℕ → ℕ → ℕ
place p [] i = i
place p (x ∷ xs) i = past (p 0) (place (λ k. p (suc k)) xs) i

pub record Places (p : ℕ → Bool) (l part : List ℕ) (at : ℕ → ℕ) : Type 0 where
  pub below : (i : ℕ) → i < length part → at i < length l
  pub holds : (i : ℕ) → i < length part → p (at i) ≡ true
  pub same : (i : ℕ) → i < length part → get_or part i 0 ≡ get_or l (at i) 0
  pub rises : (i j : ℕ) → i < j → j < length part → at i < at j
  pub back : (k : ℕ) → k < length l → p k ≡ true → (i : ℕ) × (i < length part) × (at i ≡ k)

-- one number more in front, chosen or not
one_chosen : (p : ℕ → Bool) (x : ℕ) (l part : List ℕ) (at : ℕ → ℕ) → p 0 ≡ true → Places (λ k. p (suc k)) l part at → Places p (x ∷ l) (x ∷ part) (past true at)
one_chosen p x l part at e s = record { below = below; holds = holds; same = same; rises = rises; back = back }
  where
    below : (i : ℕ) → i < length (x ∷ part) → past true at i < length (x ∷ l)
    below zero h = omega arith
    below (suc i) h = let w = s.below i (omega arith) in omega arith

    holds : (i : ℕ) → i < length (x ∷ part) → p (past true at i) ≡ true
    holds zero h = e
    holds (suc i) h = s.holds i (omega arith)

    same : (i : ℕ) → i < length (x ∷ part) → get_or (x ∷ part) i 0 ≡ get_or (x ∷ l) (past true at i) 0
    same zero h = refl
    same (suc i) h = s.same i (omega arith)

    rises : (i j : ℕ) → i < j → j < length (x ∷ part) → past true at i < past true at j
    rises i zero h k = absurd (omega arith)
    rises zero (suc j) h k = omega arith
    rises (suc i) (suc j) h k = let w = s.rises i j (omega arith) (omega arith) in omega arith

    back : (k : ℕ) → k < length (x ∷ l) → p k ≡ true → (i : ℕ) × (i < length (x ∷ part)) × (past true at i ≡ k)
    back zero h t = (0, omega arith, refl)
    back (suc k) h t = let w = s.back k (omega arith) t in let m = w.1 in (suc w.0, omega arith, ap suc w.2)

one_left : (p : ℕ → Bool) (x : ℕ) (l part : List ℕ) (at : ℕ → ℕ) → p 0 ≡ false → Places (λ k. p (suc k)) l part at → Places p (x ∷ l) part (past false at)
one_left p x l part at e s = record {
  below = λ i h. let w = s.below i h in omega arith;
  holds = s.holds;
  same = s.same;
  rises = λ i j h k. let w = s.rises i j h k in omega arith;
  back = back;
}
  where
    back : (k : ℕ) → k < length (x ∷ l) → p k ≡ true → (i : ℕ) × (i < length part) × (past false at i ≡ k)
    back zero h t = absurd (clash (p 0) t e)
    back (suc k) h t = let w = s.back k (omega arith) t in (w.0, w.1, ap suc w.2)

pub places : (p : ℕ → Bool) (l : List ℕ) → Places p l (chosen p l) (place p l)
unfolding chosen place
places p [] = record {
  below = λ i h. absurd (omega arith);
  holds = λ i h. absurd (omega arith);
  same = λ i h. absurd (omega arith);
  rises = λ i j h k. absurd (omega arith);
  back = λ k h t. absurd (omega arith);
}
places p (x ∷ xs) = go (p 0) refl (places (λ k. p (suc k)) xs)
  where
    rest : List ℕ
    rest = chosen (λ k. p (suc k)) xs

    at : ℕ → ℕ
    at = place (λ k. p (suc k)) xs

    go : (b : Bool) → p 0 ≡ b → Places (λ k. p (suc k)) xs rest at → Places p (x ∷ xs) (pick b (x ∷ rest) rest) (past b at)
    go true e r = one_chosen p x xs rest at e r
    go false e r = one_left p x xs rest at e r

-- choosing by r from what q chose is choosing by p, where r says the same of each and q chose all of them
pub chosen_twice : (q p r : ℕ → Bool) (l : List ℕ) → ((i : ℕ) → i < length (chosen q l) → r i ≡ p (place q l i)) → ((k : ℕ) → k < length l → p k ≡ true → q k ≡ true)
    → chosen r (chosen q l) ≡ chosen p l
unfolding chosen place
chosen_twice q p r [] h g = refl
chosen_twice q p r (x ∷ xs) h g = go (q 0) refl h (λ f m. chosen_twice (λ k. q (suc k)) (λ k. p (suc k)) f xs m (λ k l t. g (suc k) (omega arith) t))
  where
    rest : List ℕ
    rest = chosen (λ k. q (suc k)) xs

    at : ℕ → ℕ
    at = place (λ k. q (suc k)) xs

    go : (b : Bool) → q 0 ≡ b → ((i : ℕ) → i < length (pick b (x ∷ rest) rest) → r i ≡ p (past b at i))
        → ((f : ℕ → Bool) → ((i : ℕ) → i < length rest → f i ≡ p (suc (at i))) → chosen f rest ≡ chosen (λ k. p (suc k)) xs)
        → chosen r (pick b (x ∷ rest) rest) ≡ pick (p 0) (x ∷ chosen (λ k. p (suc k)) xs) (chosen (λ k. p (suc k)) xs)
    go true e m rec = ap₂ (λ (b : Bool) (l : List ℕ). pick b (x ∷ l) l) (m 0 (omega arith)) (rec (λ k. r (suc k)) (λ i k. m (suc i) (omega arith)))
    go false e m rec = rw (fails (p 0) (λ t. clash (q 0) (g 0 (omega arith) t) e)) (rec r m)
