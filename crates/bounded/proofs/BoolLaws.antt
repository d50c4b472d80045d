-- Conjunctions, disjunctions and chains of tests.
use mathlib.Core.Path.{◌≡◌, refl, sym, ap, ap₂, ◌∙◌}
use mathlib.Core.Bool.{Bool, true, false, not, ◌&&◌, ◌||◌}
use mathlib.Core.Logic.{◌⊎◌, inl, inr}
use Prim.Native.Nat.{ℕ}
use native.Mathlib.Omega.{arith}
use borrow.Author.Tests.{not-true, not-false}

-- a test does not both hold and fail
pub clash : (a : Bool) → a ≡ true → a ≡ false → ⊥
clash a p q = let w : ◌≡◌ {A = ℕ} 0 1 = cc in omega arith

pub never : {A : Type 0} → false ≡ true → A
never e = absurd (clash false e refl)

-- a test holds or fails
pub holds_or_fails : (a : Bool) → (a ≡ true) ⊎ (a ≡ false)
holds_or_fails true = inl refl
holds_or_fails false = inr refl

-- a test that does not hold fails, and one that does not fail holds
pub fails : (a : Bool) → (a ≡ true → ⊥) → a ≡ false
fails true h = absurd (h refl)
fails false h = refl

pub holds : (a : Bool) → (a ≡ false → ⊥) → a ≡ true
holds true h = refl
holds false h = absurd (h refl)

-- tests that hold at the same time are equal
pub same_test : (a b : Bool) → (a ≡ true → b ≡ true) → (b ≡ true → a ≡ true) → a ≡ b
same_test true b f g = sym (f refl)
same_test false b f g = sym (fails b (λ e. clash false (g e) refl))

pub and-true : (a b : Bool) → a ≡ true → b ≡ true → a && b ≡ true
and-true a b p q = ap₂ ◌&&◌ p q

pub and_left : (a b : Bool) → a && b ≡ true → a ≡ true
and_left true b e = refl
and_left false b e = e

pub and_right : (a b : Bool) → a && b ≡ true → b ≡ true
and_right true b e = e
and_right false true e = refl
and_right false false e = e

pub and_false_l : (a b : Bool) → a ≡ false → a && b ≡ false
and_false_l a b e = ap (λ (x : Bool). x && b) e

pub and_false_r : (a b : Bool) → b ≡ false → a && b ≡ false
and_false_r true b e = e
and_false_r false b e = refl

pub and_cases : (a b : Bool) → a && b ≡ false → (a ≡ false) ⊎ (b ≡ false)
and_cases true b e = inr e
and_cases false b e = inl refl

pub or_l : (a b : Bool) → a ≡ true → a || b ≡ true
or_l a b e = ap (λ (x : Bool). x || b) e

pub or_r : (a b : Bool) → b ≡ true → a || b ≡ true
or_r true b e = refl
or_r false b e = e

pub or_right : (a b : Bool) → a ≡ false → a || b ≡ true → b ≡ true
or_right true b e h = absurd (clash true refl e)
or_right false b e h = h

pub or_cases : (a b : Bool) → a || b ≡ true → (a ≡ true) ⊎ (b ≡ true)
or_cases true b e = inl refl
or_cases false b e = inr e

-- a chain `if !a(..) { return false; } b(..)`, where r is what a(..) answered
pub chain_stop : (r a b : Bool) → r ≡ a → not r ≡ true → false ≡ a && b
chain_stop r a b e t = sym (and_false_l a b (sym e ∙ not-true r t))

pub chain_on : (r a : Bool) → r ≡ a → not r ≡ false → a ≡ true
chain_on r a e t = sym e ∙ not-false r t

pub chain_off : (r a : Bool) → r ≡ a → not r ≡ true → a ≡ false
chain_off r a e t = sym e ∙ not-true r t

pub chain_end : (x a b : Bool) → a ≡ true → x ≡ b → x ≡ a && b
chain_end x a b h e = e ∙ sym (ap (λ (y : Bool). y && b) h)

pub or_false_l : (a b : Bool) → a || b ≡ false → a ≡ false
or_false_l true b e = e
or_false_l false b e = refl

pub or_false_r : (a b : Bool) → a || b ≡ false → b ≡ false
or_false_r true b e = absurd (clash true refl e)
or_false_r false b e = e

-- the end of a test whose first part fails
pub or_end : (x a b : Bool) → a ≡ false → x ≡ b → x ≡ a || b
or_end x a b h e = e ∙ sym (ap (λ (y : Bool). y || b) h)

-- where x fails whenever a does, its failure is all that `a implies not x` says
pub or_weaker : (a x : Bool) → (a ≡ false → x ≡ false) → not x ≡ not a || not x
or_weaker true x h = refl
or_weaker false x h = ap not (h refl)
