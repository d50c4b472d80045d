-- A property of every element of a list, and of one.
use mathlib.Core.Logic.{◌⊎◌, inl, inr}
use mathlib.Core.List.{List, [], ◌∷◌, ◌++◌}

-- P holds of every one of the list
abbrev pub All : {A : Type 0} → (A → Type 0) → List A → Type 0
All P [] = Unit {0}
All P (x ∷ xs) = P x × All P xs

-- P holds of one of the list
abbrev pub Some : {A : Type 0} → (A → Type 0) → List A → Type 0
Some P [] = ⊥
Some P (x ∷ xs) = P x ⊎ Some P xs

pub all_map : {A : Type 0} (P Q : A → Type 0) (xs : List A) → ((x : A) → P x → Q x) → All P xs → All Q xs
all_map P Q [] f a = tt
all_map P Q (x ∷ xs) f a = (f x a.0, all_map P Q xs f a.1)

pub all_both : {A : Type 0} (P Q : A → Type 0) (xs : List A) → All P xs → All Q xs → All (λ x. P x × Q x) xs
all_both P Q [] a b = tt
all_both P Q (x ∷ xs) a b = ((a.0, b.0), all_both P Q xs a.1 b.1)

-- of two lists in one
pub all_append : {A : Type 0} (P : A → Type 0) (xs ys : List A) → All P xs → All P ys → All P (xs ++ ys)
all_append P [] ys a b = b
all_append P (x ∷ xs) ys a b = (a.0, all_append P xs ys a.1 b)

pub all_split : {A : Type 0} (P : A → Type 0) (xs ys : List A) → All P (xs ++ ys) → All P xs × All P ys
all_split P [] ys a = (tt, a)
all_split P (x ∷ xs) ys a = let r = all_split P xs ys a.1 in ((a.0, r.0), r.1)

-- of every pair
pub all_swap : {A B : Type 0} (R : A → B → Type 0) (xs : List A) (ys : List B) → All (λ x. All (R x) ys) xs → All (λ y. All (λ x. R x y) xs) ys
all_swap R xs [] a = tt
all_swap R xs (y ∷ ys) a = (all_map _ _ xs (λ x r. r.0) a, all_swap R xs ys (all_map _ _ xs (λ x r. r.1) a))

pub some_map : {A : Type 0} (P Q : A → Type 0) (xs : List A) → ((x : A) → P x → Q x) → Some P xs → Some Q xs
some_map P Q [] f h = elim h [ ]
some_map P Q (x ∷ xs) f (inl p) = inl (f x p)
some_map P Q (x ∷ xs) f (inr p) = inr (some_map P Q xs f p)

pub some_none : {A : Type 0} (P : A → Type 0) (xs : List A) → ((x : A) → P x → ⊥) → Some P xs → ⊥
some_none P [] f h = elim h [ ]
some_none P (x ∷ xs) f (inl p) = f x p
some_none P (x ∷ xs) f (inr p) = some_none P xs f p

pub some_get : {A : Type 0} (P : A → Type 0) (xs : List A) → Some P xs → (x : A) × P x
some_get P [] h = elim h [ ]
some_get P (x ∷ xs) (inl p) = (x, p)
some_get P (x ∷ xs) (inr p) = some_get P xs p
