-- Numbers laid over a function.
use mathlib.Core.Path.{◌≡◌, sym, ap, ◌∙◌, fun_ext}
use mathlib.Core.Bool.{Bool, ◌&&◌}
use mathlib.Core.List.{List}
use Prim.Native.Nat.{ℕ, ◌+◌, ◌-◌, ◌≤◌, ◌<◌}
use native.Mathlib.Decide.{dec_lt}
use native.Mathlib.Omega.{arith}
use borrow.Author.Tests.{lt-ltb, le-ltb, le-leb, lt-leb}
use lib.Dec.{leb, ltb}
use lib.ListN.{length, get_or}
use Rattle.bounded.specs.Search.{pick}
use Rattle.bounded.proofs.BoolLaws.{and-true, and_false_l, and_false_r}
use Rattle.octets.specs.Octets.{Apart}
use Rattle.octets.proofs.PartLaws.{is_inside}

-- f with the numbers xs from o on
unfoldable pub overlay : (ℕ → ℕ) → ℕ → List ℕ → ℕ → ℕ
overlay f o xs x = pick (leb o x && ltb x (o + length xs)) (get_or xs (x - o) 0) (f x)

pub overlay_in : (f : ℕ → ℕ) (o : ℕ) (xs : List ℕ) (x : ℕ) → o ≤ x → x < o + length xs → overlay f o xs x ≡ get_or xs (x - o) 0
unfolding overlay
overlay_in f o xs x l h =
    ap (λ (b : Bool). pick b (get_or xs (x - o) 0) (f x)) (and-true (leb o x) (ltb x (o + length xs)) (le-leb o x l) (lt-ltb x (o + length xs) h))

pub overlay_out : (f : ℕ → ℕ) (o : ℕ) (xs : List ℕ) (x : ℕ) → Apart x 1 o (length xs) → overlay f o xs x ≡ f x
unfolding overlay
overlay_out f o xs x h = go (dec_lt x o) (dec_lt x (o + length xs))
  where
    go : Dec (x < o) → Dec (x < o + length xs) → overlay f o xs x ≡ f x
    go (yes l) d = ap (λ (b : Bool). pick b (get_or xs (x - o) 0) (f x)) (and_false_l (leb o x) (ltb x (o + length xs)) (lt-leb o x l))
    go (no l) (no m) = ap (λ (b : Bool). pick b (get_or xs (x - o) 0) (f x)) (and_false_r (leb o x) (ltb x (o + length xs)) (le-ltb x (o + length xs) (omega arith)))
    go (no l) (yes m) = absurd (omega arith)

pub is_overlay : (f g : ℕ → ℕ) (o : ℕ) (xs : List ℕ) → ((j : ℕ) → j < length xs → g (o + j) ≡ get_or xs j 0) → ((x : ℕ) → Apart x 1 o (length xs) → g x ≡ f x) → g ≡ overlay f o xs
is_overlay f g o xs h k =
    fun_ext (λ x. is_inside o (length xs) x
    (λ l m. let e : x ≡ o + (x - o) = omega arith in ap g e ∙ h (x - o) (omega arith) ∙ sym (overlay_in f o xs x l m))
    (λ a. k x a ∙ sym (overlay_out f o xs x a)))
