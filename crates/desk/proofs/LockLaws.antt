-- Laws of locks_any: one of the inodes is the locked one.
use mathlib.Core.Path.{◌≡◌, refl, sym, ap, ◌∙◌}
use mathlib.Core.Bool.{Bool, true, false, ◌&&◌, ◌||◌}
use mathlib.Core.List.{List, [], ◌∷◌}
use Prim.Native.Nat.{ℕ}
use lib.Dec.{eqb}
use Rattle.std.specs.List.{list_any}
use Rattle.bounded.proofs.BoolLaws.{and_false_l, and_false_r}
use Rattle.bounded.proofs.ReflectLaws.{r_eq, r_says, reflects_ext}
use Rattle.desk.specs.declared.Desk.{Desk}
use Rattle.desk.specs.Next.{runs, locks, locks_any}

spread : (r a b : Bool) → (r && a) || (r && b) ≡ r && (a || b)
spread true a b = refl
spread false a b = refl

swap : (a b : ℕ) → eqb a b ≡ eqb b a
swap a b = reflects_ext (r_eq a b) (r_says sym sym (r_eq b a))

pub locks_listed : (h : Desk) (is : List ℕ) → locks_any h is ≡ runs h && list_any (λ i. eqb i h.locked) is
unfolding locks_any
locks_listed h [] = sym (and_false_r (runs h) false refl)
locks_listed h (i ∷ is) =
    let later = list_any (λ i. eqb i h.locked) is in
    ap (λ (x : Bool). locks h i || x) (locks_listed h is)
    ∙ spread (runs h) (eqb h.locked i) later
    ∙ ap (λ (b : Bool). runs h && (b || later)) (swap h.locked i)

-- no copy runs: nothing is locked
pub locks_none : (h : Desk) (is : List ℕ) → runs h ≡ false → locks_any h is ≡ false
locks_none h is e = locks_listed h is ∙ and_false_l (runs h) _ e
