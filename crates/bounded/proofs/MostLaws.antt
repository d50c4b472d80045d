-- The largest value: what a loop keeps, and what it tells of all.
use Prim.Native.Nat.{ℕ, zero, suc, ◌+◌, max}
use mathlib.Core.Path.{◌≡◌, refl, ap, ◌∙◌}
use mathlib.Core.Bool.{Bool, ◌&&◌}
use native.Mathlib.Omega.{arith}
use borrow.Author.Tests.{le-leb}
use lib.Dec.{leb}
use Rattle.bounded.specs.Below.{all_below}
use Rattle.bounded.specs.Most.{most}
use Rattle.bounded.proofs.ReflectLaws.{r_le, r_and, r_says, reflects_ext}

module _ (f : ℕ → ℕ) where
  pub most_none : 0 ≡ most f 0
  unfolding most
  most_none = refl

  pub most_more : (n a m : ℕ) → m ≡ most f n → a ≡ f n → max m a ≡ most f (n + 1)
  unfolding most
  most_more n a m e g = let k : n + 1 ≡ suc n = omega arith in rw (k, e, g)

  both : (a b c : ℕ) → leb (max a b) c ≡ leb a c && leb b c
  both a b c =
      reflects_ext (r_le (max a b) c)
      (r_says (λ t. let x = t.0 in let y = t.1 in omega arith) (λ h. (omega arith, omega arith)) (r_and (r_le a c) (r_le b c)))

  -- the largest is at most b exactly if all are
  pub most_within : (n b : ℕ) → leb (most f n) b ≡ all_below (λ x. leb (f x) b) n
  unfolding most all_below
  most_within zero b = le-leb 0 b (omega arith)
  most_within (suc n) b = both (most f n) (f n) b ∙ ap (λ (t : Bool). t && leb (f n) b) (most_within n b)
