-- The tests of a name as the code makes them: over the list of its bytes, or by the bytes themselves.
use Prim.Native.Nat.{ℕ, suc, ◌+◌, ◌<◌}
use mathlib.Core.Path.{◌≡◌, refl, sym, ap, ◌∙◌}
use mathlib.Core.Bool.{Bool, true, false, not, ◌&&◌}
use mathlib.Core.List.{List, [], ◌∷◌}
use native.Mathlib.Omega.{arith}
use lib.Dec.{eqb, leb}
use lib.ListN.{length, get_or}
use Rattle.std.specs.List.{list_all}
use Rattle.bounded.specs.Below.{all_below}
use Rattle.bounded.proofs.BelowLaws.{all_none, all_split, all_ext}
use Rattle.bounded.proofs.ReflectLaws.{r_fails}
use Rattle.names.proofs.NameLaws.{dots, one_dot, two_dots}
use Rattle.names.specs.Name.{name_bytes, slash, dot, plain_byte, is_dots, legal_name}

-- a test of every byte of a list, by place
test_one : (p : ℕ → Bool) → all_below p 1 ≡ p 0
unfolding all_below
test_one p = refl

pub all_listed : (p : ℕ → Bool) (s : List ℕ) → list_all p s ≡ all_below (λ k. p (get_or s k 0)) (length s)
all_listed p [] = sym (all_none (λ k. p (get_or [] k 0)))
all_listed p (x ∷ s) =
    let e : suc (length s) ≡ 1 + length s = omega arith in
    sym (ap (all_below (λ k. p (get_or (x ∷ s) k 0))) e ∙ all_split (λ k. p (get_or (x ∷ s) k 0)) 1 (length s)
    ∙ ap (λ (b : Bool). b && all_below (λ k. p (get_or (x ∷ s) (1 + k) 0)) (length s)) (test_one (λ k. p (get_or (x ∷ s) k 0)))
    ∙ ap (λ (b : Bool). p x && b) (all_ext _ _ (length s) (λ k l. let q : 1 + k ≡ suc k = omega arith in ap (λ (i : ℕ). p (get_or (x ∷ s) i 0)) q) ∙ sym (all_listed p s)))

-- a legal name, as the code tests it
pub legal_listed : (s : List ℕ) → legal_name s ≡ leb 1 (length s) && (leb (length s) name_bytes && (list_all (λ x. not (eqb x 0) && not (eqb x slash)) s && not (is_dots s)))
unfolding legal_name plain_byte
legal_listed s = ap (λ (b : Bool). leb 1 (length s) && (leb (length s) name_bytes && (b && not (is_dots s)))) (sym (all_listed (λ x. not (eqb x 0) && not (eqb x slash)) s))

-- "`.` or `..`", as the code reads it
module _ (s : List ℕ) where
  pub dots_one : length s ≡ 1 → get_or s 0 0 ≡ dot → is_dots s ≡ true
  dots_one h a = (dots s).from (one_dot s h a)

  pub dots_both : length s ≡ 2 → get_or s 0 0 ≡ dot → get_or s 1 0 ≡ dot → is_dots s ≡ true
  dots_both h a b = (dots s).from (two_dots s h a b)

  pub dots_long : 2 < length s → is_dots s ≡ false
  dots_long h = r_fails (dots s) (λ d. omega (arith, d.0))

  pub dots_other : (j : ℕ) → j < length s → (get_or s j 0 ≡ dot → ⊥) → is_dots s ≡ false
  dots_other j l h = r_fails (dots s) (λ d. h (d.1 j l))

pub ruleset dots_cases = (dots_one, dots_both, dots_long, dots_other)
