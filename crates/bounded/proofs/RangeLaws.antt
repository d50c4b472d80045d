-- Functions cut to a range, and 0 outside of it.
use mathlib.Core.Path.{◌≡◌, sym, ap, ◌∙◌, fun_ext}
use mathlib.Core.Bool.{Bool, ◌&&◌}
use mathlib.Core.Logic.{◌≢◌}
use Prim.Native.Nat.{ℕ, ◌≤◌, ◌<◌}
use native.Mathlib.Decide.{ℕ_discrete, dec_lt}
use native.Mathlib.Omega.{arith}
use borrow.Author.Tests.{lt-ltb, le-ltb, le-leb, lt-leb}
use lib.Dec.{leb, ltb}
use Rattle.bounded.specs.Search.{pick}
use Rattle.bounded.specs.Update.{upd, Changed, here, there}
use Rattle.bounded.proofs.CaseLaws.{in_range, is_below}
use Rattle.bounded.proofs.BoolLaws.{and-true, and_false_l, and_false_r}
use Rattle.bounded.proofs.UpdateLaws.{ElseTo, ElseBelow, changed_upd}

-- f from 1 to n, else 0
unfoldable pub within : ℕ → (ℕ → ℕ) → ℕ → ℕ
within n f i = pick (leb 1 i && leb i n) (f i) 0

-- f below m, else 0
unfoldable pub below : ℕ → (ℕ → ℕ) → ℕ → ℕ
below m f x = pick (ltb x m) (f x) 0

pub within_in : (n : ℕ) (f : ℕ → ℕ) (i : ℕ) → 1 ≤ i → i ≤ n → within n f i ≡ f i
unfolding within
within_in n f i l h = ap (λ (b : Bool). pick b (f i) 0) (and-true (leb 1 i) (leb i n) (le-leb 1 i l) (le-leb i n h))

pub within_out : (n : ℕ) (f : ℕ → ℕ) (i : ℕ) → (1 ≤ i → i ≤ n → ⊥) → within n f i ≡ 0
unfolding within
within_out n f i h = go (dec_lt i 1) (dec_lt n i)
  where
    go : Dec (i < 1) → Dec (n < i) → within n f i ≡ 0
    go (yes l) d = ap (λ (b : Bool). pick b (f i) 0) (and_false_l (leb 1 i) (leb i n) (lt-leb 1 i l))
    go (no l) (yes m) = ap (λ (b : Bool). pick b (f i) 0) (and_false_r (leb 1 i) (leb i n) (lt-leb i n m))
    go (no l) (no m) = absurd (h (omega arith) (omega arith))

pub within_ext : (n : ℕ) (f g : ℕ → ℕ) → ((i : ℕ) → 1 ≤ i → i ≤ n → f i ≡ g i) → within n f ≡ within n g
within_ext n f g h =
    fun_ext (λ i. in_range n i (λ l m. within_in n f i l m ∙ h i l m ∙ sym (within_in n g i l m)) (λ o. within_out n f i o ∙ sym (within_out n g i o)))

pub within_upd : (n : ℕ) (f g : ℕ → ℕ) (i v : ℕ) → 1 ≤ i → i ≤ n → g i ≡ v → ElseTo n i f g → within n g ≡ upd (within n f) i v
within_upd n f g i v l m e h = changed_upd (within n f) i v (within n g) (λ j. at j (ℕ_discrete j i))
  where
    at : (j : ℕ) → Dec (j ≡ i) → Changed (within n f) i v j (within n g j)
    at j (yes q) = here q (ap (within n g) q ∙ within_in n g i l m ∙ e)
    at j (no q) =
        there q (in_range n j (λ a b. within_in n g j a b ∙ h j a b q ∙ sym (within_in n f j a b)) (λ o. within_out n g j o ∙ sym (within_out n f j o)))

pub below_in : (m : ℕ) (f : ℕ → ℕ) (x : ℕ) → x < m → below m f x ≡ f x
unfolding below
below_in m f x h = ap (λ (b : Bool). pick b (f x) 0) (lt-ltb x m h)

pub below_out : (m : ℕ) (f : ℕ → ℕ) (x : ℕ) → m ≤ x → below m f x ≡ 0
unfolding below
below_out m f x h = ap (λ (b : Bool). pick b (f x) 0) (le-ltb x m h)

pub below_ext : (m : ℕ) (f g : ℕ → ℕ) → ((x : ℕ) → x < m → f x ≡ g x) → below m f ≡ below m g
below_ext m f g h =
    fun_ext (λ x. is_below m x (λ l. below_in m f x l ∙ h x l ∙ sym (below_in m g x l)) (λ l. below_out m f x l ∙ sym (below_out m g x l)))

pub below_upd : (m : ℕ) (f g : ℕ → ℕ) (y v : ℕ) → y < m → g y ≡ v → ElseBelow m y f g → below m g ≡ upd (below m f) y v
below_upd m f g y v l e h = changed_upd (below m f) y v (below m g) (λ x. at x (ℕ_discrete x y))
  where
    at : (x : ℕ) → Dec (x ≡ y) → Changed (below m f) y v x (below m g x)
    at x (yes q) = here q (ap (below m g) q ∙ below_in m g y l ∙ e)
    at x (no q) =
        there q (is_below m x (λ a. below_in m g x a ∙ h x a q ∙ sym (below_in m f x a)) (λ a. below_out m g x a ∙ sym (below_out m f x a)))

-- where they are not 0
pub within_some : (n : ℕ) (f : ℕ → ℕ) (i : ℕ) → within n f i ≢ 0 → (1 ≤ i) × (i ≤ n)
within_some n f i h = in_range n i {P = (1 ≤ i) × (i ≤ n)} (λ l m. (l, m)) (λ o. absurd (h (within_out n f i o)))

pub below_some : (m : ℕ) (f : ℕ → ℕ) (x : ℕ) → below m f x ≢ 0 → x < m
below_some m f x h = is_below m x {P = x < m} (λ l. l) (λ l. absurd (h (below_out m f x l)))
