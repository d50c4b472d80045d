-- Laws of a test at every, or at some, number below a bound.
use mathlib.Core.Path.{◌≡◌, refl, sym, ap, ap₂, ◌∙◌, subst}
use mathlib.Core.Bool.{Bool, true, false, not, ◌&&◌, true≢false, and-true as and-unit, and_assoc}
use mathlib.Core.Logic.{◌⊎◌, inl, inr, ⊎_elim}
use Prim.Native.Nat.{ℕ, zero, suc, ◌+◌, ◌*◌, ◌-◌, ◌≤◌, ◌<◌}
use native.Mathlib.Nat.{le_antisymm, not-suc-le-zero, le_of_suc-le-suc, eq-or-lt_of_le, add-zero, add-suc, mul-zero, mul-suc}
use native.Mathlib.Numerals.{add-one}
use native.Mathlib.Omega.{arith}
use borrow.Author.Tests.{not-true, not-false}
use Rattle.bounded.specs.Below.{all_below, some_below, all_to}
use Rattle.bounded.proofs.BoolLaws.{same_test, and-true, and_left, and_right, and_false_l, and_false_r, and_cases}

module _ (p : ℕ → Bool) where
  -- a loop over the numbers below n: before it, a turn that goes on, a turn that stops
  pub all_none : all_below p 0 ≡ true
  unfolding all_below
  all_none = refl

  pub all_more : (i : ℕ) → all_below p i ≡ true → p i ≡ true → all_below p (i + 1) ≡ true
  unfolding all_below
  all_more i a h = rw add-one (and-true (all_below p i) (p i) a h)

  pub all_stop : (n i : ℕ) → i < n → p i ≡ false → all_below p n ≡ false
  unfolding all_below
  all_stop zero i l h = absurd (not-suc-le-zero l)
  all_stop (suc n) i l h =
      ⊎_elim (λ e. and_false_r (all_below p n) (p n) (subst (λ (k : ℕ). p k ≡ false) e h))
      (λ m. and_false_l (all_below p n) (p n) (all_stop n i m h))
      (eq-or-lt_of_le (le_of_suc-le-suc l))

  -- the test and what it says
  pub all_at : (n : ℕ) → all_below p n ≡ true → (i : ℕ) → i < n → p i ≡ true
  unfolding all_below
  all_at zero e i l = absurd (not-suc-le-zero l)
  all_at (suc n) e i l =
      ⊎_elim (λ q. subst (λ (k : ℕ). p k ≡ true) (sym q) (and_right (all_below p n) (p n) e))
      (λ m. all_at n (and_left (all_below p n) (p n) e) i m)
      (eq-or-lt_of_le (le_of_suc-le-suc l))

  pub all_of : (n : ℕ) → ((i : ℕ) → i < n → p i ≡ true) → all_below p n ≡ true
  unfolding all_below
  all_of zero h = refl
  all_of (suc n) h = and-true (all_below p n) (p n) (all_of n (λ i l. h i (omega arith))) (h n (omega arith))

  -- a number at which it fails
  pub all_fail : (n : ℕ) → all_below p n ≡ false → (k : ℕ) × (k < n) × (p k ≡ false)
  unfolding all_below
  all_fail zero e = absurd (true≢false e)
  all_fail (suc n) e = go (all_fail n) (and_cases (all_below p n) (p n) e)
    where
      go : (all_below p n ≡ false → (k : ℕ) × (k < n) × (p k ≡ false)) → (all_below p n ≡ false) ⊎ (p n ≡ false) → (k : ℕ) × (k < suc n) × (p k ≡ false)
      go f (inl h) = let r = f h in (r.0, omega arith, r.2)
      go f (inr h) = (n, omega arith, h)

  -- the loop's two results
  pub all_done : (n i : ℕ) → i ≤ n → n ≤ i → all_below p i ≡ true → true ≡ all_below p n
  all_done n i h l a = sym (subst (λ (k : ℕ). all_below p k ≡ true) (le_antisymm h l) a)

  pub all_stopped : (n i : ℕ) → i < n → p i ≡ false → false ≡ all_below p n
  all_stopped n i l h = sym (all_stop n i l h)

-- the same for `for i in 1..=n`: i counts from 1, and the loop is left in two ways
module _ (p : ℕ → Bool) where
  pub to_more : (i : ℕ) → 0 < i → all_to p (i - 1) ≡ true → p i ≡ true → all_to p (i + 1 - 1) ≡ true
  to_more i l a h =
      let e : i - 1 + 1 ≡ i = omega arith in
      let f : i - 1 + 1 ≡ i + 1 - 1 = omega arith in
      subst (λ (k : ℕ). all_to p k ≡ true) f (all_more (λ k. p (k + 1)) (i - 1) a (subst (λ (k : ℕ). p k ≡ true) (sym e) h))

  pub to_stopped : (n i : ℕ) → 0 < i → i ≤ n → p i ≡ false → false ≡ all_to p n
  to_stopped n i l m h =
      let e : i - 1 + 1 ≡ i = omega arith in
      all_stopped (λ k. p (k + 1)) n (i - 1) (omega arith) (subst (λ (k : ℕ). p k ≡ false) (sym e) h)

  pub to_done : (n i : ℕ) → i ≤ n + 1 → n < i → all_to p (i - 1) ≡ true → true ≡ all_to p n
  to_done n i l m a = all_done (λ k. p (k + 1)) n (i - 1) (omega arith) (omega arith) a

  -- left after the turn at n
  pub to_last : (n i : ℕ) → 0 < i → i ≤ n → n ≤ i → all_to p (i - 1) ≡ true → p i ≡ true → true ≡ all_to p n
  to_last n i l m o a h = all_done (λ k. p (k + 1)) n (i + 1 - 1) (omega arith) (omega arith) (to_more i l a h)

  -- the test and what it says
  pub to_none : all_to p 0 ≡ true
  to_none = all_none (λ k. p (k + 1))

  pub to_at : (n : ℕ) → all_to p n ≡ true → (i : ℕ) → 0 < i → i ≤ n → p i ≡ true
  to_at n a i l m =
      let e : i - 1 + 1 ≡ i = omega arith in
      subst (λ (k : ℕ). p k ≡ true) e (all_at (λ k. p (k + 1)) n a (i - 1) (omega arith))

  pub to_of : (n : ℕ) → ((i : ℕ) → 0 < i → i ≤ n → p i ≡ true) → all_to p n ≡ true
  to_of n h = all_of (λ k. p (k + 1)) n (λ k l. h (k + 1) (omega arith) (omega arith))

-- tests that are equal below n
pub all_ext : (p q : ℕ → Bool) (n : ℕ) → ((k : ℕ) → k < n → p k ≡ q k) → all_below p n ≡ all_below q n
unfolding all_below
all_ext p q zero h = refl
all_ext p q (suc n) h = ap₂ ◌&&◌ (all_ext p q n (λ k l. h k (omega arith))) (h n (omega arith))

-- below m + n: below m, and the n numbers from m on
pub all_split : (p : ℕ → Bool) (m n : ℕ) → all_below p (m + n) ≡ all_below p m && all_below (λ k. p (m + k)) n
unfolding all_below
all_split p m zero = ap (all_below p) (add-zero m) ∙ sym (and-unit (all_below p m))
all_split p m (suc n) =
    ap (all_below p) (add-suc m n) ∙ ap (λ (b : Bool). b && p (m + n)) (all_split p m n)
    ∙ and_assoc (all_below p m) (all_below (λ k. p (m + k)) n) (p (m + n))

-- below w * m: m blocks of w numbers
pub all_chunk : (p : ℕ → Bool) (w m : ℕ) → all_below p (w * m) ≡ all_below (λ j. all_below (λ k. p (w * j + k)) w) m
unfolding all_below
all_chunk p w zero = ap (all_below p) (mul-zero w)
all_chunk p w (suc m) =
    ap (all_below p) (mul-suc w m) ∙ all_split p (w * m) w ∙ ap (λ (b : Bool). b && all_below (λ k. p (w * m + k)) w) (all_chunk p w m)

-- two tests at once
pub all_and : (p q : ℕ → Bool) (n : ℕ) → all_below (λ k. p k && q k) n ≡ all_below p n && all_below q n
all_and p q n =
    same_test (all_below (λ k. p k && q k) n) (all_below p n && all_below q n)
    (λ t.
    and-true (all_below p n) (all_below q n) (all_of p n (λ k l. and_left (p k) (q k) (all_at (λ j. p j && q j) n t k l)))
    (all_of q n (λ k l. and_right (p k) (q k) (all_at (λ j. p j && q j) n t k l))))
    (λ t.
    all_of (λ k. p k && q k) n (λ k l.
    and-true (p k) (q k) (all_at p n (and_left (all_below p n) (all_below q n) t) k l) (all_at q n (and_right (all_below p n) (all_below q n) t) k l)))

-- the test from t on, where it holds below t
pub all_from : (p q : ℕ → Bool) (t n : ℕ) → t ≤ n → ((o : ℕ) → o < t → p o ≡ true) → ((j : ℕ) → j < n - t → p (t + j) ≡ q j) → all_below p n ≡ all_below q (n - t)
all_from p q t n l h g =
    let e : n ≡ t + (n - t) = omega arith in
    ap (all_below p) e ∙ all_split p t (n - t) ∙ ap (λ (x : Bool). x && all_below (λ k. p (t + k)) (n - t)) (all_of p t h)
    ∙ all_ext (λ k. p (t + k)) q (n - t) g

-- some number below n passes
module _ (p : ℕ → Bool) where
  abbrev fail : ℕ → Bool
  fail k = not (p k)

  pub some_of : (n k : ℕ) → k < n → p k ≡ true → some_below p n ≡ true
  unfolding some_below
  some_of n k l e = ap not (all_stop fail n k l (ap not e))

  pub some_at : (n : ℕ) → some_below p n ≡ true → (k : ℕ) × (k < n) × (p k ≡ true)
  unfolding some_below
  some_at n e = let r = all_fail fail n (not-true (all_below fail n) e) in (r.0, r.1, not-false (p r.0) r.2)

  pub some_none : (n : ℕ) → some_below p n ≡ false → (k : ℕ) → k < n → p k ≡ false
  unfolding some_below
  some_none n e k l = not-true (p k) (all_at fail n (not-false (all_below fail n) e) k l)

  pub none_some : (n : ℕ) → ((k : ℕ) → k < n → p k ≡ false) → some_below p n ≡ false
  unfolding some_below
  none_some n h = ap not (all_of fail n (λ k l. ap not (h k l)))
