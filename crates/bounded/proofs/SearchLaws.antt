-- Laws of a search for the lowest number that passes a test.
use Rattle.std.specs.Prelude.{None, Option, Some}
use mathlib.Core.Path.{◌≡◌, refl, sym, ap, ◌∙◌}
use mathlib.Core.Bool.{Bool, true, false, not}
use Prim.Native.Nat.{ℕ, zero, suc, ◌+◌, ◌-◌, ◌≤◌, ◌<◌}
use native.Mathlib.Nat.{zero-add, add-zero, add-suc, suc-add}
use native.Mathlib.Decide.{dec_lt}
use native.Mathlib.Omega.{arith}
use Rattle.bounded.specs.Search.{pick, first_from, first, on_found}
use Rattle.bounded.proofs.BoolLaws.{clash}

-- A loop `for c in i..e` that searches, with `first_from f c (e - c)` as what is left to answer: it begins at 0 or at i, makes a turn, and ends in one of two ways.
pub first_begin : (f : ℕ → Bool) (k : ℕ) → first f k ≡ first_from f 0 (k - 0)
unfolding first
first_begin f k = let q : k - 0 ≡ k = omega arith in rw q

pub search_begin : (f : ℕ → Bool) (n m : ℕ) → m ≡ n → first f n ≡ first_from f 0 (m - 0)
search_begin f n m e = first_begin f n ∙ ap (λ (i : ℕ). first_from f 0 (i - 0)) (sym e)

pub first_of_begin : (f : ℕ → Bool) (i k e : ℕ) → e ≡ i + k → first_from f i k ≡ first_from f i (e - i)
first_of_begin f i k e h = let q : k ≡ e - i = omega arith in ap (first_from f i) q

pub first_turn : (f : ℕ → Bool) (c e : ℕ) → c < e → f c ≡ false → first_from f c (e - c) ≡ first_from f (c + 1) (e - (c + 1))
unfolding first_from
first_turn f c e h t =
    let q : e - c ≡ suc (e - (c + 1)) = omega arith in
    let p : c + 1 ≡ suc c = omega arith in
    rw (q, t) (rw p refl)

pub first_found : (f : ℕ → Bool) (c e : ℕ) → c < e → f c ≡ true → first_from f c (e - c) ≡ Some c
unfolding first_from
first_found f c e h t = let q : e - c ≡ suc (e - (c + 1)) = omega arith in rw (q, t)

pub first_end : (f : ℕ → Bool) (c e : ℕ) → e ≤ c → first_from f c (e - c) ≡ None
unfolding first_from
first_end f c e h = let q : e - c ≡ 0 = omega arith in rw q

-- a search that finds something ends at its last number at most
pub search_left : (f : ℕ → Bool) (c last : ℕ) → (first_from f c (last + 1 - c) ≡ None → ⊥) → c ≤ last
search_left f c last h = go (dec_lt last c)
  where
    go : Dec (last < c) → c ≤ last
    go (yes l) = absurd (h (first_end f c (last + 1) (omega arith)))
    go (no l) = omega arith

-- what a search that found t says
pub record Lowest (f : ℕ → Bool) (i k t : ℕ) : Type 0 where
  pub from : i ≤ t
  pub below : t < i + k
  pub holds : f t ≡ true
  pub before : (j : ℕ) → i ≤ j → j < t → f j ≡ false

pub found_lowest : (f : ℕ → Bool) (i k t : ℕ) → first_from f i k ≡ Some t → Lowest f i k t
unfolding first_from
found_lowest f i zero t e = let z : ◌≡◌ {A = ℕ} 0 1 = cc in absurd (omega arith)
found_lowest f i (suc k) t e = go (f i) refl e (found_lowest f (suc i) k t)
  where
    go : (b : Bool) → f i ≡ b → pick b (Some i) (first_from f (suc i) k) ≡ Some t → (first_from f (suc i) k ≡ Some t → Lowest f (suc i) k t) → Lowest f i (suc k) t
    go true q r ih =
        let p : i ≡ t = cc in
        record { from = omega arith; below = omega arith; holds = rw (← p) q; before = λ j a b. absurd (omega arith) }
    go false q r ih' =
        let ih = ih' r in
        record {
          from = omega arith;
          below = omega arith;
          holds = ih.holds;
          before = λ j a b. elim (dec_lt i j) as (λ _. f j ≡ false) [
            | yes lt ↦ ih.before j lt b
            | no nlt ↦ let p : i ≡ j = omega arith in rw (← p) q
          ];
        }

pub found_below : (f : ℕ → Bool) (n : ℕ) {r : Option ℕ} {j : ℕ} → r ≡ first f n → r ≡ Some j → j < n
unfolding first
found_below f n {r} {j} g e = let b = found_lowest f 0 n j (sym g ∙ e) in omega arith

-- tests that are equal where the search looks
pub first_ext : (f g : ℕ → Bool) (i k : ℕ) → ((j : ℕ) → i ≤ j → j < i + k → f j ≡ g j) → first_from f i k ≡ first_from g i k
unfolding first_from
first_ext f g i zero h = refl
first_ext f g i (suc k) h =
    let e = h i (omega arith) (omega arith) in
    let r = first_ext f g (suc i) k (λ j a b. h j (omega arith) (omega arith)) in
    rw (e, r)

-- where nothing passes, the search finds nothing, and the other way round
pub absent_of : (f : ℕ → Bool) (i k : ℕ) → ((j : ℕ) → i ≤ j → j < i + k → f j ≡ false) → first_from f i k ≡ None
unfolding first_from
absent_of f i zero h = refl
absent_of f i (suc k) h = rw (h i (omega arith) (omega arith)) (absent_of f (suc i) k (λ j a b. h j (omega arith) (omega arith)))

pub none_below : (f : ℕ → Bool) (i k : ℕ) → first_from f i k ≡ None → (j : ℕ) → i ≤ j → j < i + k → f j ≡ false
unfolding first_from
none_below f i zero e j a b = absurd (omega arith)
none_below f i (suc k) e j a b = go (f i) refl e (λ r c. none_below f (suc i) k r j c (omega arith))
  where
    go : (b : Bool) → f i ≡ b → pick b (Some i) (first_from f (suc i) k) ≡ None → (first_from f (suc i) k ≡ None → suc i ≤ j → f j ≡ false) → f j ≡ false
    go true q r ih = cc
    go false q r ih = elim (dec_lt i j) as (λ _. f j ≡ false) [
      | yes lt ↦ ih r lt
      | no nlt ↦ let p : i ≡ j = omega arith in rw (← p) q
    ]

-- where j passes, there is a lowest one
pub lowest_of : (f : ℕ → Bool) (i k j : ℕ) → i ≤ j → j < i + k → f j ≡ true → (t : ℕ) × Lowest f i k t
lowest_of f i k j a b h = go (first_from f i k) refl
  where
    go : (r : Option ℕ) → first_from f i k ≡ r → (t : ℕ) × Lowest f i k t
    go (Some t) e = (t, found_lowest f i k t e)
    go None e = absurd (clash (f j) h (none_below f i k e j a b))

-- the w numbers from i on, and then the k after them
pub first_split : (f : ℕ → Bool) (i w k : ℕ) → first_from f i (w + k) ≡ on_found (first_from f i w) Some (first_from f (i + w) k)
unfolding first_from
first_split f i zero k = rw (zero-add, add-zero)
first_split f i (suc w) k = rw (suc-add) (go (f i) (first_split f (suc i) w k))
  where
    go : (b : Bool) → first_from f (suc i) (w + k) ≡ on_found (first_from f (suc i) w) Some (first_from f (suc i + w) k)
        → pick b (Some i) (first_from f (suc i) (w + k)) ≡ on_found (pick b (Some i) (first_from f (suc i) w)) Some (first_from f (i + suc w) k)
    go true h = refl
    go false h = let q : i + suc w ≡ suc i + w = omega arith in rw q h

-- a search block by block, where the block of the w numbers from i on was searched: nothing there, or t
pub first_skip : (f : ℕ → Bool) (i w k : ℕ) → w ≤ k → first_from f i w ≡ None → first_from f i k ≡ first_from f (i + w) (k - w)
first_skip f i w k l e = let q : k ≡ w + (k - w) = omega arith in ap (first_from f i) q ∙ first_split f i w (k - w) ∙ rw e

pub first_hit : (f : ℕ → Bool) (i w k t : ℕ) → w ≤ k → first_from f i w ≡ Some t → first_from f i k ≡ Some t
first_hit f i w k t l e = let q : k ≡ w + (k - w) = omega arith in ap (first_from f i) q ∙ first_split f i w (k - w) ∙ rw e

pub lowest_found : (f : ℕ → Bool) (i k t : ℕ) → Lowest f i k t → first_from f i k ≡ Some t
lowest_found f i k t h =
    let a : i ≤ t = h.from in
    let b : t < i + k = h.below in
    let p : i + (t - i) ≡ t = omega arith in
    let q : k - (t - i) ≡ i + k - t = omega arith in
    first_skip f i (t - i) k (omega arith) (absent_of f i (t - i) (λ j c d. h.before j c (omega arith))) ∙ rw (p, q) (first_found f t (i + k) b h.holds)

-- n is the lowest number that passes, or all below m fail and it is m
pub first_of : (f : ℕ → Bool) (m n : ℕ) → n ≤ m → ((k : ℕ) → k < n → f k ≡ false) → (n < m → f n ≡ true) → on_found (first f m) (λ k. k) m ≡ n
unfolding first
first_of f m n l b h = elim (dec_lt n m) as (λ _. on_found (first_from f 0 m) (λ k. k) m ≡ n) [
  | yes lt ↦ rw (lowest_found f 0 m n (record { from = omega arith; below = omega arith; holds = h lt; before = λ j a c. b j c }))
  | no nlt ↦ rw (absent_of f 0 m (λ j a c. b j (omega arith))) (omega arith)
]

-- the search of a test that is moved by a
pub first_shift : (f : ℕ → Bool) (a i k : ℕ) → on_found (first_from (λ j. f (a + j)) i k) (λ t. Some (a + t)) None ≡ first_from f (a + i) k
unfolding first_from
first_shift f a i zero = refl
first_shift f a i (suc k) = go (f (a + i)) (first_shift f a (suc i) k)
  where
    go : (b : Bool) → on_found (first_from (λ j. f (a + j)) (suc i) k) (λ t. Some (a + t)) None ≡ first_from f (a + suc i) k
        → on_found (pick b (Some i) (first_from (λ j. f (a + j)) (suc i) k)) (λ t. Some (a + t)) None ≡ pick b (Some (a + i)) (first_from f (suc (a + i)) k)
    go true h = refl
    go false h = h ∙ ap (λ (m : ℕ). first_from f m k) (add-suc a i)

-- ---- what holds of each outcome of a choice holds of the choice
pub by_pick : {A : Type 0} (P : A → Type 0) (b : Bool) {x y : A} → P x → P y → P (pick b x y)
by_pick P true p q = p
by_pick P false p q = q

pub by_found : {A : Type 0} (P : A → Type 0) (r : Option ℕ) {g : ℕ → A} {y : A} → ((t : ℕ) → P (g t)) → P y → P (on_found r g y)
by_found P (Some t) p q = p t
by_found P None p q = q

pub found_else : (x : Option ℕ) → on_found x Some None ≡ x
found_else (Some t) = refl
found_else None = refl

-- ---- a choice whose outcome is known, and cannot have come from one of its branches
module _ {A : Type 0} where
  pub pick_else : (c : Bool) (x y z : A) → pick c x y ≡ z → (x ≡ z → ⊥) → (c ≡ false) × (y ≡ z)
  pick_else true x y z e h = absurd (h e)
  pick_else false x y z e h = (refl, e)

  pub pick_not : (c : Bool) (x y z : A) → pick (not c) x y ≡ z → (x ≡ z → ⊥) → (c ≡ true) × (y ≡ z)
  pick_not true x y z e h = (refl, e)
  pick_not false x y z e h = absurd (h e)

  pub found_none : (f : Option ℕ) (g : ℕ → A) (y z : A) → on_found f g y ≡ z → ((t : ℕ) → g t ≡ z → ⊥) → (f ≡ None) × (y ≡ z)
  found_none (Some t) g y z e h = absurd (h t e)
  found_none None g y z e h = (refl, e)

  pub found_at : (f : Option ℕ) (g : ℕ → A) (y z : A) → on_found f g y ≡ z → (y ≡ z → ⊥) → (t : ℕ) × (f ≡ Some t) × (g t ≡ z)
  found_at (Some t) g y z e h = (t, refl, e)
  found_at None g y z e h = absurd (h e)
