-- Rising lists: the test decides the proposition, and the parts of a rising list rise.
use Prim.Native.Nat.{ℕ, zero, suc, ◌+◌, ◌-◌, ◌<◌}
use mathlib.Core.Path.{◌≡◌, refl, sym, subst}
use mathlib.Core.Bool.{Bool, true, false}
use mathlib.Core.List.{List, ◌∷◌}
use mathlib.Core.Logic.{⊎_elim}
use native.Mathlib.Nat.{lt_trans, eq-or-lt_of_le}
use native.Mathlib.Omega.{arith}
use borrow.Author.Tests.{ltb-true, lt-ltb}
use lib.ListN.{length, get_or}
use Rattle.bounded.specs.Reflect.{Reflects}
use Rattle.std.specs.List.{IsAllAdjacentAnswer}
use lib.Dec.{ltb}
use Rattle.bounded.proofs.BelowLaws.{to_at, to_of, to_stopped}
use Rattle.bounded.proofs.ReflectLaws.{r_and, r_le}
use Rattle.laps.specs.Times.{most_times, Rising, above, rising, Allowed, allowed}
use Rattle.laps.specs.Reported.{Parted, nothing, one, other}

-- ---- the test
climbs : (l : List ℕ) → rising l ≡ true → (j i : ℕ) → i < j → j < length l → get_or l i 0 < get_or l j 0
unfolding rising
climbs l r zero i lt hj = absurd (omega arith)
climbs l r (suc j) i lt hj =
    let e : suc j - 1 ≡ j = omega arith in
    let step : get_or l j 0 < get_or l (suc j) 0 =
    subst (λ (k : ℕ). get_or l k 0 < get_or l (suc j) 0) e (ltb-true _ _ (to_at (above l) (length l - 1) r (suc j) (omega arith) (omega arith))) in
    ⊎_elim (λ (e : i ≡ j). subst (λ (x : ℕ). get_or l x 0 < get_or l (suc j) 0) (sym e) step)
    (λ (h : i < j). lt_trans (climbs l r j i h (omega arith)) step)
    (eq-or-lt_of_le (omega arith))

pub rising_decides : (l : List ℕ) → Reflects (rising l) (Rising l)
unfolding rising
rising_decides l = record {
  to = λ r i j lt hj. climbs l r j i lt hj;
  from = λ r. to_of (above l) (length l - 1) (λ k h e. lt-ltb (get_or l (k - 1) 0) (get_or l k 0) (r (k - 1) k (omega arith) (omega arith)));
}

pub allowed_decides : (l : List ℕ) → Reflects (allowed l) (Allowed l)
allowed_decides l = r_and (r_le (length l) most_times) (rising_decides l)

-- ---- the parts of a list
record Above (x : ℕ) (l : List ℕ) : Type 0 where
  pub each : (k : ℕ) → k < length l → x < get_or l k 0

above_cons : {x : ℕ} {l : List ℕ} (y : ℕ) → x < y → Above x l → Above x (y ∷ l)
above_cons {x} {l} y h r = record { each = go }
  where
    go : (k : ℕ) → k < length (y ∷ l) → x < get_or (y ∷ l) k 0
    go zero lt = h
    go (suc k) lt = r.each k (omega arith)

above_head : {x y : ℕ} {l : List ℕ} → Above x (y ∷ l) → x < y
above_head h = h.each 0 (omega arith)

above_tail : {x y : ℕ} {l : List ℕ} → Above x (y ∷ l) → Above x l
above_tail h = record { each = λ k lt. h.each (suc k) (omega arith) }

rising_cons : {x : ℕ} {l : List ℕ} → Above x l → Rising l → Rising (x ∷ l)
rising_cons h r i zero lt hj = absurd (omega arith)
rising_cons h r zero (suc j) lt hj = h.each j (omega arith)
rising_cons h r (suc i) (suc j) lt hj = r i j (omega arith) (omega arith)

rising_tail : (x : ℕ) (l : List ℕ) → Rising (x ∷ l) → Rising l
rising_tail x l r i j lt hj = r (suc i) (suc j) (omega arith) (omega arith)

rising_head : (x : ℕ) (l : List ℕ) → Rising (x ∷ l) → Above x l
rising_head x l r = record { each = λ k lt. r 0 (suc k) (omega arith) (omega arith) }

parted_above : {x : ℕ} {l xs ys : List ℕ} → Parted l xs ys → Above x l → Above x xs × Above x ys
parted_above nothing h = (h, h)
parted_above (one y p) h = let r = parted_above p (above_tail h) in (above_cons y (above_head h) r.0, r.1)
parted_above (other y p) h = let r = parted_above p (above_tail h) in (r.0, above_cons y (above_head h) r.1)

pub parted_rising : {l xs ys : List ℕ} → Parted l xs ys → Rising l → Rising xs × Rising ys
parted_rising nothing r = (r, r)
parted_rising (one {l} x p) r =
    let q = parted_rising p (rising_tail x l r) in (rising_cons (parted_above p (rising_head x l r)).0 q.0, q.1)
parted_rising (other {l} x p) r =
    let q = parted_rising p (rising_tail x l r) in (q.0, rising_cons (parted_above p (rising_head x l r)).1 q.1)

pub parted_length : {l xs ys : List ℕ} → Parted l xs ys → length xs + length ys ≡ length l
parted_length nothing = refl
parted_length (one x p) = let e = parted_length p in omega arith
parted_length (other x p) = let e = parted_length p in omega arith

-- ---- as the library tests it
pub rising_answer : (l : List ℕ) (r : Bool) → IsAllAdjacentAnswer (λ x y b. b ≡ ltb x y) l r → r ≡ rising l
unfolding rising
rising_answer l true h =
    sym (to_of (above l) (length l - 1) (λ i z u. let e : i - 1 + 1 ≡ i = omega arith in subst (λ (j : ℕ). ltb (get_or l (i - 1) 0) (get_or l j 0) ≡ true) e (sym (h (i - 1) 0 (omega arith)))))
rising_answer l false h =
    let b : h.0 + 1 < length l = h.1 in
    let e : h.0 ≡ h.0 + 1 - 1 = omega arith in
    to_stopped (above l) (length l - 1) (h.0 + 1) (omega arith) (omega arith)
    (subst (λ (j : ℕ). ltb (get_or l j 0) (get_or l (h.0 + 1) 0) ≡ false) e (sym (h.2 0)))
