-- Laws of counts over the numbers below a bound, and of lists that hold counts.
use mathlib.Core.Path.{◌≡◌, refl, sym, ap, ap₂, ◌∙◌, subst}
use mathlib.Core.Bool.{Bool, true, false, not, ◌||◌}
use mathlib.Core.Logic.{◌⊎◌, inl, inr}
use mathlib.Core.List.{List}
use Prim.Native.Nat.{ℕ, zero, suc, ◌+◌, ◌-◌, ◌≤◌, ◌<◌, zero-le}
use native.Mathlib.Nat.{add-zero, add-suc, add_assoc}
use native.Mathlib.Decide.{ℕ_discrete, dec_lt}
use native.Mathlib.Numerals.{add-one}
use native.Mathlib.Omega.{arith}
use borrow.Author.Tests.{eq-eqb, ne_eqb, eqb-true, not-true}
use lib.Dec.{eqb}
use lib.ListN.{get_or, set, replicate, get_or-replicate, length-replicate, length-set}
use lib.Seq.{get_or-set_same, get_or-set_other}
use Rattle.bounded.specs.Below.{some_below}
use Rattle.bounded.specs.Update.{Changed, here, there, upd}
use Rattle.bounded.specs.Count.{one, count, tally, Tallied, new_at, differ_b, Differ}
use Rattle.bounded.proofs.BoolLaws.{holds, fails, holds_or_fails, same_test, or_l, or_r, or_right}
use Rattle.bounded.proofs.BelowLaws.{all_at, all_of, some_at, some_of, some_none, none_some}
use Rattle.bounded.proofs.UpdateLaws.{changed}

pub one_le : (b : Bool) → one b ≤ 1
one_le true = omega arith
one_le false = omega arith

module _ (p : ℕ → Bool) where
  -- before the first
  pub count_zero : 0 ≡ count p 0
  unfolding count
  count_zero = refl

  -- one number more
  pub count_step : (n : ℕ) → count p (n + 1) ≡ count p n + one (p n)
  unfolding count
  count_step n = rw add-one

  pub count_hit : (n : ℕ) → p n ≡ true → count p (n + 1) ≡ count p n + 1
  count_hit n e = count_step n ∙ ap (λ (b : Bool). count p n + one b) e

  pub count_miss : (n : ℕ) → p n ≡ false → count p (n + 1) ≡ count p n
  count_miss n e = count_step n ∙ ap (λ (b : Bool). count p n + one b) e ∙ omega arith

  pub count_le : (n : ℕ) → count p n ≤ n
  unfolding count
  count_le zero = zero-le
  count_le (suc n) = omega (arith, one_le (p n), count_le n)

  -- none passes
  pub count_none : (n : ℕ) → ((k : ℕ) → k < n → p k ≡ false) → count p n ≡ 0
  unfolding count
  count_none zero h = refl
  count_none (suc n) h = ap₂ (λ (a : ℕ) (b : Bool). a + one b) (count_none n (λ k l. h k (omega arith))) (h n (omega arith))

  -- some number passes just where the count is not 0
  pub count_pos : (n k : ℕ) → k < n → p k ≡ true → 0 < count p n
  unfolding count
  count_pos zero k l e = absurd (omega arith)
  count_pos (suc n) k l e = go (ℕ_discrete k n) (λ m. count_pos n k m e)
    where
      go : Dec (k ≡ n) → (k < n → 0 < count p n) → 0 < count p n + one (p n)
      go (yes g) h = omega (arith, ap one (ap p (sym g) ∙ e))
      go (no g) h = omega (arith, h (omega arith))

  -- two of them
  pub count_two : (n i j : ℕ) → i < j → j < n → p i ≡ true → p j ≡ true → 2 ≤ count p n
  unfolding count
  count_two zero i j l m d e = absurd (omega arith)
  count_two (suc n) i j l m d e = go (ℕ_discrete j n) (λ b. count_two n i j l b d e)
    where
      go : Dec (j ≡ n) → (j < n → 2 ≤ count p n) → 2 ≤ count p n + one (p n)
      go (yes g) h = omega (arith, ap one (ap p (sym g) ∙ e), count_pos n i (omega arith) d)
      go (no g) h = omega (arith, h (omega arith))

  pub count_some : (n : ℕ) → 0 < count p n → (k : ℕ) × (k < n) × (p k ≡ true)
  count_some n l = go (holds_or_fails (some_below p n))
    where
      go : (some_below p n ≡ true) ⊎ (some_below p n ≡ false) → (k : ℕ) × (k < n) × (p k ≡ true)
      go (inl e) = some_at p n e
      go (inr e) = absurd (omega (arith, count_none n (some_none p n e)))

  -- the numbers that pass, and those that fail, are all
  pub count_not : (n : ℕ) → count p n + count (λ k. not (p k)) n ≡ n
  unfolding count
  count_not zero = omega arith
  count_not (suc n) = go (p n) (count_not n)
    where
      go : (b : Bool) → count p n + count (λ k. not (p k)) n ≡ n → count p n + one b + (count (λ k. not (p k)) n + one (not b)) ≡ suc n
      go true h = omega arith
      go false h = omega arith

-- all pass just where the count is n; else one fails
module _ (p : ℕ → Bool) where
  pub count_all : (n : ℕ) → ((k : ℕ) → k < n → p k ≡ true) → count p n ≡ n
  count_all n h = omega (arith, count_not p n, count_none (λ k. not (p k)) n (λ k l. ap not (h k l)))

  pub count_full : (n : ℕ) → n ≤ count p n → (k : ℕ) → k < n → p k ≡ true
  count_full n h k l = holds (p k) (λ e. omega (arith, count_not p n, count_pos (λ k. not (p k)) n k l (ap not e)))

  pub count_pigeon : (n : ℕ) → count p n < n → (k : ℕ) × (k < n) × (p k ≡ false)
  count_pigeon n l = let r = count_some (λ k. not (p k)) n (omega (arith, count_not p n)) in (r.0, r.1, not-true (p r.0) r.2)

-- below m + n: below m, and the n numbers from m on
pub count_split : (p : ℕ → Bool) (m n : ℕ) → count p (m + n) ≡ count p m + count (λ k. p (m + k)) n
unfolding count
count_split p m zero = ap (count p) (add-zero m) ∙ omega arith
count_split p m (suc n) =
    ap (count p) (add-suc m n) ∙ ap (λ (c : ℕ). c + one (p (m + n))) (count_split p m n)
    ∙ add_assoc (count p m) (count (λ k. p (m + k)) n) (one (p (m + n)))

-- the first k pass, and none after them
pub count_first : (p : ℕ → Bool) (n k : ℕ) → k ≤ n → ((j : ℕ) → j < k → p j ≡ true) → ((j : ℕ) → k ≤ j → j < n → p j ≡ false) → count p n ≡ k
count_first p n k l g h =
    let e : k + (n - k) ≡ n = omega arith in
    let a = count_split p k (n - k) in
    let c = count_all p k g in
    let d = count_none (λ j. p (k + j)) (n - k) (λ j m. h (k + j) (omega arith) (omega arith)) in
    ap (count p) (sym e) ∙ a ∙ omega arith

-- none is counted just where none passes
pub count_none_is : (p : ℕ → Bool) (n : ℕ) → eqb (count p n) 0 ≡ not (some_below p n)
count_none_is p n =
    same_test (eqb (count p n) 0) (not (some_below p n))
    (λ t. ap not (none_some p n (λ k l. fails (p k) (λ h. omega (arith, count_pos p n k l h, eqb-true (count p n) 0 t)))))
    (λ t. eq-eqb (count p n) 0 (count_none p n (some_none p n (not-true (some_below p n) t))))

pub count_some_is : (p : ℕ → Bool) (n : ℕ) → not (eqb (count p n) 0) ≡ some_below p n
count_some_is p n = ap not (count_none_is p n) ∙ not_not (some_below p n)
  where
    not_not : (b : Bool) → not (not b) ≡ b
    not_not true = refl
    not_not false = refl

-- tests that are equal below n
pub count_ext : (p q : ℕ → Bool) (n : ℕ) → ((k : ℕ) → k < n → p k ≡ q k) → count p n ≡ count q n
unfolding count
count_ext p q zero h = refl
count_ext p q (suc n) h = ap₂ (λ (a : ℕ) (b : Bool). a + one b) (count_ext p q n (λ k l. h k (omega arith))) (h n (omega arith))

-- one change at i: the new count and what stood at i are the old count and what stands there now
pub count_at : (f g : ℕ → Bool) (i : ℕ) (v : Bool) → ((q : ℕ) → Changed f i v q (g q)) → (n : ℕ) → i < n → count g n + one (f i) ≡ count f n + one v
unfolding count
count_at f g i v h zero l = absurd (omega arith)
count_at f g i v h (suc n) l = go (λ m. count_at f g i v h n m) (h n)
  where
    go : (i < n → count g n + one (f i) ≡ count f n + one v) → Changed f i v n (g n) → count g n + one (g n) + one (f i) ≡ count f n + one (f n) + one v
    go rec (here e r) =
        let s : count g n ≡ count f n = count_ext g f n (λ q m. elim (h q) [ here x y ↦ absurd (omega arith) | there x y ↦ y ]) in
        let b : one (g n) ≡ one v = ap one r in
        let c : one (f n) ≡ one (f i) = ap (λ (x : ℕ). one (f x)) e in
        omega arith
    go rec (there x y) = let b : one (g n) ≡ one (f n) = ap one y in let s = rec (omega arith) in omega arith

-- more pass, more counted; and strictly more where one is new
pub count_mono : (f g : ℕ → Bool) (n : ℕ) → ((q : ℕ) → q < n → f q ≡ true → g q ≡ true) → count f n ≤ count g n
unfolding count
count_mono f g zero h = zero-le
count_mono f g (suc n) h = omega (arith, bits (f n) (g n) (h n (omega arith)), count_mono f g n (λ q l. h q (omega arith)))
  where
    bits : (a b : Bool) → (a ≡ true → b ≡ true) → one a ≤ one b
    bits true b k = rw (k refl) (omega arith)
    bits false b k = zero-le

pub count_more : (f g : ℕ → Bool) (n i : ℕ) → ((q : ℕ) → q < n → f q ≡ true → g q ≡ true) → i < n → f i ≡ false → g i ≡ true → count f n < count g n
count_more f g n i h l x y =
    let u = upd f i true in
    let a = count_at f u i true (changed f i true) n l in
    let b = count_mono u g n (λ q m k. elim (changed f i true q) [ here e r ↦ ap g e ∙ y | there e r ↦ h q m (sym r ∙ k) ]) in
    omega (arith, ap one x)

-- k different numbers below n: k is at most n
pub pigeons : (n k : ℕ) (f : ℕ → ℕ) → ((i : ℕ) → i < k → f i < n) → ((i j : ℕ) → i < j → j < k → f i ≡ f j → ⊥) → k ≤ n
pigeons n k f b d = omega (arith, many k b d, count_le (seen k) n)
  where
    -- v is among the first k
    seen : ℕ → ℕ → Bool
    seen k v = some_below (λ i. eqb (f i) v) k

    many : (k : ℕ) → ((i : ℕ) → i < k → f i < n) → ((i j : ℕ) → i < j → j < k → f i ≡ f j → ⊥) → k ≤ count (seen k) n
    many zero b d = zero-le
    many (suc k) b d =
        let h = many k (λ i l. b i (omega arith)) (λ i j l m. d i j l (omega arith)) in
        let g = count_more (seen k) (seen (suc k)) n (f k)
        (λ q l e. let r = some_at (λ i. eqb (f i) q) k e in some_of (λ i. eqb (f i) q) (suc k) r.0 (omega arith) r.2)
        (b k (omega arith))
        (none_some (λ i. eqb (f i) (f k)) k (λ i l. ne_eqb (f i) (f k) (d i k l (omega arith))))
        (some_of (λ i. eqb (f i) (f k)) (suc k) k (omega arith) (eq-eqb (f k) (f k) refl)) in
        omega arith

-- ---- tallies
-- the same turns, in other words
pub tallied_as : (f : ℕ → ℕ) (lo n : ℕ) (l : List ℕ) {m k : ℕ} → m ≡ k → Tallied f lo n m l → Tallied f lo n k l
tallied_as f lo n l e t = subst (λ (x : ℕ). Tallied f lo n x l) e t

module _ (f : ℕ → ℕ) where
  pub tally_here : (m v : ℕ) → f m ≡ v → tally f (m + 1) v ≡ tally f m v + 1
  tally_here m v e = count_hit (λ k. eqb (f k) v) m (eq-eqb (f m) v e)

  pub tally_else : (m v : ℕ) → (f m ≡ v → ⊥) → tally f (m + 1) v ≡ tally f m v
  tally_else m v h = count_miss (λ k. eqb (f k) v) m (ne_eqb (f m) v h)

  pub tally_le : (m v : ℕ) → tally f m v ≤ m
  tally_le m v = count_le (λ k. eqb (f k) v) m

  -- a value that was met has a tally that is not 0, and only such a value
  pub met : (m i v : ℕ) → i < m → f i ≡ v → 0 < tally f m v
  met m i v l e = count_pos (λ k. eqb (f k) v) m i l (eq-eqb (f i) v e)

  pub unmet : (m v : ℕ) → ((i : ℕ) → i < m → f i ≡ v → ⊥) → tally f m v ≡ 0
  unmet m v h = count_none (λ k. eqb (f k) v) m (λ i l. ne_eqb (f i) v (h i l))

  pub met_at : (m v : ℕ) → 0 < tally f m v → (i : ℕ) × (i < m) × (f i ≡ v)
  met_at m v l = let r = count_some (λ k. eqb (f k) v) m l in (r.0, r.1, eqb-true (f r.0) v r.2)

  -- a value that was met once was met at one number
  pub met_once : (m i j v : ℕ) → tally f m v ≡ 1 → i < m → j < m → f i ≡ v → f j ≡ v → i ≡ j
  met_once m i j v o l k d e =
      let a : i < j → ⊥ = λ b. omega (arith, count_two (λ k. eqb (f k) v) m i j b k (eq-eqb (f i) v d) (eq-eqb (f j) v e)) in
      let c : j < i → ⊥ = λ b. omega (arith, count_two (λ k. eqb (f k) v) m j i b l (eq-eqb (f j) v e) (eq-eqb (f i) v d)) in
      go (dec_lt i j) (dec_lt j i) a c
    where
      go : Dec (i < j) → Dec (j < i) → (i < j → ⊥) → (j < i → ⊥) → i ≡ j
      go (yes b) y a c = absurd (a b)
      go (no b) (yes y) a c = absurd (c y)
      go (no b) (no y) a c = omega arith

  -- a loop that counts in a list: before it
  pub tally_start : (lo n : ℕ) → Tallied f lo n 0 (replicate n 0)
  unfolding count
  tally_start lo n = record { long = length-replicate n 0; each = λ v p q. get_or-replicate n v 0 0 q }

  -- a turn that passes a value below lo over
  pub tally_skip : (lo n m : ℕ) (l : List ℕ) → f m < lo → Tallied f lo n m l → Tallied f lo n (m + 1) l
  tally_skip lo n m l e t = record { long = t.long; each = λ v p q. t.each v p q ∙ sym (tally_else m v (omega arith)) }

  -- k such turns
  pub tally_skips : (lo n m k : ℕ) (l : List ℕ) → ((j : ℕ) → j < k → f (m + j) < lo) → Tallied f lo n m l → Tallied f lo n (m + k) l
  tally_skips lo n m zero l h t = tallied_as f lo n l (sym (add-zero m)) t
  tally_skips lo n m (suc k) l h t =
      let e : m + k + 1 ≡ m + suc k = omega arith in
      tallied_as f lo n l e (tally_skip lo n (m + k) l (h k (omega arith)) (tally_skips lo n m k l (λ j p. h j (omega arith)) t))

  -- a turn that passes a value of n or more over
  pub tally_past : (lo n m : ℕ) (l : List ℕ) → n ≤ f m → Tallied f lo n m l → Tallied f lo n (m + 1) l
  tally_past lo n m l h t = record { long = t.long; each = λ v a b. t.each v a b ∙ sym (tally_else m v (λ q. omega arith)) }

  -- a turn that counts
  pub tally_count : (lo n m b : ℕ) (l : List ℕ) → f m ≡ b → lo ≤ b → b < n → Tallied f lo n m l → Tallied f lo n (m + 1) (set l b (get_or l b 0 + 1))
  tally_count lo n m b l e p q t =
      record { long = length-set l b (get_or l b 0 + 1) ∙ t.long; each = λ v pv qv. at v pv qv (ℕ_discrete v b) }
    where
      at : (v : ℕ) → lo ≤ v → v < n → Dec (v ≡ b) → get_or (set l b (get_or l b 0 + 1)) v 0 ≡ tally f (m + 1) v
      at v pv qv (yes i) =
          ap (λ (k : ℕ). get_or (set l b (get_or l b 0 + 1)) k 0) i
          ∙ get_or-set_same l b (get_or l b 0 + 1) 0 (omega (arith, t.long))
          ∙ ap (λ (k : ℕ). k + 1) (t.each b p q) ∙ sym (tally_here m b e) ∙ ap (tally f (m + 1)) (sym i)
      at v pv qv (no h) = get_or-set_other l b v (get_or l b 0 + 1) 0 h ∙ t.each v pv qv ∙ sym (tally_else m v (λ i. h (sym i ∙ e)))

  -- the same, where the code has the value a
  pub tally_one : (lo n m a : ℕ) (l : List ℕ) → a ≡ f m → lo ≤ a → a < n → Tallied f lo n m l → Tallied f lo n (m + 1) (set l a (get_or l a 0 + 1))
  tally_one lo n m a l e p q t = tally_count lo n m a l (sym e) p q t

  pub tally_zero : (n m a : ℕ) (l : List ℕ) → a ≡ f m → a ≡ 0 → Tallied f 1 n m l → Tallied f 1 n (m + 1) l
  tally_zero n m a l e z t = tally_skip 1 n m l (omega arith) t

  pub tally_first : (n m a : ℕ) (l : List ℕ) → a ≡ f m → 0 < a → a < n → Tallied f 1 n m l → get_or l a 0 ≡ 0 → Tallied f 1 n (m + 1) (set l a 1)
  tally_first n m a l e p q t z =
      subst (λ (k : ℕ). Tallied f 1 n (m + 1) (set l a (k + 1))) z (tally_count 1 n m a l (sym e) p q t)

  -- what a place of the list holds is at most the turns: it fits, and one more fits
  pub tallied_le : (lo n m a : ℕ) (l : List ℕ) → lo ≤ a → a < n → Tallied f lo n m l → get_or l a 0 ≤ m
  tallied_le lo n m a l p q t = omega (arith, tally_le m a, t.each a p q)

  -- the values that are not 0 differ: the test and what it says
  pub differ_prop : (m : ℕ) → differ_b f m ≡ true → Differ f m
  differ_prop m e i j l k p q =
      let t : tally f j (f j) ≡ 0 = eqb-true (tally f j (f j)) 0 (or_right (eqb (f j) 0) (eqb (tally f j (f j)) 0) (ne_eqb (f j) 0 (omega arith)) (all_at (new_at f) m e j k)) in
      let u : 0 < tally f j (f j) = met j i (f j) l q in
      omega arith

  pub differ_bool : (m : ℕ) → Differ f m → differ_b f m ≡ true
  differ_bool m d = all_of (new_at f) m (λ j l. go j l (ℕ_discrete (f j) 0))
    where
      go : (j : ℕ) → j < m → Dec (f j ≡ 0) → new_at f j ≡ true
      go j l (yes z) = or_l (eqb (f j) 0) (eqb (tally f j (f j)) 0) (eq-eqb (f j) 0 z)
      go j l (no h) =
          or_r (eqb (f j) 0) (eqb (tally f j (f j)) 0) (eq-eqb (tally f j (f j)) 0 (unmet j (f j) (λ i k q. d i j k l (omega arith) q)))

  -- a turn of the loop that tests it, where the code has the value a
  pub new_zero : (m a : ℕ) → a ≡ f m → a ≡ 0 → new_at f m ≡ true
  new_zero m a e z = or_l (eqb (f m) 0) (eqb (tally f m (f m)) 0) (eq-eqb (f m) 0 (sym e ∙ z))

  pub new_first : (n m a : ℕ) (l : List ℕ) → a ≡ f m → 0 < a → a < n → Tallied f 1 n m l → get_or l a 0 ≡ 0 → new_at f m ≡ true
  new_first n m a l e p q t z =
      or_r (eqb (f m) 0) (eqb (tally f m (f m)) 0)
      (eq-eqb (tally f m (f m)) 0 (ap (tally f m) (sym e) ∙ sym (t.each a p q) ∙ z))

  pub new_again : (n m a : ℕ) (l : List ℕ) → a ≡ f m → 0 < a → a < n → Tallied f 1 n m l → (get_or l a 0 ≡ 0 → ⊥) → new_at f m ≡ false
  new_again n m a l e p q t h =
      ap₂ ◌||◌ (ne_eqb (f m) 0 (omega arith))
      (ne_eqb (tally f m (f m)) 0 (λ z. h (t.each a p q ∙ ap (tally f m) e ∙ z)))
