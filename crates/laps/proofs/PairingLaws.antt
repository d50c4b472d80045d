-- Walking from the front loses no pair: where the two foremost times may be paired, a pairing gives up
-- its first pair at most; where they may not, the smaller one is in no pair.
use Prim.Native.Nat.{ℕ, zero, suc, ◌+◌, ◌-◌, ◌≤◌, ◌<◌}
use mathlib.Core.Path.{◌≡◌, refl, sym, ap, subst, ◌∙◌}
use mathlib.Core.List.{List}
use mathlib.Core.Logic.{◌⊎◌, inl, inr, ⊎_elim}
use native.Mathlib.Nat.{le_trans, le_refl, le_of_lt, eq-or-lt_of_le, add-zero, zero-add}
use native.Mathlib.Decide.{dec_lt}
use native.Mathlib.Omega.{arith}
use lib.ListN.{length, get_or, drop}
use Rattle.laps.specs.Times.{most_apart, Near, Rising, Pairing, none, pair}
use Rattle.laps.specs.Walk.{Lists, report}
use Rattle.laps.specs.Reported.{Largest}
use Rattle.laps.proofs.WalkLaws.{turn_early, turn_late, turn_pair, turn_last}

-- a pairing of later places is one of earlier places
earlier : {w m : List ℕ} {i j k : ℕ} (i₀ j₀ : ℕ) → i₀ ≤ i → j₀ ≤ j → Pairing w m i j k → Pairing w m i₀ j₀ k
earlier i₀ j₀ hi hj none = none
earlier i₀ j₀ hi hj (pair a b ha ha' hb hb' near p) = pair a b (le_trans hi ha) ha' (le_trans hj hb) hb' near p

-- the first pair given up: what is left uses neither of the two foremost places
less : {w m : List ℕ} {i j k : ℕ} → Pairing w m i j (suc k) → Pairing w m (i + 1) (j + 1) k
less (pair a b ha ha' hb hb' near p) = earlier _ _ (omega arith) (omega arith) p

-- in a rising list a later place holds no less
not_less : (l : List ℕ) → Rising l → (i j : ℕ) → i ≤ j → j < length l → get_or l i 0 ≤ get_or l j 0
not_less l r i j h hj =
    ⊎_elim (λ (e : i ≡ j). subst (λ (x : ℕ). get_or l i 0 ≤ get_or l x 0) e (le_refl _)) (λ (lt : i < j). le_of_lt (r i j lt hj)) (eq-or-lt_of_le h)

apart : (x y z : ℕ) → x + most_apart < y → y ≤ z → z ≤ x + most_apart → ⊥
apart x y z f g h = omega arith

-- a watch time too early for the foremost mat time is in no pair
pass_watch : {w m : List ℕ} {i j k : ℕ} → Rising m → get_or w i 0 + most_apart < get_or m j 0 → Pairing w m i j k → Pairing w m (i + 1) j k
pass_watch r far none = none
pass_watch {w} {m} {i} {j} r far (pair a b ha ha' hb hb' near p) =
    ⊎_elim
    (λ (e : i ≡ a). absurd (apart _ _ _ (subst (λ (x : ℕ). get_or w x 0 + most_apart < get_or m j 0) e far) (not_less m r j b hb hb') near.1))
    (λ (lt : i < a). pair a b (omega arith) ha' hb hb' near p)
    (eq-or-lt_of_le ha)

-- nor is a mat time too early for the foremost watch time
pass_mat : {w m : List ℕ} {i j k : ℕ} → Rising w → get_or m j 0 + most_apart < get_or w i 0 → Pairing w m i j k → Pairing w m i (j + 1) k
pass_mat r far none = none
pass_mat {w} {m} {i} {j} r far (pair a b ha ha' hb hb' near p) =
    ⊎_elim
    (λ (e : j ≡ b). absurd (apart _ _ _ (subst (λ (x : ℕ). get_or m x 0 + most_apart < get_or w i 0) e far) (not_less w r i a ha ha') near.0))
    (λ (lt : j < b). pair a b ha ha' (omega arith) hb' near p)
    (eq-or-lt_of_le hb)

-- where a list is at its end no pair is left
no_pair : {w m : List ℕ} {i j k : ℕ} → (length w ≤ i) ⊎ (length m ≤ j) → Pairing w m i j k → k ≡ 0
no_pair e none = refl
no_pair e (pair a b ha ha' hb hb' near p) = absurd (⊎_elim (λ h. omega arith) (λ h. omega arith) e)

-- ---- the walk: p pairs made, i watch times and j mat times behind it
record Walked (w m : List ℕ) (p i j : ℕ) : Type 0 where
  -- its pairs go before every pairing of what is left
  pub before : (k : ℕ) → Pairing w m i j k → Pairing w m 0 0 (p + k)
  -- of any pairing of the whole at most p pairs are not in one of what is left
  pub after : (k : ℕ) → Pairing w m 0 0 k → (l : ℕ) × Pairing w m i j l × (k ≤ p + l)

walk_begins : (w m : List ℕ) → Walked w m 0 0 0
walk_begins w m = record {
  before = λ k q. subst (λ (x : ℕ). Pairing w m 0 0 x) (sym (zero-add k)) q;
  after = λ k q. (k, q, omega arith);
}

first_gone : {w m : List ℕ} {i j k : ℕ} (p l : ℕ) → Pairing w m i j l → k ≤ p + l → (l' : ℕ) × Pairing w m (i + 1) (j + 1) l' × (k ≤ p + 1 + l')
first_gone p zero q h = (zero, none, omega arith)
first_gone p (suc l) q h = (l, less q, omega arith)

module _ {w m : List ℕ} {p i j : ℕ} (v : Walked w m p i j) where
  passes_watch : Rising m → get_or w i 0 + most_apart < get_or m j 0 → Walked w m p (i + 1) j
  passes_watch r far = record {
    before = λ k q. v.before k (earlier i j (omega arith) (le_refl j) q);
    after = λ k q. ((v.after k q).0, pass_watch r far (v.after k q).1, (v.after k q).2);
  }

  passes_mat : Rising w → get_or m j 0 + most_apart < get_or w i 0 → Walked w m p i (j + 1)
  passes_mat r far = record {
    before = λ k q. v.before k (earlier i j (le_refl i) (omega arith) q);
    after = λ k q. ((v.after k q).0, pass_mat r far (v.after k q).1, (v.after k q).2);
  }

  pairs_one : i < length w → j < length m → Near (get_or w i 0) (get_or m j 0) → Walked w m (p + 1) (i + 1) (j + 1)
  pairs_one hi hj near = record {
    before = λ k q. subst (λ (x : ℕ). Pairing w m 0 0 x) (omega arith) (v.before (suc k) (pair i j (le_refl i) hi (le_refl j) hj near q));
    after = λ k q. first_gone p (v.after k q).0 (v.after k q).1 (v.after k q).2;
  }

  at_end : (length w ≤ i) ⊎ (length m ≤ j) → Largest w m p
  at_end e = (
    subst (λ (x : ℕ). Pairing w m 0 0 x) (add-zero p) (v.before 0 none),
    λ k q. subst (λ (x : ℕ). k ≤ x) (add-zero p) (subst (λ (x : ℕ). k ≤ p + x) (no_pair e (v.after k q).1) (v.after k q).2),
  )

-- ---- the report has as many pairs as any pairing
module _ (w m : List ℕ) (hw : Rising w) (hm : Rising m) where
  -- the pairs that the walk finds from places i and j on
  found : ℕ → ℕ → ℕ
  found i j = length (report (drop i w) (drop j m)).paired_watch

  found_by : {r : Lists} (i j : ℕ) → report (drop i w) (drop j m) ≡ r → found i j ≡ length r.paired_watch
  unfolding found
  found_by i j e = ap (λ (r : Lists). length r.paired_watch) e

  no_more : (i j p : ℕ) → (length w ≤ i) ⊎ (length m ≤ j) → Walked w m p i j → Largest w m (p + found i j)
  no_more i j p e v = subst (Largest w m) (sym (add-zero p) ∙ ap (p +◌) (sym (found_by i j (turn_last w m i j e)))) (at_end v e)

  -- one turn where both lists go on, by what the rest of the walk finds
  turn : (i j p : ℕ) → i < length w → j < length m → Walked w m p i j
      → (Walked w m p (i + 1) j → Largest w m (p + found (i + 1) j))
      → (Walked w m p i (j + 1) → Largest w m (p + found i (j + 1)))
      → (Walked w m (p + 1) (i + 1) (j + 1) → Largest w m (p + 1 + found (i + 1) (j + 1)))
      → Largest w m (p + found i j)
  unfolding found
  turn i j p hi hj v a b c = elim (dec_lt (get_or w i 0 + most_apart) (get_or m j 0)) as (λ _. Largest w m (p + found i j)) [
    | yes h ↦ subst (λ (n : ℕ). Largest w m (p + n)) (sym (found_by i j (turn_early w m i j hi hj h))) (a (passes_watch v hm h))
    | no h ↦ elim (dec_lt (get_or m j 0 + most_apart) (get_or w i 0)) as (λ _. Largest w m (p + found i j)) [
      | yes k ↦ subst (λ (n : ℕ). Largest w m (p + n)) (sym (found_by i j (turn_late w m i j hi hj k))) (b (passes_mat v hw k))
      | no k ↦
          let n : Near (get_or w i 0) (get_or m j 0) = (omega arith, omega arith) in
          subst (λ (n : ℕ). Largest w m (p + n)) (sym (found_by i j (turn_pair w m i j hi hj n)))
          (subst (Largest w m) (one_more p (found (i + 1) (j + 1))) (c (pairs_one v hi hj n)))
    ]
  ]
    where
      one_more : (x y : ℕ) → x + 1 + y ≡ x + suc y
      one_more x y = omega arith

  more : (n i j p : ℕ) → (length w - i) + (length m - j) ≤ n → Walked w m p i j → Largest w m (p + found i j)
  more zero i j p h v = no_more i j p (inl (omega arith)) v
  more (suc n) i j p h v = go (dec_lt i (length w)) (dec_lt j (length m)) (more n (i + 1) j p) (more n i (j + 1) p) (more n (i + 1) (j + 1) (p + 1))
    where
      go : Dec (i < length w) → Dec (j < length m)
          → ((length w - (i + 1)) + (length m - j) ≤ n → Walked w m p (i + 1) j → Largest w m (p + found (i + 1) j))
          → ((length w - i) + (length m - (j + 1)) ≤ n → Walked w m p i (j + 1) → Largest w m (p + found i (j + 1)))
          → ((length w - (i + 1)) + (length m - (j + 1)) ≤ n → Walked w m (p + 1) (i + 1) (j + 1) → Largest w m (p + 1 + found (i + 1) (j + 1)))
          → Largest w m (p + found i j)
      go (no hi) k a b c = no_more i j p (inl (omega arith)) v
      go (yes hi) (no hj) a b c = no_more i j p (inr (omega arith)) v
      go (yes hi) (yes hj) a b c = turn i j p hi hj v (a (omega arith)) (b (omega arith)) (c (omega arith))

  -- "The number of pairs must be the largest that any such pairing has"
  pub report_largest : Largest w m (length (report w m).paired_watch)
  unfolding found
  report_largest = subst (Largest w m) (zero-add _) (more (length w + length m) 0 0 0 (omega arith) (walk_begins w m))
