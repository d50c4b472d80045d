-- The report's equations, one for each turn of the walk, also from places in the two lists on; and
-- induction along a walk.
use Prim.Native.Nat.{ℕ, suc, ◌+◌, ◌-◌, ◌≤◌, ◌<◌}
use mathlib.Core.Path.{◌≡◌, refl, sym, ap, subst, ◌∙◌}
use mathlib.Core.List.{List, [], ◌∷◌}
use mathlib.Core.Logic.{◌⊎◌, ⊎_elim}
use native.Mathlib.Decide.{dec_lt}
use native.Mathlib.Omega.{arith}
use borrow.Author.Tests.{le-leb, lt-leb, lt-ltb, le-ltb}
use lib.ListN.{length, get_or, drop, length-drop}
use lib.Seq.{drop-cons}
use Rattle.laps.specs.Times.{most_apart, Near}
use Rattle.laps.specs.Walk.{Lists, lists, paired, watch_aside, mat_aside, walk_from, report}

-- ---- the foremost times are a and b
module _ (a b : ℕ) (w m : List ℕ) where
  pub report_early : a + most_apart < b → report (a ∷ w) (b ∷ m) ≡ watch_aside a (report w (b ∷ m))
  unfolding report walk_from
  report_early h = rw (le-leb a (b + most_apart) (omega arith), lt-leb b (a + most_apart) h, lt-ltb a b (omega arith)) refl

  pub report_late : b + most_apart < a → report (a ∷ w) (b ∷ m) ≡ mat_aside b (report (a ∷ w) m)
  unfolding report walk_from
  report_late h = rw (lt-leb a (b + most_apart) h, le-ltb a b (omega arith)) refl

  pub report_pair : Near a b → report (a ∷ w) (b ∷ m) ≡ paired a b (report w m)
  unfolding report walk_from
  report_pair h = rw (le-leb a (b + most_apart) h.0, le-leb b (a + most_apart) h.1) refl

-- ---- one list is at its end
pub report_no_mat : (w : List ℕ) → report w [] ≡ lists [] [] w []
unfolding report walk_from
report_no_mat [] = refl
report_no_mat (a ∷ w) = ap (watch_aside a) (report_no_mat w)

pub report_no_watch : (m : List ℕ) → report [] m ≡ lists [] [] [] m
unfolding report
report_no_watch m = refl

-- ---- the walk, case by case: what holds of no times, and of a turn's times if of those after it, holds
-- of all
pub record Turns (P : List ℕ → List ℕ → Lists → Type 0) : Type 0 where
  pub no_watch : (m : List ℕ) → P [] m (lists [] [] [] m)
  pub no_mat : (w : List ℕ) → P w [] (lists [] [] w [])
  pub early : (a b : ℕ) (w m : List ℕ) → a + most_apart < b → P w (b ∷ m) (report w (b ∷ m)) → P (a ∷ w) (b ∷ m) (watch_aside a (report w (b ∷ m)))
  pub late : (a b : ℕ) (w m : List ℕ) → b + most_apart < a → P (a ∷ w) m (report (a ∷ w) m) → P (a ∷ w) (b ∷ m) (mat_aside b (report (a ∷ w) m))
  pub near : (a b : ℕ) (w m : List ℕ) → Near a b → P w m (report w m) → P (a ∷ w) (b ∷ m) (paired a b (report w m))

one_turn : (P : List ℕ → List ℕ → Lists → Type 0) → Turns P → (a b : ℕ) (w m : List ℕ)
    → P w (b ∷ m) (report w (b ∷ m)) → P (a ∷ w) m (report (a ∷ w) m) → P w m (report w m) → P (a ∷ w) (b ∷ m) (report (a ∷ w) (b ∷ m))
one_turn P t a b w m early late both = elim (dec_lt (a + most_apart) b) as (λ _. P (a ∷ w) (b ∷ m) (report (a ∷ w) (b ∷ m))) [
  | yes h ↦ subst (P (a ∷ w) (b ∷ m)) (sym (report_early a b w m h)) (t.early a b w m h early)
  | no h ↦ elim (dec_lt (b + most_apart) a) as (λ _. P (a ∷ w) (b ∷ m) (report (a ∷ w) (b ∷ m))) [
    | yes k ↦ subst (P (a ∷ w) (b ∷ m)) (sym (report_late a b w m k)) (t.late a b w m k late)
    | no k ↦ let n : Near a b = (omega arith, omega arith) in subst (P (a ∷ w) (b ∷ m)) (sym (report_pair a b w m n)) (t.near a b w m n both)
  ]
]

pub by_turns : (P : List ℕ → List ℕ → Lists → Type 0) → Turns P → (w m : List ℕ) → P w m (report w m)
by_turns P t [] m = subst (P [] m) (sym (report_no_watch m)) (t.no_watch m)
by_turns P t (a ∷ w) m = against (λ l. by_turns P t w l) m
  where
    against : ((l : List ℕ) → P w l (report w l)) → (m : List ℕ) → P (a ∷ w) m (report (a ∷ w) m)
    against later [] = subst (P (a ∷ w) []) (sym (report_no_mat (a ∷ w))) (t.no_mat (a ∷ w))
    against later (b ∷ m) = one_turn P t a b w m (later (b ∷ m)) (against later m) (later m)

-- ---- from places in the two lists on
pub drop_one : (l : List ℕ) (i : ℕ) → i < length l → drop i l ≡ get_or l i 0 ∷ drop (i + 1) l
drop_one l i h = let e : suc i ≡ i + 1 = omega arith in drop-cons l i 0 h ∙ ap (λ (k : ℕ). get_or l i 0 ∷ drop k l) e

pub drop_past : (l : List ℕ) (i : ℕ) → length l ≤ i → drop i l ≡ []
drop_past l i h = go (drop i l) (length-drop i l ∙ (let e : length l - i ≡ 0 = omega arith in e))
  where
    go : (xs : List ℕ) → length xs ≡ 0 → xs ≡ []
    go [] e = refl
    go (x ∷ xs) e = absurd (omega arith)

module _ (w m : List ℕ) (i j : ℕ) where
  pub turn_early : i < length w → j < length m → get_or w i 0 + most_apart < get_or m j 0 → report (drop i w) (drop j m) ≡ watch_aside (get_or w i 0) (report (drop (i + 1) w) (drop j m))
  turn_early hi hj h = rw (drop_one w i hi, drop_one m j hj) (report_early _ _ _ _ h)

  pub turn_late : i < length w → j < length m → get_or m j 0 + most_apart < get_or w i 0 → report (drop i w) (drop j m) ≡ mat_aside (get_or m j 0) (report (drop i w) (drop (j + 1) m))
  turn_late hi hj h = rw (drop_one w i hi, drop_one m j hj) (report_late _ _ _ _ h)

  pub turn_pair : i < length w → j < length m → Near (get_or w i 0) (get_or m j 0) → report (drop i w) (drop j m) ≡ paired (get_or w i 0) (get_or m j 0) (report (drop (i + 1) w) (drop (j + 1) m))
  turn_pair hi hj h = rw (drop_one w i hi, drop_one m j hj) (report_pair _ _ _ _ h)

  pub turn_last : (length w ≤ i) ⊎ (length m ≤ j) → report (drop i w) (drop j m) ≡ lists [] [] (drop i w) (drop j m)
  turn_last e =
      ⊎_elim (λ (h : length w ≤ i). rw (drop_past w i h) (report_no_watch (drop j m)))
      (λ (h : length m ≤ j). rw (drop_past m j h) (report_no_mat (drop i w))) e
