-- The map of days: what is noted is noted, and nothing else changes.
use Prim.Native.Nat.{ℕ, ◌+◌, ◌/◌, ◌%◌, ◌<◌}
use mathlib.Core.Path.{◌≡◌, sym, ap, ap₂, ◌∙◌}
use mathlib.Core.Bool.{Bool, true, not, ◌&&◌}
use mathlib.Core.List.{List}
use native.Mathlib.Decide.{ℕ_discrete}
use native.Mathlib.Omega.{arith}
use borrow.Author.Tests.{lt-ltb, le-leb, lt-leb, ltb-true, leb-true, eq-eqb, eqb-true}
use lib.Dec.{eqb, leb, ltb}
use lib.ListN.{length, get_or, replicate, length-replicate, length-set, get_or-replicate}
use lib.Seq.{get_or-set_same, get_or-set_other}
use Rattle.bounded.specs.Below.{some_below}
use Rattle.bounded.proofs.BelowLaws.{some_of, some_at, none_some}
use Rattle.bounded.proofs.BoolLaws.{same_test, and-true, and_left, and_right, and_false_l}
use Rattle.marks.specs.Mark.{marked, with_mark}
use Rattle.marks.proofs.MarkLaws.{with_same, with_other, mark_none}
use Rattle.keeping.specs.Keeping.{copy_count, day_of, looked_at}
use Rattle.keeping.specs.Days.{day_words, day_bits, noted, noting, NotedFrom}
use Rattle.keeping.proofs.LoopLaws.{some_ext}

noted_same : (l : List ℕ) (d : ℕ) → length l ≡ day_words → d < day_bits → noted (noting l d) d ≡ true
unfolding noted noting
noted_same l d h k =
    ap (λ (w : ℕ). marked w (d % 64)) (get_or-set_same l (d / 64) (with_mark (get_or l (d / 64) 0) (d % 64)) 0 (omega arith)) ∙ with_same (get_or l (d / 64) 0) (d % 64)

noted_other : (l : List ℕ) (d e : ℕ) → length l ≡ day_words → d < day_bits → (e ≡ d → ⊥) → noted (noting l d) e ≡ noted l e
unfolding noted noting
noted_other l d e h k n = elim (ℕ_discrete (e / 64) (d / 64)) as (λ _. noted (noting l d) e ≡ noted l e) [
  | yes q ↦
      let b : e % 64 ≡ d % 64 → ⊥ = λ z. n (same z q) in
      ap (λ (w : ℕ). marked w (e % 64)) (ap (λ (j : ℕ). get_or (noting l d) j 0) q ∙ get_or-set_same l (d / 64) (with_mark (get_or l (d / 64) 0) (d % 64)) 0 (omega arith))
      ∙ with_other (get_or l (d / 64) 0) (d % 64) (e % 64) b
      ∙ ap (λ (j : ℕ). marked (get_or l j 0) (e % 64)) (sym q)
  | no q ↦ ap (λ (w : ℕ). marked w (e % 64)) (get_or-set_other l (d / 64) (e / 64) (with_mark (get_or l (d / 64) 0) (d % 64)) 0 q)
]
  where
    same : e % 64 ≡ d % 64 → e / 64 ≡ d / 64 → e ≡ d
    same z q = omega arith

noting_long : (l : List ℕ) (d : ℕ) → length (noting l d) ≡ length l
unfolding noting
noting_long l d = length-set l (d / 64) (with_mark (get_or l (d / 64) 0) (d % 64))

-- ---- the walk from the list's end
module _ (cs : List ℕ) where
  -- copy j, from i on, has day d
  abbrev has_day : ℕ → ℕ → ℕ → Bool
  has_day i d j = leb i j && eqb (day_of cs j) d

  -- before it
  pub none_noted : NotedFrom cs (copy_count cs) (replicate day_words 0)
  unfolding noted
  none_noted = record {
    long = let z : ℕ = 0 in length-replicate day_words z;
    each = λ d h.
        ap (λ (w : ℕ). marked w (d % 64)) (get_or-replicate day_words (d / 64) 0 0 (omega arith))
        ∙ mark_none (d % 64)
        ∙ sym (none_some (has_day (copy_count cs) d) (copy_count cs) (λ j l. and_false_l (leb (copy_count cs) j) _ (lt-leb (copy_count cs) j l)));
  }

  -- a turn: copy i is noted, after the copies behind it
  pub one_noted : (i d : ℕ) (map : List ℕ) → i < copy_count cs → d ≡ day_of cs i → d < day_bits → NotedFrom cs (i + 1) map → NotedFrom cs i (noting map d)
  one_noted i d map l e b m = record {
    long = noting_long map d ∙ m.long;
    each = λ x h. at x h (ℕ_discrete x d);
  }
    where
      at : (x : ℕ) → x < day_bits → Dec (x ≡ d) → noted (noting map d) x ≡ some_below (has_day i x) (copy_count cs)
      at x h (yes q) =
          ap (noted (noting map d)) q ∙ noted_same map d m.long b
          ∙ sym (some_of (has_day i x) (copy_count cs) i l (and-true (leb i i) _ (le-leb i i (omega arith)) (eq-eqb (day_of cs i) x (sym e ∙ sym q))))
      at x h (no q) =
          noted_other map d x m.long b q ∙ m.each x h
          ∙ same_test (some_below (has_day (i + 1) x) (copy_count cs)) (some_below (has_day i x) (copy_count cs))
          (λ t.
          let r = some_at (has_day (i + 1) x) (copy_count cs) t in
          let a = leb-true (i + 1) r.0 (and_left (leb (i + 1) r.0) _ r.2) in
          some_of (has_day i x) (copy_count cs) r.0 r.1 (and-true (leb i r.0) _ (le-leb i r.0 (omega arith)) (and_right (leb (i + 1) r.0) _ r.2)))
          (λ t.
          let r = some_at (has_day i x) (copy_count cs) t in
          let a = leb-true i r.0 (and_left (leb i r.0) _ r.2) in
          let f = eqb-true (day_of cs r.0) x (and_right (leb i r.0) _ r.2) in
          let n : r.0 ≡ i → ⊥ = λ z. q (sym f ∙ ap (day_of cs) z ∙ sym e) in
          some_of (has_day (i + 1) x) (copy_count cs) r.0 r.1 (and-true (leb (i + 1) r.0) _ (le-leb (i + 1) r.0 (omega arith)) (and_right (leb i r.0) _ r.2)))

  -- what is not noted by a copy behind it is looked at
  pub looks : (i d : ℕ) (map : List ℕ) → d ≡ day_of cs i → d < day_bits → NotedFrom cs (i + 1) map → not (noted map d) ≡ looked_at cs i
  looks i d map e b m =
      ap not (m.each d b ∙ some_ext (has_day (i + 1) d) (λ j. ltb i j && eqb (day_of cs j) (day_of cs i)) (copy_count cs)
      (λ j l. ap₂ ◌&&◌ (after i j) (ap (eqb (day_of cs j)) e)))
    where
      after : (i j : ℕ) → leb (i + 1) j ≡ ltb i j
      after i j = same_test (leb (i + 1) j) (ltb i j) (λ t. let h = leb-true (i + 1) j t in lt-ltb i j (omega arith)) (λ t. let h = ltb-true i j t in le-leb (i + 1) j (omega arith))
