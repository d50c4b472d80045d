-- Laws of the lines of a script: the line at a place is the first of the lines from there on.
use Prim.Native.Nat.{ℕ, zero, suc, ◌+◌, ◌-◌, ◌≤◌, ◌<◌}
use mathlib.Core.Path.{◌≡◌, refl, sym, ap, ap₂, ◌∙◌}
use mathlib.Core.Bool.{Bool, true, false}
use mathlib.Core.List.{List, [], ◌∷◌}
use native.Mathlib.Omega.{arith}
use lib.Dec.{eqb}
use lib.ListN.{length, get_or, take, drop, drop_of_length-le}
use lib.Seq.{drop-cons}
use Rattle.bounded.specs.Search.{pick}
use Rattle.octets.specs.Octets.{part}
use Rattle.octets.proofs.PartLaws.{part_cons, part_one}
use Rattle.text.specs.Pieces.{find_from}
use Rattle.text.proofs.PieceLaws.{place_found, place_turn, place_end}
use Rattle.script_lines.specs.Lines.{begun, lines_in, line_at, next_at}

-- the line as the code cuts it out
pub cut_line : (s : List ℕ) (at e : ℕ) → e ≡ find_from s 10 at → take (e - at) (drop at s) ≡ line_at s at
unfolding line_at part
cut_line s at e h = rw h refl

-- past the end there is nothing
pub line_past : (s : List ℕ) (at e : ℕ) → e ≡ find_from s 10 at → e < at → [] ≡ line_at s at
unfolding line_at part
line_past s at e h l = let z : find_from s 10 at - at ≡ 0 = omega arith in rw z refl

pub next_is : (s : List ℕ) (at e : ℕ) → e ≡ find_from s 10 at → e + 1 ≡ next_at s at
unfolding next_at
next_is s at e h = rw h refl

-- ---- the first line, and the lines after it
-- e is where the line at `at` ends
record Splits (s : List ℕ) (at e : ℕ) : Type 0 where
  pub from : at ≤ e
  pub to : e ≤ length s
  pub lines : lines_in (drop at s) ≡ part s at (e - at) ∷ lines_in (drop (e + 1) s)

module _ (s : List ℕ) where
  head_is : (at : ℕ) → at < length s → lines_in (drop at s) ≡ pick (eqb (get_or s at 0) 10) ([] ∷ lines_in (drop (suc at) s)) (begun (get_or s at 0) (lines_in (drop (suc at) s)))
  unfolding lines_in
  head_is at l = rw (drop-cons s at 0 l) refl

  pub lines_end : (e : ℕ) → length s ≤ e → lines_in (drop e s) ≡ []
  unfolding lines_in
  lines_end e l = rw (drop_of_length-le s l) refl

  here : (at : ℕ) → at < length s → eqb (get_or s at 0) 10 ≡ true → Splits s at (find_from s 10 at)
  unfolding find_from part
  here at l h =
      let p = place_found (λ k. eqb (get_or s k 0) 10) at (length s) l h in
      let z : at - at ≡ 0 = omega arith in
      let o : at + 1 ≡ suc at = omega arith in
      rw p (record { from = omega arith; to = omega arith; lines = head_is at l ∙ rw (h, z, o) refl })

  last : (at : ℕ) → at < length s → eqb (get_or s at 0) 10 ≡ false → suc at ≡ length s → Splits s at (find_from s 10 at)
  unfolding find_from
  last at l h m =
      let o : at + 1 ≡ suc at = omega arith in
      let p : find_from s 10 at ≡ suc at = place_turn (λ k. eqb (get_or s k 0) 10) at (length s) l h ∙ place_end (λ k. eqb (get_or s k 0) 10) (at + 1) (length s) (omega arith) ∙ sym m in
      rw p (record { from = omega arith; to = omega arith; lines = head_is at l ∙ rw (h, lines_end (suc at) (omega arith)) (ap₂ (λ (a : List ℕ) (b : List (List ℕ)). a ∷ b) (part_one s at l) (sym (lines_end (suc at + 1) (omega arith)))) })

  more : (at : ℕ) → at < length s → eqb (get_or s at 0) 10 ≡ false → Splits s (suc at) (find_from s 10 (suc at)) → Splits s at (find_from s 10 at)
  unfolding find_from
  more at l h i =
      let o : at + 1 ≡ suc at = omega arith in
      let p : find_from s 10 at ≡ find_from s 10 (suc at) = place_turn (λ k. eqb (get_or s k 0) 10) at (length s) l h ∙ ap (find_from s 10) o in
      rw p (record { from = omega (arith, i.from); to = i.to; lines = head_is at l ∙ rw (h, i.lines) (ap (λ (a : List ℕ). a ∷ lines_in (drop (find_from s 10 (suc at) + 1) s)) (part_cons s at (find_from s 10 (suc at)) l i.from)) })

  splits : (k at : ℕ) → at + suc k ≡ length s → Splits s at (find_from s 10 at)
  splits zero at e = go (eqb (get_or s at 0) 10) refl
    where
      go : (b : Bool) → eqb (get_or s at 0) 10 ≡ b → Splits s at (find_from s 10 at)
      go true h = here at (omega arith) h
      go false h = last at (omega arith) h (omega arith)
  splits (suc k) at e = go (eqb (get_or s at 0) 10) refl (splits k (suc at) (omega arith))
    where
      go : (b : Bool) → eqb (get_or s at 0) 10 ≡ b → Splits s (suc at) (find_from s 10 (suc at)) → Splits s at (find_from s 10 at)
      go true h i = here at (omega arith) h
      go false h i = more at (omega arith) h i

  pub lines_first : (at : ℕ) → at < length s → lines_in (drop at s) ≡ line_at s at ∷ lines_in (drop (next_at s at) s)
  unfolding line_at next_at
  lines_first at l = (splits (length s - (at + 1)) at (omega arith)).lines

  pub next_later : (at : ℕ) → at < length s → at < next_at s at
  unfolding next_at
  next_later at l = let h = (splits (length s - (at + 1)) at (omega arith)).from in omega arith

  pub next_within : (at : ℕ) → at < length s → next_at s at ≤ length s + 1
  unfolding next_at
  next_within at l = let h = (splits (length s - (at + 1)) at (omega arith)).to in omega arith
