-- Laws of a search that answers the end where nothing passes, and of pieces.
use Prim.Native.Nat.{ℕ, ◌+◌, ◌-◌, ◌≤◌, ◌<◌}
use mathlib.Core.Path.{◌≡◌, refl, sym, ap, ◌∙◌}
use mathlib.Core.Bool.{Bool, true, false}
use mathlib.Core.List.{List, []}
use native.Mathlib.Omega.{arith}
use native.Mathlib.Numerals.{add-one}
use borrow.Author.Tests.{eq-eqb, ne_eqb}
use lib.Dec.{eqb}
use lib.ListN.{length, get_or, take, drop, length-drop, drop_of_length-le}
use lib.Seq.{take_all}
use Rattle.bounded.specs.Count.{count}
use Rattle.bounded.proofs.CountLaws.{count_hit, count_miss}
use Rattle.bounded.proofs.SearchLaws.{first_turn, first_found, first_end}
use Rattle.text.specs.Pieces.{place_from, find_from, piece_start, piece, rest, pieces}

-- ---- a loop's turns
module _ (f : ℕ → Bool) (c n : ℕ) where
  pub place_found : c < n → f c ≡ true → place_from f c n ≡ c
  unfolding place_from
  place_found l h = rw (first_found f c n l h) refl

  pub place_turn : c < n → f c ≡ false → place_from f c n ≡ place_from f (c + 1) n
  unfolding place_from
  place_turn l h = rw (first_turn f c n l h) refl

  pub place_end : n ≤ c → place_from f c n ≡ n
  unfolding place_from
  place_end l = rw (first_end f c n l) refl

-- ---- pieces
pub start_none : (s : List ℕ) (x : ℕ) → 0 ≡ piece_start s x 0
unfolding piece_start
start_none s x = refl

pub start_more : (s : List ℕ) (x k o e : ℕ) → o ≡ piece_start s x k → e ≡ find_from s x o → e + 1 ≡ piece_start s x (k + 1)
unfolding piece_start
start_more s x k o e p q = rw (q, p, add-one k) refl

-- all from a piece on, from its start
pub rest_is : (s : List ℕ) (x k a n : ℕ) → a ≡ piece_start s x k → n ≡ length s → take (n - a) (drop a s) ≡ rest s x k
unfolding rest
rest_is s x k a n p q = take_all (n - a) (drop a s) (omega (arith, length-drop a s)) ∙ ap (λ (o : ℕ). drop o s) p

-- none, past the end
pub rest_none : (s : List ℕ) (x k a : ℕ) → a ≡ piece_start s x k → length s ≤ a → [] ≡ rest s x k
unfolding rest
rest_none s x k a p q = sym (drop_of_length-le s q) ∙ ap (λ (o : ℕ). drop o s) p

-- a piece from the rest that it begins, and its end there
pub piece_is : (s r t : List ℕ) (x k e : ℕ) → r ≡ rest s x k → e ≡ find_from r x 0 → t ≡ take e r → t ≡ piece s x k
unfolding piece
piece_is s r t x k e p q h = h ∙ rw (q, p) refl

-- the count of pieces, byte by byte
unfoldable pub pieces_to : List ℕ → ℕ → ℕ → ℕ
pieces_to s x k = 1 + count (λ j. eqb (get_or s j 0) x) k

module _ (s : List ℕ) (x : ℕ) where
  pub pieces_none : 1 ≡ pieces_to s x 0
  unfolding pieces_to count
  pieces_none = refl

  pub pieces_more : (k n : ℕ) → n ≡ pieces_to s x k → get_or s k 0 ≡ x → n + 1 ≡ pieces_to s x (k + 1)
  unfolding pieces_to
  pieces_more k n e h = omega (arith, count_hit (λ j. eqb (get_or s j 0) x) k (eq-eqb _ x h))

  pub pieces_same : (k n : ℕ) → n ≡ pieces_to s x k → (get_or s k 0 ≡ x → ⊥) → n ≡ pieces_to s x (k + 1)
  unfolding pieces_to
  pieces_same k n e h = omega (arith, count_miss (λ j. eqb (get_or s j 0) x) k (ne_eqb _ x h))

  pub pieces_done : (k n : ℕ) → n ≡ pieces_to s x k → k ≡ length s → n ≡ pieces s x
  unfolding pieces_to pieces
  pieces_done k n e h = e ∙ ap (λ (j : ℕ). 1 + count (λ i. eqb (get_or s i 0) x) j) h
