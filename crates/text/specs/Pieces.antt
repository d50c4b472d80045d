-- A text in pieces, which a byte parts: fields by a space, lines by a newline.
use Rattle.std.specs.Prelude.{ℕ, zero, suc, ◌+◌, ◌-◌, Bool, ◌&&◌, List, eqb, length, get_or, take, drop}
use Rattle.bounded.specs.Below.{all_below}
use Rattle.bounded.specs.Count.{count}
use Rattle.bounded.specs.Search.{first_from, on_found}

-- the lowest number from o on and below n at which f holds, else n
unfoldable pub place_from : (ℕ → Bool) → ℕ → ℕ → ℕ
place_from f o n = on_found (first_from f o (n - o)) (λ t. t) n

-- the place of the first x from o on, else the end
unfoldable pub find_from : List ℕ → ℕ → ℕ → ℕ
find_from s x o = place_from (λ k. eqb (get_or s k 0) x) o (length s)

-- where piece k starts, counted from 0; past the end if there are fewer
unfoldable pub piece_start : List ℕ → ℕ → ℕ → ℕ
piece_start s x zero = 0
piece_start s x (suc k) = find_from s x (piece_start s x k) + 1

-- all from piece k on, with the bytes that part the pieces; empty if there are fewer
unfoldable pub rest : List ℕ → ℕ → ℕ → List ℕ
rest s x k = drop (piece_start s x k) s

-- piece k: what stands before the first x from its start on; empty if there are fewer
unfoldable pub piece : List ℕ → ℕ → ℕ → List ℕ
piece s x k = take (find_from (rest s x k) x 0) (rest s x k)

-- how many pieces there are
unfoldable pub pieces : List ℕ → ℕ → ℕ
pieces s x = 1 + count (λ k. eqb (get_or s k 0) x) (length s)

-- the same bytes
unfoldable pub is_word : List ℕ → List ℕ → Bool
is_word s w = eqb (length s) (length w) && all_below (λ k. eqb (get_or s k 0) (get_or w k 0)) (length w)
