-- The lines of a script: "lines end in byte 10, and a last line without it counts too".
use Rattle.std.specs.Prelude.{ℕ, ◌+◌, ◌-◌, List, [], ◌∷◌, eqb, take}
use Rattle.bounded.specs.Search.{pick}
use Rattle.octets.specs.Octets.{part}
use Rattle.text.specs.Pieces.{find_from}

abbrev pub newline : ℕ
newline = 10

-- the first line begins with x
abbrev pub begun : ℕ → List (List ℕ) → List (List ℕ)
begun x [] = (x ∷ []) ∷ []
begun x (l ∷ ls) = (x ∷ l) ∷ ls

unfoldable pub lines_in : List ℕ → List (List ℕ)
lines_in [] = []
lines_in (x ∷ xs) = pick (eqb x newline) ([] ∷ lines_in xs) (begun x (lines_in xs))

-- "Only the first 65,536 bytes of a script are read."
abbrev pub most_script_bytes : ℕ
most_script_bytes = 65536

unfoldable pub script_lines : List ℕ → List (List ℕ)
script_lines s = lines_in (take most_script_bytes s)

-- ---- by places
-- the line that starts at a place: up to its byte 10, or to the end
unfoldable pub line_at : List ℕ → ℕ → List ℕ
line_at s at = part s at (find_from s newline at - at)

-- where the line after it starts
unfoldable pub next_at : List ℕ → ℕ → ℕ
next_at s at = find_from s newline at + 1
