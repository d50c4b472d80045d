-- Text put into a buffer, and numbers and bytes as text.
use Rattle.std.specs.Prelude.{ℕ, zero, suc, ◌+◌, ◌/◌, ◌≡◌, List, [], ◌∷◌, ◌++◌, ltb, length}
use Rattle.io.specs.Digits.{last_digits}
use Rattle.bounded.specs.Search.{pick}
use Rattle.octets.specs.Octets.{splice}
use Rattle.text.specs.Letters.{letters}

-- xs was put into s at o: where it ends, and the buffer that is left
pub record Put (s : List ℕ) (o : ℕ) (xs : List ℕ) (e : ℕ) (t : List ℕ) : Type 0 where
  pub ends : e ≡ o + length xs
  pub holds : t ≡ splice s o xs

-- how many decimal digits n has, at most suc f
unfoldable pub places : ℕ → ℕ → ℕ
places zero n = 1
places (suc f) n = pick (ltb n 10) 1 (suc (places f (n / 10)))

-- a number of 64 bits in decimal, without leading zeros
unfoldable pub decimal_text : ℕ → List ℕ
decimal_text n = last_digits 10 (places 19 n) n

-- two numbers, the first after a word
unfoldable pub pair_text : List ℕ → ℕ → ℕ → List ℕ
pair_text w a b = (w ++ decimal_text a) ++ (letters " " ++ decimal_text b)

-- each of some numbers, as f has it
unfoldable pub each : (ℕ → List ℕ) → List ℕ → List ℕ
each f [] = []
each f (x ∷ xs) = f x ++ each f xs

-- two hex digits a byte, `-` for no bytes
unfoldable pub bytes_text : List ℕ → List ℕ
bytes_text [] = letters "-"
bytes_text (x ∷ xs) = each (last_digits 16 2) (x ∷ xs)
