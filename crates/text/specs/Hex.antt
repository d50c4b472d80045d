-- Bytes in hex, `-` for none: two digits a byte, the high one first, in either case.
use Rattle.std.specs.Prelude.{ℕ, ◌+◌, ◌-◌, ◌*◌, ◌/◌, ◌%◌, Bool, not, ◌&&◌, List, eqb, leb, length, get_or, None, Option, Some}
use Rattle.bounded.specs.Search.{pick}
use Rattle.bounded.specs.Below.{all_below}
use Rattle.bounded.specs.Table.{table}
use Rattle.octets.specs.Octets.{splice}
use Rattle.text.specs.Letters.{letters}
use Rattle.text.specs.Number.{on_number}
use Rattle.text.specs.Pieces.{is_word}

abbrev pub between : ℕ → ℕ → ℕ → Bool
between a x b = leb a x && leb x b

-- `0` to `9`, `A` to `F`, `a` to `f`; 16 for any other byte
unfoldable pub hex_value : ℕ → ℕ
hex_value x = pick (between 48 x 57) (x - 48) (pick (between 65 x 70) (x - 55) (pick (between 97 x 102) (x - 87) 16))

-- byte k is a digit
unfoldable pub hex_digit : List ℕ → ℕ → Bool
hex_digit s k = not (eqb (hex_value (get_or s k 0)) 16)

unfoldable pub is_hex : List ℕ → Bool
is_hex s = leb 1 (length s) && (eqb (length s % 2) 0 && all_below (hex_digit s) (length s))

-- how many bytes s is, if there is room for them
unfoldable pub hex_count : List ℕ → ℕ → Option ℕ
hex_count s room = pick (is_word s (letters "-")) (Some 0) (pick (is_hex s && leb (length s / 2) room) (Some (length s / 2)) None)

-- the byte of the digits 2k and 2k + 1
unfoldable pub hex_byte : List ℕ → ℕ → ℕ
hex_byte s k = (16 * hex_value (get_or s (2 * k) 0) + hex_value (get_or s (2 * k + 1) 0)) % 256

-- the buffer b with the bytes that s is at its front, if they have room there
unfoldable pub take_hex : List ℕ → List ℕ → List ℕ
take_hex s b = on_number (hex_count s (length b)) (λ n. splice b 0 (table (hex_byte s) n)) b
