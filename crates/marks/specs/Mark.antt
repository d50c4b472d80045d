-- "Bit s of a directory's mark word says that the entry in slot s was made during this copy."
use Rattle.std.specs.Prelude.{Bool, ℕ, ◌-◌, ◌/◌, ◌%◌, ◌^◌, eqb}
use Rattle.std.specs.Int.Bits.{bit_and, bit_or}

-- digit s of w in base two, 0 or 1
unfoldable pub digit : ℕ → ℕ → ℕ
digit w s = w / 2 ^ s % 2

-- bit s of w is set
unfoldable pub marked : ℕ → ℕ → Bool
marked w s = eqb (digit w s) 1

-- w with bit s set
unfoldable pub with_mark : ℕ → ℕ → ℕ
with_mark w s = bit_or w (2 ^ s)

-- the bits of a mark word
abbrev pub mark_bits : ℕ
mark_bits = 64

-- w with bit s clear
unfoldable pub without_mark : ℕ → ℕ → ℕ
without_mark w s = bit_and w (2 ^ mark_bits - 1 - 2 ^ s)
