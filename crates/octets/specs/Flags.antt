-- Which bytes of a number are not zero, as a number.
use Rattle.std.specs.Prelude.{ℕ, zero, suc, ◌+◌, ◌*◌, ◌/◌, ◌%◌}

-- the highest bit of a byte
abbrev pub flag : ℕ → ℕ
flag zero = 0
flag (suc b) = 128

-- 128 for each of the k lowest bytes of w that is not 0, and 0 for one that is
unfoldable pub flags : ℕ → ℕ → ℕ
flags zero w = 0
flags (suc k) w = flag (w % 256) + 256 * flags k (w / 256)
