-- A name as the code reads and compares it.
use Rattle.std.specs.Prelude.{ℕ, zero, suc, ◌+◌, ◌*◌, ◌/◌, ◌%◌, Bool, ◌&&◌, ◌||◌, List, eqb, get_or}
use Rattle.octets.specs.Octets.{num_at}
use Rattle.names.specs.Name.{dot, folded}
use Rattle.names.specs.Entry.{name_at}
use Rattle.names.specs.declared.Name.{Name}

-- "is not `.` or `..`": one dot or two and then a zero byte, as the code reads it
unfoldable pub has_dots : List ℕ → Bool
has_dots e = eqb (get_or e name_at 0) dot && (eqb (get_or e (name_at + 1) 0) 0 || (eqb (get_or e (name_at + 1) 0) dot && eqb (get_or e (name_at + 2) 0) 0))

-- the k lowest bytes of a number, each folded
unfoldable pub folds : ℕ → ℕ → ℕ
folds zero w = 0
folds (suc k) w = folded (w % 256) + 256 * folds k (w / 256)

-- The 14 bytes of a name from o on, folded, as two numbers, of 8 bytes and of 6 (folded as 8: the two above them are 0, and stay so): what the code compares.
unfoldable pub words_at : List ℕ → ℕ → Name
words_at s o = record { low = folds 8 (num_at 8 s o); high = folds 8 (num_at 6 s (o + 8)) }

unfoldable pub same_words : Name → Name → Bool
same_words a b = eqb a.low b.low && eqb a.high b.high
