-- Byte lists: a part read, a part written, and numbers low byte first.
use Rattle.std.specs.Prelude.{ℕ, zero, suc, ◌+◌, ◌*◌, ◌/◌, ◌%◌, ◌≤◌, ◌<◌, min, max, List, [], ◌∷◌, ◌++◌, get_or, set, take, drop, replicate}

-- the k bytes of s from o on
unfoldable pub part : List ℕ → ℕ → ℕ → List ℕ
part s o k = take k (drop o s)

-- s with the bytes xs from o on
unfoldable pub splice : List ℕ → ℕ → List ℕ → List ℕ
splice s o [] = s
splice s o (x ∷ xs) = splice (set s o x) (o + 1) xs

-- k bytes from o on and m bytes from p on have no byte in common
abbrev pub Apart : ℕ → ℕ → ℕ → ℕ → Type 0
Apart o k p m = min (o + k) (p + m) ≤ max o p

-- every element is a byte
abbrev pub Octets : List ℕ → Type 0
Octets s = (i : ℕ) → get_or s i 0 < 256

-- the number of k bytes that stands at o, low byte first
unfoldable pub num_at : ℕ → List ℕ → ℕ → ℕ
num_at zero s o = 0
num_at (suc zero) s o = get_or s o 0
num_at (suc (suc k)) s o = get_or s o 0 + 256 * num_at (suc k) s (o + 1)

-- v as k bytes, low byte first; the last takes all that is left of v
unfoldable pub to_bytes : ℕ → ℕ → List ℕ
to_bytes zero v = []
to_bytes (suc zero) v = v ∷ []
to_bytes (suc (suc k)) v = v % 256 ∷ to_bytes (suc k) (v / 256)

-- s with v as the number of k bytes at o
unfoldable pub put_num : ℕ → List ℕ → ℕ → ℕ → List ℕ
put_num k s o v = splice s o (to_bytes k v)

-- s with k zero bytes from o on
unfoldable pub zeroed : List ℕ → ℕ → ℕ → List ℕ
zeroed s o k = splice s o (replicate k 0)

-- d with, from o on, the k bytes of s that stand from p on
unfoldable pub pasted : List ℕ → ℕ → List ℕ → ℕ → ℕ → List ℕ
pasted d o s p k = splice d o (part s p k)

-- numbers of two bytes each, one after the other
unfoldable pub word_bytes : List ℕ → List ℕ
word_bytes [] = []
word_bytes (v ∷ vs) = to_bytes 2 v ++ word_bytes vs
