-- The bytes of a text.
use Rattle.std.specs.Prelude.{ℕ, List, [], ◌∷◌}
use Prim.Native.Char.{code}
use Prim.Native.String.{String}
use Prim.Native.String as string

abbrev pub letters : String → List ℕ
letters string.[] = []
letters (string.◌∷◌ a s) = code a ∷ letters s
