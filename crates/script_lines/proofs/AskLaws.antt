-- Laws of what a line asks for: what the code's turns and branches find is the definition's.
use Rattle.std.specs.Prelude.{None, Option}
use Prim.Native.Nat.{ℕ, ◌≤◌, ◌<◌}
use mathlib.Core.Path.{◌≡◌, refl}
use mathlib.Core.Bool.{Bool, true, false}
use mathlib.Core.List.{List}
use borrow.Author.Tests.{le-leb, lt-leb}
use lib.ListN.{length}
use Rattle.text.specs.Letters.{letters}
use Rattle.text.specs.Number.{number_of}
use Rattle.text.specs.Pieces.{is_word}
use Rattle.script_lines.specs.Ask.{field, text_from, most_digits, short_number, is_value, some, field_fits}

-- ---- numbers
module _ (s : List ℕ) where
  pub short_long : most_digits < length s → None ≡ short_number s
  unfolding short_number
  short_long l = rw (lt-leb (length s) most_digits l) refl

  pub short_is : length s ≤ most_digits → (r : Option ℕ) → r ≡ number_of s → r ≡ short_number s
  unfolding short_number
  short_is l r e = rw (le-leb (length s) most_digits l) e

-- ---- a field
module _ (p l s : List ℕ) (k : ℕ) (e : s ≡ field l k) (r : Bool) where
  pub fits_number : is_word p (letters "#") ≡ true → r ≡ is_value (short_number s) → r ≡ field_fits p l k
  unfolding field_fits
  fits_number h q = rw (h, ← e) q

  module _ (f : is_word p (letters "#") ≡ false) where
    pub fits_name : is_word p (letters "*") ≡ true → r ≡ some s → r ≡ field_fits p l k
    unfolding field_fits
    fits_name h q = rw (f, h, ← e) q

    module _ (g : is_word p (letters "*") ≡ false) where
      pub fits_text : is_word p (letters "~") ≡ true → (t : List ℕ) → t ≡ text_from l k → r ≡ some t → r ≡ field_fits p l k
      unfolding field_fits
      fits_text h t u q = rw (f, g, h, ← u) q

      pub fits_word : is_word p (letters "~") ≡ false → r ≡ is_word s p → r ≡ field_fits p l k
      unfolding field_fits
      fits_word h q = rw (f, g, h, ← e) q
