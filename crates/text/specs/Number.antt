-- A number in base ten: one or more digits, of any count. A number beyond the largest usize counts as that one, so that no number wraps.
use Rattle.std.specs.Prelude.{ℕ, zero, suc, ◌+◌, ◌-◌, ◌*◌, min, Bool, ◌&&◌, List, leb, length, get_or, None, Option, Some}
use Rattle.bounded.specs.Search.{pick}
use Rattle.bounded.specs.Below.{all_below}

-- by cases on what a text says
abbrev pub on_number : {A : Type 0} → Option ℕ → (ℕ → A) → A → A
on_number (Some n) f a = f n
on_number None f a = a

abbrev pub largest : ℕ
largest = 18446744073709551615

-- byte k is one of `0` to `9`
unfoldable pub is_digit : List ℕ → ℕ → Bool
is_digit s k = leb 48 (get_or s k 0) && leb (get_or s k 0) 57

-- the number of the first k digits
unfoldable pub decimal : List ℕ → ℕ → ℕ
decimal s zero = 0
decimal s (suc k) = 10 * decimal s k + (get_or s k 0 - 48)

unfoldable pub number_of : List ℕ → Option ℕ
number_of s = pick (leb 1 (length s) && all_below (is_digit s) (length s)) (Some (min (decimal s (length s)) largest)) None
