-- The first days of months as a table that the rule gives, and what stands at each of its places.
use Prim.Native.Nat.{ℕ, zero, suc, ◌+◌, ◌<◌}
use mathlib.Core.Path.{◌≡◌, sym, ap, ◌∙◌}
use mathlib.Core.List.{List, [], ◌∷◌}
use native.Mathlib.Nat.{add-zero, zero-add, add-suc, suc-add, le_of_suc-le-suc, not-suc-le-zero}
use lib.ListN.{get_or}
use Rattle.bounded.specs.Sum.{sum}
use Rattle.calendar.specs.Gregorian.{length_of, month_start}

-- n first days from month k on, whose first day is s
abbrev pub starts : ℕ → ℕ → ℕ → List ℕ
starts zero k s = []
starts (suc n) k s = s ∷ starts n (suc k) (s + length_of k)

starts_from : (n k i : ℕ) → i < n → get_or (starts n k (month_start k)) i 0 ≡ month_start (k + i)
unfolding sum
starts_from zero k i h = absurd (not-suc-le-zero h)
starts_from (suc n) k zero h = ap month_start (sym (add-zero k))
starts_from (suc n) k (suc i) h =
    starts_from n (suc k) i (le_of_suc-le-suc h) ∙ ap month_start (suc-add k i ∙ sym (add-suc k i))

pub starts_right : (n i : ℕ) → i < n → get_or (starts n 0 0) i 0 ≡ month_start i
unfolding sum
starts_right n i h = starts_from n 0 i h ∙ ap month_start (zero-add i)
