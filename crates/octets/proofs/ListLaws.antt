-- A test at every element of a part of a list, as a test at every number below a bound.
use Rattle.std.proofs.Common.{◌≡◌, ℕ, ◌+◌, ◌≤◌, Bool, List, length, get_or, ap, ◌∙◌}
use Rattle.std.specs.List.{list_all}
use Rattle.bounded.specs.Below.{all_below}
use Rattle.bounded.proofs.BelowLaws.{all_ext}
use Rattle.bounded.proofs.ListLaws.{list_all-below}
use Rattle.octets.specs.Octets.{part}
use Rattle.octets.proofs.PartLaws.{length_inside, get_d_part}

pub list_all-part : (p : ℕ → Bool) (s : List ℕ) (o n : ℕ) → o + n ≤ length s → list_all p (part s o n) ≡ all_below (λ j. p (get_or s (o + j) 0)) n
list_all-part p s o n h =
    list_all-below p 0 (part s o n)
    ∙ ap (all_below (λ j. p (get_or (part s o n) j 0))) (length_inside s o n h)
    ∙ all_ext (λ j. p (get_or (part s o n) j 0)) (λ j. p (get_or s (o + j) 0)) n (λ j l. ap p (get_d_part s o n j l))
