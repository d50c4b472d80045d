use Rattle.std.proofs.Common.{◌≡◌, ◌*◌, ◌-◌, ℕ, Bool, List}
use Rattle.bounded.specs.Search.{first, first_from}
use Rattle.octets.specs.Octets.{part}
use Rattle.directory.specs.Test.{Tests}
use Rattle.directory.proofs.first_in_block.Given as goal

-- the slots before j do not pass the test
abbrev pub invariant-loop-j : goal.invariant-loop-j
invariant-loop-j g l =
    (p : List ℕ → Bool) → Tests g.F.Fn l.passes p →
    first (λ i. p (part l.block (16 * i) 16)) 4 ≡ first_from (λ i. p (part l.block (16 * i) 16)) l.j (4 - l.j)
