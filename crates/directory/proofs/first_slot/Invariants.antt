use Rattle.std.proofs.Common.{◌≡◌, ℕ, Bool, List}
use Rattle.bounded.specs.Search.{first}
use Rattle.directory.specs.Slot.{slots, entry_of}
use Rattle.directory.specs.Test.{Tests}
use Rattle.directory.proofs.SlotLaws.{from_block}
use Rattle.directory.proofs.first_slot.Given as goal

-- the slots before block k do not pass the test
abbrev pub invariant-loop-k : goal.invariant-loop-k
invariant-loop-k g l =
    (p : List ℕ → Bool) → Tests g.F.Fn l.passes p → first (λ t. p (entry_of l.s l.n l.d t)) (slots l.s l.d) ≡ from_block p l.s l.n l.d l.k
