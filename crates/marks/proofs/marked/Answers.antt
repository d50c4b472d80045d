use mathlib.Core.Path.{ap}
use Prim.Native.Nat.{ℕ, ◌/◌, ◌^◌}
use lib.Dec.{eqb}
use lib.Bits.{and_mask}
use Rattle.marks.specs.Mark.{marked, digit}
use Rattle.marks.proofs.marked.Goals as goal

pub returns : goal.returns
unfolding marked digit
returns c = ap (λ (d : ℕ). eqb d 1) (and_mask (c.args.w / 2 ^ c.args.slot) 1)
