use mathlib.Core.Path.{ap}
use Prim.Native.Nat.{ℕ, ◌-◌, ◌^◌}
use lib.Bits.{bit_and}
use Rattle.marks.specs.Mark.{without_mark}
use Rattle.marks.proofs.MarkLaws.{one_shl}
use Rattle.marks.proofs.without_mark.Goals as goal

pub returns : goal.returns
unfolding without_mark
returns c = ap (λ (m : ℕ). bit_and c.args.w (2 ^ 64 - 1 - m)) (one_shl c.args.slot c.requires)
