use mathlib.Core.Path.{ap}
use lib.Bits.{bit_or}
use Rattle.marks.specs.Mark.{with_mark}
use Rattle.marks.proofs.MarkLaws.{one_shl}
use Rattle.marks.proofs.with_mark.Goals as goal

pub returns : goal.returns
unfolding with_mark
returns c = ap (bit_or c.args.w) (one_shl c.args.slot c.requires)
