use lib.Bits.{and_le_r}
use Rattle.octets.proofs.FlagLaws.{sum_fits, flags_are}
use Rattle.octets.proofs.nonzero.Goals as goal

pub overflow_add-result : goal.overflow_add-result
overflow_add-result c = record { fits = sum_fits _ (and_le_r c.args.w 9187201950435737471) }

pub returns : goal.returns
returns c = flags_are 8 c.args.w
