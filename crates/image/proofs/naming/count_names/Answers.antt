use native.Mathlib.Omega.{arith}
use Rattle.bounded.proofs.CountLaws.{tally_start}
use Rattle.image.proofs.naming.count_names.Goals as goal

pub loop-k-init : goal.loop-k-init
loop-k-init c = (omega arith, tally_start _ 1 257)
