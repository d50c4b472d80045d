use native.Mathlib.Omega.{arith}
use Rattle.directory.specs.Slot.{slot_at}
use Rattle.directory.proofs.slot_at.Goals as goal

pub returns : goal.returns
unfolding slot_at
returns c = omega arith
