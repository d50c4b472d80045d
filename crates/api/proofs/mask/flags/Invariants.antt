use Prim.Native.Nat.{◌-◌, ◌≤◌}
use Rattle.api.proofs.MaskLaws.{Taken}
use Rattle.api.proofs.mask.flags.Given as goal

-- `api::mask::flags` meets its contract. Assumes nothing.
abbrev pub invariant-loop-b : goal.invariant-loop-b
invariant-loop-b l = (l.b ≤ 16) × Taken l.bits l.b l.flags

abbrev pub decreases-loop-b : goal.decreases-loop-b
decreases-loop-b l = 16 - l.b
