use Prim.Native.Nat.{◌-◌, ◌≤◌}
use Rattle.dealer.proofs.Filling.{Filling, Ending}
use Rattle.dealer.proofs.parted.Given as goal

-- `dealer::parted` meets its contract. Assumes nothing.
abbrev pub invariant-loop-d : goal.invariant-loop-d
invariant-loop-d l =
    (l.d ≤ 16) × Filling l.flags l.last l.steps l.d l.place l.counts × Ending l.flags l.last l.ending l.place l.end

abbrev pub decreases-loop-d : goal.decreases-loop-d
decreases-loop-d l = 16 - l.d
