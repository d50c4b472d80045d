-- The reader holds the script, at a place up to which the lines are run and printed.
use Rattle.std.proofs.Common.{◌≡◌, ◌+◌, ◌-◌, length}
use Rattle.checkpoint.specs.Live.{world}
use Rattle.script.proofs.TurnLaws.{Turn}
use Rattle.script.proofs.lines_of.run.Given as goal

abbrev pub invariant-loop-r : goal.invariant-loop-r
invariant-loop-r l = (l.r.script.now ≡ l.script) × Turn l.script (world l.initial.store l.initial.image l.initial.desk) l.r.at (world l.store l.image l.desk) l.bytes

abbrev pub decreases-loop-r : goal.decreases-loop-r
decreases-loop-r l = length l.script + 1 - l.r.at
