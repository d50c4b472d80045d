use Prim.Native.Nat.{◌+◌, ◌-◌, ◌≤◌}
use mathlib.Core.Path.{◌≡◌}
use lib.ListN.{length, drop}
use Rattle.laps.specs.Walk.{lists, report}
use Rattle.laps.proofs.FrontLaws.{Written}
use Rattle.laps.proofs.walk.Given as goal

abbrev pub invariant-loop-i : goal.invariant-loop-i
invariant-loop-i l =
    (l.p ≤ l.i) × (l.p ≤ l.j) × (l.i ≤ length l.watch) × (l.j ≤ length l.mat)
    × (length l.paired_watch ≡ length l.initial.paired_watch) × (length l.paired_mat ≡ length l.initial.paired_mat) × (length l.alone_watch ≡ length l.initial.alone_watch) × (length l.alone_mat ≡ length l.initial.alone_mat)
    × Written (report l.watch l.mat) (report (drop l.i l.watch) (drop l.j l.mat)) l.p (l.i - l.p) (l.j - l.p) (lists l.initial.paired_watch l.initial.paired_mat l.initial.alone_watch l.initial.alone_mat) (lists l.paired_watch l.paired_mat l.alone_watch l.alone_mat)

abbrev pub decreases-loop-i : goal.decreases-loop-i
decreases-loop-i l =
    (length l.watch - l.i) + (length l.mat - l.j)
