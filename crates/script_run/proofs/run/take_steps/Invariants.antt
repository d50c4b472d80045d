use Rattle.std.proofs.Common.{◌≡◌, false, ◌-◌}
use Rattle.checkpoint.specs.Live.{world}
use Rattle.script_run.specs.Reply.{stepped}
use Rattle.script_run.proofs.run.take_steps.Given as goal

abbrev pub invariant-loop-k : goal.invariant-loop-k
invariant-loop-k l = stepped l.count (world l.store l.initial.image l.initial.desk) false ≡ stepped (l.count - l.k) (world l.store l.image l.desk) l.finished
