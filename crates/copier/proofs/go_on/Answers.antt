use Rattle.copier.proofs.StepLaws.{at_rest, at_work, step_rests, step_works}
use Rattle.copier.proofs.go_on.Goals as goal

pub returns-then-not-runs : goal.returns-then-not-runs
returns-then-not-runs c = let a = c.args in step_rests a.s.now a.m.now a.d.now a.w.inodes (at_rest a.s.now a.m.now a.d.now _ c.requires.0 _ c.runs.ensures c.if-not-runs.true-raw)

pub advance-requires : goal.advance-requires
advance-requires c = let a = c.args in (c.requires.0, c.requires.1, c.requires.2, at_work a.s.now a.m.now a.d.now _ c.requires.0 _ c.runs.ensures c.if-not-runs.false-raw)

pub returns : goal.returns
returns c = let a = c.args in step_works a.s.now a.m.now a.d.now a.w.inodes _ (at_work a.s.now a.m.now a.d.now _ c.requires.0 _ c.runs.ensures c.if-not-runs.false-raw) c.advance.ensures
