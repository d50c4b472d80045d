use mathlib.Core.Path.{sym, ◌∙◌}
use Rattle.copier.proofs.StartLaws.{image_room, begin_running, begin_done}
use Rattle.copier.proofs.begin.Goals as goal

pub returns-then-runs : goal.returns-then-runs
returns-then-runs c = λ s p. begin_running _ _ _ c.requires.0 s (sym c.runs.ensures ∙ c.if-runs.true)

pub start_desk-requires : goal.start_desk-requires
start_desk-requires c = let p = c.requires in let a = image_room _ _ _ p.2 c.image_blocks-b.ensures in (p.0, p.3, a.few)

pub returns : goal.returns
returns c = λ s p. begin_done _ _ _ c.requires.0 s (sym c.runs.ensures ∙ c.if-runs.false) _ _ _ _ p c.image_blocks-b.ensures c.start_image.ensures c.start_desk.ensures
