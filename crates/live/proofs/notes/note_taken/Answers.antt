use mathlib.Core.Path.{◌∙◌}
use Rattle.checkpoint.specs.Notes.{note_taken}
use Rattle.live.proofs.NoteLaws.{while_running, while_idle}
use Rattle.live.proofs.notes.note_taken.Goals as goal

pub returns-then-runs : goal.returns-then-runs
unfolding note_taken
returns-then-runs c = c.clear_mark.ensures ∙ while_running _ _ c.requires.0 _ c.runs.ensures _ c.if-runs.true

pub returns-else-runs : goal.returns-else-runs
unfolding note_taken
returns-else-runs c = while_idle _ _ c.requires.0 _ c.runs.ensures _ c.if-runs.false
