use mathlib.Core.Path.{ap}
use mathlib.Core.Bool.{not}
use Rattle.blocks.proofs.map.note_new.Goals as goal

pub returns : goal.returns
returns c = (ap not c.has-new.ensures, c.note.ensures)
