use Rattle.blocks.proofs.MapLaws.{note_none, note_bit}
use Rattle.blocks.proofs.map.note.Goals as goal

pub returns-then-b-eq0 : goal.returns-then-b-eq0
returns-then-b-eq0 c = note_none _ _ c.if-b-eq0.true

pub returns : goal.returns
returns c = note_bit _ _ c.if-b-eq0.false c.requires.0
