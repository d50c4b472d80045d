use mathlib.Core.Path.{◌∙◌}
use Rattle.entries.proofs.EnterLaws.{room_none, room_some, room_takes}
use Rattle.entries.proofs.apply.make_room.Goals as goal

pub add_block-requires : goal.add_block-requires
add_block-requires c = let p = c.requires in let t = room_takes _ _ _ _ _ p.0 p.1 p.2 _ c.in-Some.is in (t.inode, t.sized, t.low, t.high, t.few, t.free)

pub returns-in-Some : goal.returns-in-Some
returns-in-Some c = let p = c.requires in c.add_block.ensures ∙ room_some _ _ _ _ _ p.0 p.1 p.2 _ c.in-Some.is

pub returns-in_default : goal.returns-in_default
returns-in_default c = let p = c.requires in room_none _ _ _ _ _ p.0 p.1 p.2 c.in_default.is
