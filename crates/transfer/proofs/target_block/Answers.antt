use Rattle.blocks.specs.Free.{long_but}
use Rattle.transfer.proofs.NamedLaws.{target_own, target_other}
use Rattle.transfer.proofs.target_block.Goals as goal

pub returns-then-is_unnamed : goal.returns-then-is_unnamed
returns-then-is_unnamed c = let a = c.args in target_own (long_but a.m.now a.l a.long) a.m.now a.n a.c a.b _ c.is_unnamed.ensures c.if-is_unnamed.true

pub returns : goal.returns
returns c = let a = c.args in target_other (long_but a.m.now a.l a.long) a.m.now a.n a.c a.b _ c.is_unnamed.ensures _ c.if-is_unnamed.false c.free_block.ensures
