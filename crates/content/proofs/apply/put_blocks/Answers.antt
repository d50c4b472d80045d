use mathlib.Core.Path.{refl}
use Rattle.content.proofs.CodeLaws.{put_short, put_long}
use Rattle.content.proofs.apply.put_blocks.Goals as goal

pub returns-then-z-le-MOST_DIRECT_BYTES : goal.returns-then-z-le-MOST_DIRECT_BYTES
returns-then-z-le-MOST_DIRECT_BYTES c = put_short _ _ _ _ _ _ _ _ _ c.read-old.ensures c.direct.ensures c.with_blocks.ensures c.write.ensures c.if-z-le-MOST_DIRECT_BYTES.true

pub returns : goal.returns
returns c = put_long _ _ _ _ _ _ _ _ _ c.read-old.ensures c.direct.ensures c.with_blocks.ensures c.write.ensures c.if-z-le-MOST_DIRECT_BYTES.false _ _ _ refl c.block_at.ensures c.put_further.ensures
