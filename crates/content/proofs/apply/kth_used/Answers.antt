use native.Mathlib.Omega.{arith}
use Rattle.content.proofs.PlaceLaws.{far_block, far_is}
use Rattle.content.proofs.apply.kth_used.Goals as goal

pub further-requires : goal.further-requires
further-requires c = let p = c.requires in far_block p.0 _ p.1 p.2 _ p.3 (omega arith) _ c.kth_block-2.ensures

pub returns : goal.returns
returns c = let p = c.requires in far_is p.0 _ p.1 p.2 _ p.3 (omega arith) _ _ c.kth_block-2.ensures c.further.ensures
