use Rattle.check_inodes.proofs.InodeLaws.{last_short, last_long, last_further, attr_small}
use Rattle.blocks.proofs.KthLaws.{kth_direct}
use Rattle.std.proofs.Common.{refl, ◌∙◌, arith}
use Rattle.check_inodes.proofs.last_block.Goals as goal

pub returns-then-size-le-MOST_DIRECT_BYTES : goal.returns-then-size-le-MOST_DIRECT_BYTES
returns-then-size-le-MOST_DIRECT_BYTES c = let p = c.requires in last_short _ _ _ _ p.size_value.0 p.size_value.1 _ (omega arith) c.kth_block.ensures

pub further-requires : goal.further-requires
further-requires c =
    let p = c.requires in
    let e = c.kth_block-a.ensures ∙ kth_direct _ _ _ _ 11 (omega arith) in
    let r = last_long _ _ _ _ p.size_value.0 p.size_value.1 _ p.sized.2 p.sized.3 (omega arith) in
    let m = attr_small _ _ p.sized.2 in
    (p.sized.0.inodes, omega (arith, e, r.0), omega (arith, e, r.1, p.sized.0.blocks), omega (arith, e, r.1, p.sized.0.long), omega (arith, m, p.size_value.0))

pub returns : goal.returns
returns c =
    let p = c.requires in
    last_further _ _ _ _ p.size_value.0 p.size_value.1 _ _ _ p.sized.2 (omega arith) (c.kth_block-a.ensures ∙ kth_direct _ _ _ _ 11 (omega arith)) refl c.further.ensures
