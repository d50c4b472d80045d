use Rattle.std.proofs.Common.{sym, ◌∙◌, arith}
use Rattle.blocks.proofs.MapLaws.{map_as}
use Rattle.bounded.proofs.BoolLaws.{never}
use Rattle.bounded.proofs.BelowLaws.{all_none, all_more, all_stopped, all_done}
use Rattle.check_inodes.proofs.InodeLaws.{inodes_are}
use Rattle.check_inodes.proofs.inodes_right.Goals as goal

pub loop-k-init : goal.loop-k-init
loop-k-init c = (omega arith, all_none _, c.requires.1)

pub returns-then-not-inode_right : goal.returns-then-not-inode_right
returns-then-not-inode_right c =
    (all_stopped _ _ c.loop-k.k (omega arith) (sym c.inode_right.ensures.0 ∙ c.if-not-inode_right.true) ∙ inodes_are _ _ _, never)

pub loop-k-preserved : goal.loop-k-preserved
loop-k-preserved c =
    let y = c.inode_right in
    (omega arith, all_more _ _ c.loop-k.invariant.1 (sym y.ensures.0 ∙ c.if-not-inode_right.false), y.ensures.1 c.if-not-inode_right.false)

pub returns : goal.returns
returns c =
    let i = c.loop-k in
    (all_done _ _ i.k (omega arith) (omega arith) i.invariant.1 ∙ inodes_are _ _ _, λ q. map_as _ _ (omega arith) i.invariant.2)
