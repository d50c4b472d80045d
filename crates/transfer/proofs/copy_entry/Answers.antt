use Rattle.transfer.proofs.BlockLaws.{entry_unmarked, entry_uncopied, entry_zeroed}
use Rattle.transfer.proofs.copy_entry.Goals as goal
use Rattle.transfer.proofs.copy_entry.Goals.{else-is_marked-via-then-is_marked+else-is_copied, else-is_marked-via-else-is_marked}

pub returns-then-is_copied : goal.returns-then-is_copied
returns-then-is_copied c =
    let a = c.args in
    entry_zeroed a.d.now a.n a.i a.k a.x.now a.j _ c.is_marked.ensures _ c.entry_inode-named.ensures _ c.is_copied.ensures c.if-is_marked.true c.if-is_copied.true _ c.zero_range.ensures

pub returns-else-is_marked : goal.returns-else-is_marked
returns-else-is_marked c =
    let a = c.args in
    elim c.else-is_marked.branch [
      | else-is_marked-via-then-is_marked+else-is_copied w ↦ entry_uncopied a.d.now a.n a.i a.k a.x.now a.j _ c.is_marked.ensures _ c.entry_inode-named.ensures _ w.is_copied.ensures w.if-is_copied.false
      | else-is_marked-via-else-is_marked w ↦ entry_unmarked a.d.now a.n a.i a.k a.x.now a.j _ c.is_marked.ensures w.if-is_marked.false
    ]
