use native.Mathlib.Omega.{arith}
use Rattle.transfer.proofs.BlockLaws.{entries_none, entries_more}
use Rattle.transfer.proofs.copy_entries.Goals as goal

pub loop-j-init : goal.loop-j-init
loop-j-init c =
    let a = c.args in
    (omega arith, c.requires.0, entries_none a.d.now a.n a.i a.k a.x.now)

pub loop-j-preserved : goal.loop-j-preserved
loop-j-preserved c =
    let a = c.args in
    let l = c.loop-j in
    let y = c.copy_entry in
    (omega arith, omega (arith, y.auto.x, l.invariant.1), entries_more a.d.now a.n a.i a.k a.x.now l.j _ _ l.invariant.2 y.ensures)
