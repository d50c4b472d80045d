use mathlib.Core.Path.{ap, ◌∙◌}
use native.Mathlib.Omega.{arith}
use lib.ListN.{length}
use Rattle.octets.proofs.PartLaws.{length_copied}
use Rattle.transfer.proofs.BlockLaws.{block_here, block_few, block_zeroed, block_parted}
use Rattle.transfer.proofs.copy_block.Goals as goal

pub returns-then-is_address_block : goal.returns-then-is_address_block
returns-then-is_address_block c =
    let a = c.args in
    let p = c.requires in
    block_zeroed p.1 a.i p.2 p.3 a.k p.4 a.d.now _ c.is_address_block.ensures a.x.now p.0 c.if-is_address_block.true _ c.zero_range.ensures

pub block_at-requires : goal.block_at-requires
block_at-requires c =
    let a = c.args in
    let p = c.requires in
    let b = block_here p.1 a.i p.2 p.3 a.k p.4 in
    (b.0, omega (arith, b.1, c.kth_used-a.ensures), omega arith)

pub copy_entries-requires : goal.copy_entries-requires
copy_entries-requires c =
    let a = c.args in
    let p = c.requires in
    (ap length c.copy_range.ensures ∙ length_copied a.x.now 0 a.s.now c.block_at.result 64 ∙ p.0, p.5, p.2, p.3, block_few p.1 a.i p.2 p.3 a.k p.4 (omega arith))

pub returns-then-kind-eq-DIRECTORY : goal.returns-then-kind-eq-DIRECTORY
returns-then-kind-eq-DIRECTORY c =
    let a = c.args in
    let p = c.requires in
    block_parted p.1 a.i p.2 p.3 a.k p.4 a.d.now _ c.is_address_block.ensures a.x.now p.0 c.if-is_address_block.false _ _ _ c.kth_used-a.ensures c.block_at.ensures c.copy_range.ensures _ c.kind.ensures (omega arith) _ c.copy_entries.ensures
