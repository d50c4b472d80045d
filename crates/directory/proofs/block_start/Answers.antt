use native.Mathlib.Omega.{arith}
use mathlib.Core.Path.{ap, ◌∙◌}
use Rattle.blocks.specs.Block.{block_at}
use Rattle.directory.proofs.SlotLaws.{few_blocks, block_fits}
use Rattle.directory.proofs.block_start.Goals as goal

pub kth_block-b-requires : goal.kth_block-b-requires
kth_block-b-requires c =
    let a = c.args in
    (c.requires.0.inode, few_blocks a.s.now a.n a.d c.requires.0 a.k c.requires.1)

pub block_at-requires : goal.block_at-requires
block_at-requires c =
    let a = c.args in
    let f = block_fits a.s.now a.n a.d c.requires.0 a.k c.requires.1 in
    omega (arith, c.requires.0.inode.few, c.kth_block-b.ensures)

pub returns : goal.returns
returns c =
    let a = c.args in
    let f = block_fits a.s.now a.n a.d c.requires.0 a.k c.requires.1 in
    let e = c.kth_block-b.ensures in
    (c.block_at.ensures ∙ ap (block_at a.n) e, omega (arith, c.block_at.ensures))
