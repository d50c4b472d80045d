use mathlib.Core.Path.{◌≡◌, sym, ◌∙◌}
use native.Mathlib.Omega.{arith}
use Rattle.bounded.proofs.BelowLaws.{all_none}
use Rattle.layout.specs.Inode.{kind_of, directory_kind}
use Rattle.directory.specs.Fits.{DirFits}
use Rattle.checker.proofs.EntryLaws.{other_inode, dir_begin, dir_more, dir_next, dir_stop, dir_done}
use Rattle.checker.proofs.entries.directory_right.Goals as goal

pub returns-then-kind-ne-DIRECTORY : goal.returns-then-kind-ne-DIRECTORY
returns-then-kind-ne-DIRECTORY c =
    let a = c.args in
    other_inode a.s.now a.n a.d c.requires.inode_fits.0.low a.counts.now _ c.kind.ensures c.if-kind-ne-DIRECTORY.true c.requires.names_len.1

pub loop-k-init : goal.loop-k-init
loop-k-init c =
    let a = c.args in
    (omega arith, all_none _, dir_begin a.s.now a.n a.d c.requires.inode_fits.0.low a.names.now a.counts.now c.requires.names_len.0 c.requires.names_len.1)

pub returns-then-not-block_right : goal.returns-then-not-block_right
returns-then-not-block_right c =
    let a = c.args in
    dir_stop a.s.now a.n a.d c.requires.inode_fits.0.low c.loop-k.k _ ((let h : DirFits c.args.s.now c.args.n c.args.d = c.requires.inode_fits.1 (let h : kind_of c.args.s.now c.args.d ≡ directory_kind = sym c.kind.ensures ∙ c.if-kind-ne-DIRECTORY.false in h) in h)) (omega (arith, c.slot_count-blocks.ensures.0, c.loop-k-test.true)) c.block_right.ensures.0 c.if-not-block_right.true

pub loop-k-preserved : goal.loop-k-preserved
loop-k-preserved c =
    let a = c.args in (
      omega arith,
      dir_more a.s.now a.n a.d c.requires.inode_fits.0.low c.loop-k.k _ c.loop-k.invariant.1 c.block_right.ensures.0 c.if-not-block_right.false,
      dir_next a.s.now a.n a.d c.requires.inode_fits.0.low c.loop-k.k (c.block_right.ensures.1 c.if-not-block_right.false),
    )

pub returns : goal.returns
returns c =
    let a = c.args in
    dir_done a.s.now a.n a.d c.requires.inode_fits.0.low c.loop-k.k _ ((let h : DirFits c.args.s.now c.args.n c.args.d = c.requires.inode_fits.1 (let h : kind_of c.args.s.now c.args.d ≡ directory_kind = sym c.kind.ensures ∙ c.if-kind-ne-DIRECTORY.false in h) in h)) c.slot_count-blocks.ensures.0 (omega arith) (omega arith) c.loop-k.invariant.1 c.loop-k.invariant.2
