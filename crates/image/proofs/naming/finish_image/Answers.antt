use Prim.Native.Nat.{◌+◌}
use Rattle.bounded.proofs.CountLaws.{count_le}
use Rattle.image.proofs.NamingLaws.{finish_read}
use native.Mathlib.Omega.{arith}
use Rattle.layout.specs.Inode.{inode_free}
use Rattle.blocks.specs.Map.{lacks}
use Rattle.image.proofs.naming.finish_image.Goals as goal

pub overflow_cast-inodes : goal.overflow_cast-inodes
overflow_cast-inodes c =
    let a = c.args in
    omega (arith, c.requires.0.few, c.free_inodes-inodes.ensures, count_le (λ k. inode_free a.m.now (k + 1)) a.n)

pub overflow_cast-blocks : goal.overflow_cast-blocks
overflow_cast-blocks c =
    let a = c.args in
    omega (arith, c.requires.1, c.free_blocks-blocks.ensures, count_le (λ k. lacks a.map.now (k + 1)) a.b)

pub returns : goal.returns
returns c =
    let a = c.args in
    let p = c.requires in
    finish_read a.m.now a.map.now _ _ _ a.n a.b _ _ p.1 p.2 c.free_inodes-inodes.ensures c.free_blocks-blocks.ensures c.put_counts.ensures c.put_free.ensures c.put_complete.ensures
