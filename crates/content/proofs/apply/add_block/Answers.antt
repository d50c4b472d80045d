use Prim.Native.Nat.{◌<◌}
use native.Mathlib.Omega.{arith}
use Rattle.preservation.proofs.RecordLaws.{used_is}
use Rattle.content.proofs.CodeLaws.{add_header, add_done}
use borrow.Author.Rules.{rules}
use Rattle.content.proofs.apply.add_block.Goals as goal

pub offset_bounds-a-k : goal.offset_bounds-a-k
offset_bounds-a-k c = let f = (let h : c.blocks_used-k.result < 12 = let e = used_is _ _ _ _ c.read-old.ensures _ c.blocks_used-k.ensures in let p = c.requires.4 in omega arith in h) in search rules

pub bounds-a-k : goal.bounds-a-k
bounds-a-k c = (let h : c.blocks_used-k.result < 12 = let e = used_is _ _ _ _ c.read-old.ensures _ c.blocks_used-k.ensures in let p = c.requires.4 in omega arith in h)

pub overflow_add-k : goal.overflow_add-k
overflow_add-k c = let f = (let h : c.blocks_used-k.result < 12 = let e = used_is _ _ _ _ c.read-old.ensures _ c.blocks_used-k.ensures in let p = c.requires.4 in omega arith in h) in search rules

pub overflow_mul-k : goal.overflow_mul-k
overflow_mul-k c = let f = (let h : c.blocks_used-k.result < 12 = let e = used_is _ _ _ _ c.read-old.ensures _ c.blocks_used-k.ensures in let p = c.requires.4 in omega arith in h) in search rules

pub with_blocks-requires : goal.with_blocks-requires
with_blocks-requires c = let f = (let h : c.blocks_used-k.result < 12 = let e = used_is _ _ _ _ c.read-old.ensures _ c.blocks_used-k.ensures in let p = c.requires.4 in omega arith in h) in omega arith

pub less_free-requires : goal.less_free-requires
less_free-requires c =
    let f = c.requires.0 in
    let h = add_header _ _ _ _ _ _ _ c.zero_block.ensures c.write.ensures f.low f.high in
    let a = f.area in
    (search rules, omega arith, rw h c.requires.5)

pub returns : goal.returns
returns c = add_done _ _ _ _ _ _ _ c.zero_block.ensures c.write.ensures _ _ _ c.read-old.ensures c.blocks_used-k.ensures c.with_blocks.ensures c.less_free.ensures
