use Prim.Native.Nat.{ℕ}
use mathlib.Core.List.{List}
use mathlib.Core.Path.{ap, ap₂, ◌∙◌}
use native.Mathlib.Omega.{arith}
use Rattle.blocks.specs.Block.{blocks_used}
use Rattle.layout.specs.Inode.{put_inode, zero_inode}
use Rattle.layout.specs.Header.{more_free}
use Rattle.entries.proofs.EnterLaws.{freed_counts, used_bound}
use Rattle.entries.proofs.apply.release_inode.Goals as goal

pub overflow_cast-used : goal.overflow_cast-used
overflow_cast-used c = let u = used_bound c.size.result (omega arith) in let e = c.blocks_used-used.ensures in omega arith

pub more_free-requires : goal.more_free-requires
more_free-requires c = let p = c.requires in let u = used_bound c.size.result (omega arith) in let e = c.blocks_used-used.ensures in freed_counts _ _ _ p.0 p.1 p.2 _ _ c.write.ensures _ (omega arith)

pub returns : goal.returns
unfolding zero_inode
returns c =
    let a = c.args in
    c.more_free.ensures
    ∙ ap₂ (λ (t : List ℕ) (m : ℕ). more_free t 1 m)
    (c.write.ensures ∙ ap (put_inode a.s.now a.n a.i) c.empty.ensures)
    (c.blocks_used-used.ensures ∙ ap blocks_used c.size.ensures)
