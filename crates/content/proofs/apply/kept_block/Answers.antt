use mathlib.Core.Path.{sym, subst}
use Prim.Native.Nat.{ℕ, ◌<◌}
use native.Mathlib.Omega.{arith}
use Rattle.layout.specs.Inode.{size_of}
use Rattle.blocks.specs.Block.{blocks_used}
use Rattle.content.proofs.RowLaws.{kept_in, kept_past, place_across_low}
use Rattle.content.proofs.apply.kept_block.Goals as goal

pub kth_used-requires : goal.kth_used-requires
kth_used-requires c =
    let p = c.requires in
    (p.0, p.1, p.2, subst (λ (u : ℕ). u < blocks_used (size_of c.args.s.now c.args.i)) (sym c.place_across.ensures) (place_across_low _ c.args.k c.args.count _ (omega arith) p.3 p.4))

pub returns-then-k-count : goal.returns-then-k-count
returns-then-k-count c = kept_in _ _ _ _ _ _ c.if-k-count.true c.place_across.ensures c.kth_used.ensures

pub returns-else-k-count : goal.returns-else-k-count
returns-else-k-count c = kept_past _ _ _ _ c.if-k-count.false
