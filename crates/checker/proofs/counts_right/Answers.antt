use Prim.Native.Nat.{ℕ, ◌*◌}
use mathlib.Core.Path.{ap, subst, ◌∙◌}
use native.Mathlib.Omega.{arith}
use Rattle.bounded.specs.Count.{count_to}
use Rattle.layout.specs.Sizes.{most_blocks}
use Rattle.layout.specs.Inode.{inode_free}
use Rattle.check_inodes.specs.Pass.{MapsOf}
use Rattle.checker.proofs.CheckLaws.{counts_1, counts_2}
use Rattle.checker.proofs.counts_right.Goals as goal

pub returns-else-from-free_inodes : goal.returns-else-from-free_inodes
returns-else-from-free_inodes c =
    let p = c.requires in
    counts_1 _ _ c.read-h.ensures _ (c.free_inodes.ensures ∙ ap (count_to (inode_free c.args.s.now)) p.1) _ c.from.ensures c.if-from-free_inodes.false

pub returns-then-from-free_inodes : goal.returns-then-from-free_inodes
returns-then-from-free_inodes c =
    let p = c.requires in
    let a = c.args in
    let m = p.0.most_blocks_lem in
    counts_2 _ _ c.read-h.ensures _ (c.free_inodes.ensures ∙ ap (count_to (inode_free a.s.now)) p.1) _ c.from.ensures a.b _ a.map.now c.if-from-free_inodes.true
    (subst (λ (x : ℕ). MapsOf a.s.now x (most_blocks * x) a.map.now) p.1 p.3) p.2 (omega arith) c.free_blocks.ensures _ c.from-then-from-free_inodes.ensures
