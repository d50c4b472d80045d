use Prim.Native.Nat.{ℕ, ◌+◌, ◌*◌, ◌≤◌}
use mathlib.Core.Path.{◌≡◌, refl, subst}
use native.Mathlib.Omega.{arith}
use Rattle.blocks.specs.Free.{long_but}
use Rattle.blocks.proofs.KthLaws.{row_next}
use Rattle.blocks.proofs.MapLaws.{map_none, map_inode}
use Rattle.blocks.proofs.free.named_blocks.Goals as goal

pub loop-k-init : goal.loop-k-init
loop-k-init c = (omega arith, map_none _)

pub note_blocks-requires : goal.note_blocks-requires
note_blocks-requires c =
    let s = c.args.s.now in
    let n = c.args.n in
    let l = c.loop-k in (
      record { low = omega arith; high = omega arith; few = c.requires.few; area = c.requires.area },
      l.invariant.1.long,
      λ u m. subst (λ (x : ℕ). x ≤ 4096) (row_next (long_but s c.args.l c.args.long) s n l.k u m) (c.requires.most (44 * l.k + u) (omega arith)),
      c.requires.inside (l.k + 1) (omega arith) (omega arith),
    )

pub loop-k-preserved : goal.loop-k-preserved
loop-k-preserved c =
    let l = c.loop-k in
    (omega arith, map_inode (long_but c.args.s.now c.args.l c.args.long) c.args.s.now c.args.n l.k _ _ _ refl c.note_blocks.ensures l.invariant.1)

pub returns : goal.returns
returns c = let e : c.loop-k.k ≡ c.args.n = omega arith in rw e at c.loop-k.invariant.1
