use Rattle.image.proofs.NamingLaws.{block_inside, entry_names, empty_block}
use Prim.Native.Nat.{◌+◌, ◌*◌}
use mathlib.Core.Path.{◌≡◌}
use native.Mathlib.Omega.{arith}
use Rattle.bounded.proofs.CountLaws.{tallied_le, tallied_as}
use Rattle.sound.specs.Place.{place_of}
use Rattle.image.proofs.naming.count_block.Goals as goal

pub returns-then-a-eq0 : goal.returns-then-a-eq0
returns-then-a-eq0 c =
    let a = c.args in
    let p = c.requires in
    empty_block a.m.now a.n a.e a.k p.1 p.3 a.counts.now (omega (arith, c.kth_block-a.ensures)) p.5

pub count_entry-requires : goal.count_entry-requires
count_entry-requires c =
    let a = c.args in
    let p = c.requires in (
      omega (arith, c.block_at-o.ensures, c.kth_block-a.ensures, block_inside a.m.now a.n a.e a.k p.0 p.1 p.2 p.3),
      c.loop-j.invariant.1.long,
      λ v q r. omega (arith, p.0.few, p.2, p.3, tallied_le _ 1 257 _ v c.loop-j.counts q (omega arith) c.loop-j.invariant.1),
    )

pub loop-j-preserved : goal.loop-j-preserved
loop-j-preserved c =
    let a = c.args in
    let p = c.requires in
    let w : place_of a.e (4 * a.k) + c.loop-j.j + 1 ≡ place_of a.e (4 * a.k) + (c.loop-j.j + 1) = omega arith in (
      omega arith,
      tallied_as _ _ _ _ w (c.count_entry.ensures _ (place_of a.e (4 * a.k) + c.loop-j.j)
          (entry_names a.m.now a.n a.e a.k p.1 p.3 _ _ c.loop-j.j c.kth_block-a.ensures (omega (arith, c.if-a-eq0.false)) c.block_at-o.ensures (omega arith) p.4) c.loop-j.invariant.1),
    )
