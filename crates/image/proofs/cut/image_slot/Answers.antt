use Prim.Native.Nat.{◌/◌}
use native.Mathlib.Omega.{arith}
use Rattle.directory.specs.Slot.{slot_at}
use Rattle.image.proofs.NamingLaws.{block_inside}
use Rattle.image.proofs.cut.image_slot.Goals as goal

pub returns : goal.returns
unfolding slot_at
returns c =
    let a = c.args in
    let p = c.requires in
    let k = c.kth_block-c.ensures in
    let e = c.block_at.ensures in
    let i = (block_inside a.m.now a.n a.e (a.t / 4) p.0 p.1 p.2 (omega arith)).0 in
    (omega arith, omega arith)
