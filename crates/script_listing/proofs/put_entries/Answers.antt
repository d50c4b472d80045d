use Rattle.std.proofs.Common.{refl, arith}
use Rattle.script_listing.proofs.TextLaws.{no_entries, entries_next}
use Rattle.script_listing.proofs.LengthLaws.{entries_most}
use Rattle.text.proofs.PutLaws.{put_same, put_on}
use Rattle.script_listing.proofs.put_entries.Goals as goal

pub loop-p-init : goal.loop-p-init
loop-p-init c = (refl, no_entries _ _ _ _)

pub put_slot-e-requires : goal.put_slot-e-requires
put_slot-e-requires c =
    let a = c.args.image in
    let i = c.loop-p in
    let l = entries_most a.m.now a.n 0 i.p in
    (omega (arith, c.requires, i.invariant.1.ends, l), omega arith)

pub loop-p-preserved : goal.loop-p-preserved
loop-p-preserved c =
    let i = c.loop-p in
    (i.invariant.0, put_same _ _ _ _ _ _ (entries_next _ _ i.p) (put_on _ _ _ _ _ _ _ _ i.invariant.1 c.put_slot-e.ensures))
