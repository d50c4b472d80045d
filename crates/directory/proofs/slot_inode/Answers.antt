use Rattle.octets.proofs.PartLaws.{cut}
use Rattle.directory.specs.Slot.{entry_of}
use Rattle.directory.proofs.slot_inode.Goals as goal

pub returns : goal.returns
unfolding entry_of
returns c =
    let a = c.args in
    let o = c.slot_at-o in
    cc (cut a.s.now o.result 16, o.ensures.0)
