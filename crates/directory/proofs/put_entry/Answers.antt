use mathlib.Core.Path.{ap, ◌∙◌}
use lib.ListN.{length}
use Rattle.octets.proofs.PartLaws.{lent}
use Rattle.names.proofs.EntryLaws.{length_entry}
use Rattle.directory.specs.Slot.{put_entry}
use Rattle.directory.proofs.put_entry.Goals as goal

pub returns : goal.returns
unfolding put_entry
returns c =
    let a = c.args in
    let o = c.slot_at-o in
    let y = c.put_entry in
    let e = y.ensures in
    lent a.s.now o.result 16 y.new.entry (ap length e ∙ length_entry a.inode a.name.now) o.ensures.1
    ∙ rw (e, o.ensures.0)
