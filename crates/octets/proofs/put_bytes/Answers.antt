use Rattle.std.proofs.Common.{ap, ◌∙◌, arith}
use Rattle.octets.specs.Octets.{splice}
use Rattle.octets.proofs.PartLaws.{lent, length_cut}
use Rattle.octets.proofs.put_bytes.Goals as goal

pub returns : goal.returns
returns c =
    let a = c.args in
    let r = c.copy_from_slice.ensures in
    lent a.s.now a.o _ _ (r.len ∙ length_cut a.s.now a.o _ (omega arith)) (omega arith) ∙ ap (splice a.s.now a.o) r.after
