use Prim.Native.Nat.{◌+◌, ◌*◌, ◌/◌, ◌%◌}
use mathlib.Core.Path.{◌≡◌, ap, ◌∙◌}
use native.Mathlib.Omega.{arith}
use Rattle.octets.specs.Octets.{pasted}
use Rattle.octets.proofs.PartLaws.{copied_join}
use Rattle.octets.proofs.copy_range.Goals as goal

pub returns : goal.returns
returns c =
    let a = c.args in
    let e : 8 * (a.k / 8) + a.k % 8 ≡ a.k = omega arith in
    c.copy_bytes.ensures
    ∙ rw c.copy_words.ensures (copied_join a.d.now a.o a.s.now a.p (8 * (a.k / 8)) (a.k % 8) (omega arith))
    ∙ ap (pasted a.d.now a.o a.s.now a.p) e
