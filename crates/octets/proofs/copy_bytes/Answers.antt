use mathlib.Core.Path.{◌≡◌, refl, ◌∙◌, ap}
use native.Mathlib.Omega.{arith}
use lib.ListN.{length-set}
use Rattle.octets.specs.Octets.{pasted}
use Rattle.octets.proofs.PartLaws.{copied_none, copied_more}
use Rattle.octets.proofs.copy_bytes.Goals as goal

pub loop-j-init : goal.loop-j-init
loop-j-init c = (omega arith, refl, copied_none _ _ _ _)

pub loop-j-preserved : goal.loop-j-preserved
loop-j-preserved c = let i = c.loop-j in let a = c.args in (omega arith, rw length-set i.invariant.1, rw i.invariant.2 (copied_more a.d.now a.o a.s.now a.p i.j (omega arith)))

pub returns : goal.returns
returns c = let i = c.loop-j in let a = c.args in let e : i.j ≡ a.k = omega arith in i.invariant.2 ∙ ap (pasted a.d.now a.o a.s.now a.p) e
