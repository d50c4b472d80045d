use Prim.Native.Nat.{◌-◌}
use mathlib.Core.Path.{◌≡◌, refl, ◌∙◌, ap}
use native.Mathlib.Omega.{arith}
use lib.ListN.{length, length-set}
use Rattle.octets.specs.Octets.{pasted}
use Rattle.octets.proofs.PartLaws.{copied_none, copied_more}
use Rattle.laps.proofs.set_aside.Goals as goal

pub loop-k-init : goal.loop-k-init
loop-k-init c = (omega arith, refl, copied_none _ _ _ _)

pub loop-k-preserved : goal.loop-k-preserved
loop-k-preserved c = let i = c.loop-k in let a = c.args in (omega arith, rw length-set i.invariant.1, rw i.invariant.2 (copied_more a.out.now a.to a.times.now a.from i.k (omega arith)))

pub returns : goal.returns
returns c = let i = c.loop-k in let a = c.args in let e : i.k ≡ length a.times.now - a.from = omega arith in i.invariant.2 ∙ ap (pasted a.out.now a.to a.times.now a.from) e
