use native.Mathlib.Omega.{arith}
use Rattle.api.proofs.MaskLaws.{none_taken, one_taken, all_taken}
use Rattle.api.proofs.mask.flags.Goals as goal

pub loop-b-init : goal.loop-b-init
loop-b-init c = (omega arith, none_taken _)

pub loop-b-preserved : goal.loop-b-preserved
loop-b-preserved c =
    let l = c.loop-b in
    (omega arith, one_taken _ _ _ _ (omega arith) c.marked.ensures l.invariant.1)

pub returns : goal.returns
returns c = all_taken _ _ _ (omega arith) c.loop-b.invariant.1
