use Rattle.bounded.proofs.CountLaws.{count_zero, count_hit, count_miss}
use Prim.Native.Nat.{◌+◌}
use mathlib.Core.Path.{◌≡◌, sym, ap, ◌∙◌}
use native.Mathlib.Omega.{arith}
use Rattle.dealer.proofs.running_count.Goals as goal
use Rattle.dealer.proofs.running_count.Goals.{then-flags-b, else-flags-b}

pub loop-b-init : goal.loop-b-init
loop-b-init c = (count_zero _, omega arith, omega arith)

pub loop-b-preserved : goal.loop-b-preserved
loop-b-preserved c =
    let l = c.loop-b in
    elim c.if-flags-b.branch [
      | then-flags-b w ↦ (w.n-is ∙ ap (◌+ 1) l.invariant.0 ∙ sym (count_hit _ l.b w.if-flags-b.true), omega arith, omega arith)
      | else-flags-b w ↦ (w.n-is ∙ l.invariant.0 ∙ sym (count_miss _ l.b w.if-flags-b.false), omega arith, omega arith)
    ]

pub returns : goal.returns
returns c = let e : c.loop-b.b ≡ 16 = omega arith in rw e at c.loop-b.invariant.0
