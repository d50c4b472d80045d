use Prim.Native.Nat.{◌+◌}
use mathlib.Core.Path.{◌∙◌}
use native.Mathlib.Omega.{arith}
use Rattle.image.proofs.NamingLaws.{counts_none, counts_more}
use Rattle.image.proofs.naming.put_counts.Goals as goal

pub loop-k-init : goal.loop-k-init
loop-k-init c = (omega arith, counts_none _ _)

pub loop-k-preserved : goal.loop-k-preserved
loop-k-preserved c =
    let l = c.loop-k in
    let a = c.args in
    (omega arith, c.put_links.ensures ∙ counts_more a.m.now l.m a.n l.k _ l.invariant.1 (c.requires.1.each (l.k + 1) (omega arith) (omega (arith, c.requires.0.few))))
