use mathlib.Core.Path.{◌∙◌}
use native.Mathlib.Omega.{arith}
use Rattle.bursts.proofs.KeptLaws.{twelfth, stands_direct, stands_further}
use Rattle.bursts.proofs.kept.standing.Goals as goal

pub returns-then-k-lt-ADDRESS_COUNT : goal.returns-then-k-lt-ADDRESS_COUNT
returns-then-k-lt-ADDRESS_COUNT c =
    let a = c.args in
    stands_direct a.m.now a.n a.i a.k _ c.if-k-lt-ADDRESS_COUNT.true c.kth_block.ensures

pub further-requires : goal.further-requires
further-requires c =
    let a = c.args in
    let p = c.requires in
    let e = c.kth_block-a.ensures ∙ twelfth a.m.now a.n a.i in
    let q = p.2 c.if-k-lt-ADDRESS_COUNT.false in
    let l = q.0.low in
    let u = q.0.inside in
    let w = q.1 in
    (p.0.few, omega arith, omega arith, omega arith, omega arith)

pub returns-else-k-lt-ADDRESS_COUNT : goal.returns-else-k-lt-ADDRESS_COUNT
returns-else-k-lt-ADDRESS_COUNT c =
    let a = c.args in
    stands_further a.m.now a.n a.i a.k _ c.if-k-lt-ADDRESS_COUNT.false _ c.kth_block-a.ensures c.further.ensures
