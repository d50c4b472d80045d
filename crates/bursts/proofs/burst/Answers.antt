use Rattle.bursts.proofs.TurnLaws.{burst_unframed, burst_count, burst_through, burst_stopped}
use Rattle.bursts.proofs.burst.Goals as goal

pub returns-then-not-both_framed : goal.returns-then-not-both_framed
returns-then-not-both_framed c =
    let a = c.args in
    burst_unframed a.store.now a.image.now a.desk.now a.count _ c.both_framed.ensures c.if-not-both_framed.true-raw

pub returns-then-not-count_allowed : goal.returns-then-not-count_allowed
returns-then-not-count_allowed c =
    let a = c.args in
    burst_count a.store.now a.image.now a.desk.now a.count _ c.both_framed.ensures c.if-not-both_framed.false-raw _ c.count_allowed.ensures c.if-not-count_allowed.true-raw

pub returns : goal.returns
returns c =
    let a = c.args in
    burst_through a.store.now a.image.now a.desk.now a.count _ c.both_framed.ensures c.if-not-both_framed.false-raw _ c.count_allowed.ensures c.if-not-count_allowed.false-raw _ c.go_on.ensures

pub returns-in_err-w : goal.returns-in_err-w
returns-in_err-w c =
    let a = c.args in
    burst_stopped a.store.now a.image.now a.desk.now a.count _ c.both_framed.ensures c.if-not-both_framed.false-raw _ c.count_allowed.ensures c.if-not-count_allowed.false-raw _ c.after_lengths.ensures _ _ c.from_residual.ensures.1 c.in_err-w.was
