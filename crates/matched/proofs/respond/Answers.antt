-- No more pairs than times: the counts that are left do not fall below 0, and the pairs lie within their buffers.
use Rattle.std.proofs.Common.{arith}
use Rattle.laps.proofs.Claim.{pairs_within}
use Rattle.matched.proofs.respond.Goals as goal

pub overflow_sub-w : goal.overflow_sub-w
overflow_sub-w c = (pairs_within c.args.watch.now c.args.mat.now _ _ c.match_laps-answer.result _ c.match_laps-answer.ensures c.in-Ok.is).0

pub overflow_sub-m : goal.overflow_sub-m
overflow_sub-m c = (pairs_within c.args.watch.now c.args.mat.now _ _ c.match_laps-answer.result _ c.match_laps-answer.ensures c.in-Ok.is).1

pub slice_bounds-print_report-end : goal.slice_bounds-print_report-end
slice_bounds-print_report-end c =
    let f = pairs_within c.args.watch.now c.args.mat.now _ _ c.match_laps-answer.result _ c.match_laps-answer.ensures c.in-Ok.is in
    let k = c.match_laps-answer.auto.paired_watch in
    omega (arith, f.0, k)
