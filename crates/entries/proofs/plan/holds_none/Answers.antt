use native.Mathlib.Omega.{arith}
use Rattle.bounded.proofs.BelowLaws.{all_none}
use Rattle.octets.proofs.PartLaws.{length_cut}
use Rattle.entries.proofs.TakePlanLaws.{empty_read, none_more, none_stopped, none_done}
use Rattle.entries.proofs.plan.holds_none.Goals as goal

pub loop-t-init : goal.loop-t-init
loop-t-init c = (omega arith, all_none _)

pub is_empty-requires : goal.is_empty-requires
is_empty-requires c = omega (arith, length_cut c.args.s.now c.slot_at-o.result 16 c.slot_at-o.ensures.1)

pub returns-then-not-is_empty : goal.returns-then-not-is_empty
returns-then-not-is_empty c = none_stopped _ _ _ _ _ (omega (arith, c.slot_count-t-end.ensures.0)) (empty_read _ _ _ _ _ _ c.slot_at-o.ensures.0 c.is_empty.ensures) c.if-not-is_empty.true-raw

pub loop-t-preserved : goal.loop-t-preserved
loop-t-preserved c = (omega arith, none_more _ _ _ _ _ c.loop-t.invariant.1 (empty_read _ _ _ _ _ _ c.slot_at-o.ensures.0 c.is_empty.ensures) c.if-not-is_empty.false-raw)

pub returns : goal.returns
returns c = none_done _ _ _ _ (omega (arith, c.slot_count-t-end.ensures.0)) (omega (arith, c.slot_count-t-end.ensures.0)) c.loop-t.invariant.1
