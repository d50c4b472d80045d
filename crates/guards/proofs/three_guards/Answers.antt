use Rattle.bounded.proofs.BoolLaws.{chain_on, chain_off}
use Rattle.guards.proofs.GuardLaws.{three_unframed, three_framed}
use Rattle.guards.proofs.three_guards.Goals as goal

pub returns-then-not-both_framed : goal.returns-then-not-both_framed
returns-then-not-both_framed c = three_unframed _ _ _ (chain_off _ _ c.both_framed.ensures c.if-not-both_framed.true-raw)

pub returns : goal.returns
returns c = three_framed _ _ _ (chain_on _ _ c.both_framed.ensures c.if-not-both_framed.false-raw) _ c.after_lengths.ensures
