use Rattle.text.proofs.NumberLaws.{decimal_more, digit_is, none_empty, none_stopped, value_done}
use Rattle.text.specs.Number.{decimal}
use Rattle.bounded.proofs.BelowLaws.{all_none, all_more}
use Rattle.std.proofs.Common.{arith, rules, ◌∙◌}
use Rattle.text.proofs.numbers.number.Goals as goal

pub returns-then-is_empty : goal.returns-then-is_empty
returns-then-is_empty c = none_empty _ (search rules)

pub loop-x-init : goal.loop-x-init
unfolding decimal
loop-x-init c = (search rules, all_none _, omega arith)

pub returns-then-not-is_ascii_digit : goal.returns-then-not-is_ascii_digit
returns-then-not-is_ascii_digit c = let i = c.loop-x in none_stopped _ i.x-index (omega arith) (digit_is _ i.x-index _ c.is_ascii_digit.ensures.value ∙ c.if-not-is_ascii_digit.true)

pub loop-x-preserved : goal.loop-x-preserved
loop-x-preserved c =
    let i = c.loop-x in
    let d = digit_is _ i.x-index _ c.is_ascii_digit.ensures.value ∙ c.if-not-is_ascii_digit.false in
    (omega arith, all_more _ i.x-index i.invariant.1 d, decimal_more _ i.x-index i.v _ i.invariant.2 (omega arith))

pub returns : goal.returns
returns c = let i = c.loop-x in value_done _ i.x-index i.v i.invariant.0 (omega arith) i.invariant.1 i.invariant.2
