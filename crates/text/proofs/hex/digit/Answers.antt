use Rattle.text.proofs.HexLaws.{decimal_digit, capital_digit, small_digit}
use Rattle.std.proofs.Common.{arith}
use Rattle.text.proofs.hex.digit.Goals as goal

pub returns-in-48-to-57 : goal.returns-in-48-to-57
returns-in-48-to-57 c = (decimal_digit _ (omega arith) (omega arith), omega arith)

pub returns-in-65-to-70 : goal.returns-in-65-to-70
returns-in-65-to-70 c = (capital_digit _ (omega arith) (omega arith), omega arith)

pub returns-in-97-to-102 : goal.returns-in-97-to-102
returns-in-97-to-102 c = (small_digit _ (omega arith) (omega arith), omega arith)
