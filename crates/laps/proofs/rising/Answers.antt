use Rattle.std.proofs.Common.{ltb, rules}
use borrow.Author.Tests.{tests}
use Rattle.std.proofs.lemmas.Fn.{always_returns_same}
use Rattle.laps.proofs.RisingLaws.{rising_answer}
use Rattle.laps.proofs.rising.Goals as goal

pub returns : goal.returns
returns c = rising_answer c.args.times.now _ (c.is_sorted_by.ensures.cases ltb (always_returns_same _ _ _ (λ a r f k. search (rules, tests))))
