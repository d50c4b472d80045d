use Rattle.std.proofs.Common.{◌∙◌, leb, rules}
use borrow.Author.Tests.{tests}
use Rattle.std.proofs.lemmas.Iterator.{YieldsList-from_slice}
use Rattle.std.proofs.lemmas.Iterator.Search.{all_from_yields_List}
use Rattle.keeping.proofs.LoopLaws.{none_over}
use Rattle.keeping.proofs.dates.none_after.Goals as goal

pub returns : goal.returns
returns c =
    let a = c.args in
    all_from_yields_List (λ d. leb d a.today) _ _ c.all.result c.all.ensures.ran (YieldsList-from_slice a.days.now cc) (λ x b q k. search (rules, tests))
    ∙ none_over a.days.now a.today
