use Rattle.std.proofs.Common.{◌∙◌, leb, max, rules}
use borrow.Author.Tests.{tests}
use Rattle.std.proofs.lemmas.Iterator.{YieldsList-from_slice}
use Rattle.std.proofs.lemmas.Iterator.Consumers.{fold_from_yields_List}
use Rattle.bounded.specs.Search.{pick}
use Rattle.keeping.proofs.LoopLaws.{latest_steps}
use Rattle.keeping.proofs.rule.latest_by.Goals as goal

pub returns : goal.returns
returns c =
    let a = c.args in
    fold_from_yields_List _ (λ m d. max m (pick (leb d a.end) d 0)) 0 c.fold.result c.fold.ensures.ran
    (YieldsList-from_slice a.days.now cc)
    (λ m x r q k. search (rules, tests))
    ∙ latest_steps a.days.now a.end
