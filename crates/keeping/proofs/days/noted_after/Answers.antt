use Rattle.std.proofs.Common.{◌+◌, refl, ◌∙◌, arith, rules}
use borrow.Author.Tests.{tests}
use Rattle.std.proofs.lemmas.Iterator.{YieldsList-from_range}
use Rattle.std.proofs.lemmas.Iterator.Search.{any_from_yields_List}
use Rattle.bounded.proofs.ListLaws.{list_any-range}
use Rattle.keeping.specs.Days.{noted, noted_after}
use Rattle.keeping.proofs.days.noted_after.Goals as goal

pub returns : goal.returns
unfolding noted_after
returns c =
    let a = c.args in
    any_from_yields_List (λ k. noted a.map.now (a.day + 1 + k)) _ _ _ c.any.ensures.ran (YieldsList-from_range 0 a.count a.count refl (omega arith)) (λ x b q k. search (rules, tests))
    ∙ list_any-range _ a.count
