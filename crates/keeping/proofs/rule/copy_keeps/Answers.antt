use Rattle.std.proofs.Common.{refl, ◌∙◌, arith, rules}
use borrow.Author.Tests.{tests}
use Rattle.std.proofs.lemmas.Iterator.{YieldsList-from_range}
use Rattle.std.proofs.lemmas.Iterator.Search.{any_from_yields_List}
use Rattle.bounded.proofs.ListLaws.{list_any-range}
use Rattle.keeping.specs.Keeping.{term_count}
use Rattle.keeping.proofs.TestLaws.{by_term, is_young, by_terms}
use Rattle.keeping.proofs.rule.copy_keeps.Goals as goal

pub returns-then-today-day : goal.returns-then-today-day
returns-then-today-day c = let a = c.args in is_young a.looked a.map.now a.terms.now a.latest.now a.today a.day (omega arith) c.if-today-day.true

pub returns : goal.returns
returns c =
    let a = c.args in
    let n = term_count a.terms.now in
    by_terms a.looked a.map.now a.terms.now a.latest.now a.today a.day _ (omega arith) c.if-today-day.false
    (any_from_yields_List (by_term a.looked a.map.now a.terms.now a.latest.now a.today a.day) _ _ _ c.any.ensures.ran (YieldsList-from_range 0 n n refl (omega arith)) (λ x b q k. search (rules, tests))
    ∙ list_any-range _ n)
