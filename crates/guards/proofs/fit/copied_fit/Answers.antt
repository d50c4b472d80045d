use Rattle.std.proofs.Common.{ℕ, refl, ap, max, leb, ◌+◌, ◌∙◌, arith, rules}
use Rattle.std.proofs.lemmas.Iterator.{YieldsList-from_range}
use Rattle.std.proofs.lemmas.Iterator.Consumers.{fold_from_yields_List}
use borrow.Author.Tests.{tests}
use Rattle.bounded.proofs.MostLaws.{most_within}
use Rattle.desk.specs.Desk.{copied_of}
use Rattle.image.proofs.ChainLaws.{most_listed}
use Rattle.guards.proofs.fit.copied_fit.Goals as goal

pub returns : goal.returns
returns c =
    let a = c.args in
    let f = λ (k : ℕ). copied_of a.d.now (k + 1) in
    ap (λ (t : ℕ). leb t 1)
    (fold_from_yields_List _ (λ m x. max m (f x)) 0 _ c.fold.ensures.ran (YieldsList-from_range 0 a.n a.n refl (omega arith)) (λ a x b q k. search (rules, tests)) ∙ most_listed f a.n)
    ∙ most_within f a.n 1
