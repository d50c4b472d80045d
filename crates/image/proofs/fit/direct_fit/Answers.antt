use Rattle.std.proofs.Common.{ℕ, refl, ap, max, leb, ◌*◌, ◌∙◌, arith, rules}
use Rattle.std.proofs.lemmas.Iterator.{YieldsList-from_range}
use Rattle.std.proofs.lemmas.Iterator.Consumers.{fold_from_yields_List}
use borrow.Author.Tests.{tests}
use Rattle.bounded.proofs.MostLaws.{most_within}
use Rattle.layout.specs.Sizes.{address_count}
use Rattle.layout.specs.Inode.{address_of}
use Rattle.image.proofs.ChainLaws.{most_listed}
use Rattle.image.proofs.fit.direct_fit.Goals as goal

pub returns : goal.returns
returns c =
    let f = address_of c.args.m.now c.args.n in
    let k = address_count * c.args.n in
    ap (λ (t : ℕ). leb t c.args.b)
    (fold_from_yields_List _ (λ m x. max m (f x)) 0 _ c.fold-most.ensures.ran (YieldsList-from_range 0 k k refl (omega arith)) (λ a x b q k. search (rules, tests)) ∙ most_listed f k)
    ∙ most_within f k c.args.b
