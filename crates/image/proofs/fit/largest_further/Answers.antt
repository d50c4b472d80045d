use Rattle.std.proofs.Common.{refl, max, ◌∙◌, arith, rules}
use Rattle.std.proofs.lemmas.Iterator.{YieldsList-from_range}
use Rattle.std.proofs.lemmas.Iterator.Consumers.{fold_from_yields_List}
use borrow.Author.Tests.{tests}
use Rattle.layout.specs.Sizes.{further_count}
use Rattle.blocks.specs.Block.{further_of}
use Rattle.image.proofs.ChainLaws.{most_listed}
use Rattle.image.proofs.fit.largest_further.Goals as goal

pub returns : goal.returns
returns c =
    let f = further_of c.args.m.now c.args.n c.args.a in (
      fold_from_yields_List _ (λ m x. max m (f x)) 0 _ c.fold.ensures.ran (YieldsList-from_range 0 further_count further_count refl (omega arith))
          (λ a x b q k. search (rules, tests))
          ∙ most_listed f further_count,
      omega arith,
    )
