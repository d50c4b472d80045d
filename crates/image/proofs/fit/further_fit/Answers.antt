use Rattle.std.proofs.Common.{ℕ, refl, ◌+◌, ◌∙◌, arith, rules}
use Rattle.std.proofs.lemmas.Iterator.{YieldsList-from_range, serves_from_Range}
use Rattle.std.proofs.lemmas.Iterator.Search.{all_from_yields_List}
use borrow.Author.Tests.{tests}
use Rattle.blocks.specs.Free.{long_but}
use Rattle.image.specs.Fit.{further_right_of}
use Rattle.image.proofs.ChainLaws.{each_listed}
use Rattle.image.proofs.FitLaws.{direct_place}
use Rattle.image.proofs.fit.further_fit.Goals as goal

pub all-requires-clause-callable : goal.all-requires-clause-callable
all-requires-clause-callable c = serves_from_Range (λ x q k. search (rules, tests)) (λ i low high. let z = direct_place c.args.m.now c.args.n c.args.b c.requires.1 i low (omega arith) in search rules)

pub returns : goal.returns
returns c =
    let a = c.args in
    let p = λ (i : ℕ). further_right_of (long_but a.m.now a.l a.long i) a.m.now a.n a.b i in
    all_from_yields_List p _ _ _ c.all.ensures.ran (YieldsList-from_range 1 (a.n + 1) a.n refl (omega arith)) (λ x b q k. search (rules, tests))
    ∙ each_listed p a.n
