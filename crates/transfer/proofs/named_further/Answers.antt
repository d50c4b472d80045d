use Rattle.std.proofs.Common.{ℕ, refl, ◌+◌, ◌∙◌, arith, rules}
use borrow.Author.Tests.{tests}
use Rattle.std.proofs.lemmas.Iterator.{YieldsList-from_range}
use Rattle.std.proofs.lemmas.Iterator.Search.{any_from_yields_List}
use Rattle.blocks.specs.Free.{long_but}
use Rattle.transfer.specs.Behind.{behind_b}
use Rattle.transfer.proofs.ChainLaws.{some_listed}
use Rattle.transfer.proofs.named_further.Goals as goal

pub returns : goal.returns
returns c =
    let a = c.args in
    let p = λ (i : ℕ). behind_b (long_but a.m.now a.l a.long) a.m.now a.n a.c i in
    any_from_yields_List p _ _ _ c.any.ensures.ran (YieldsList-from_range 1 (a.n + 1) a.n refl (omega arith)) (λ x b q k. search (rules, tests))
    ∙ some_listed p a.n
