use Rattle.std.proofs.Common.{ℕ, refl, ◌+◌, not, ◌&&◌, eqb, get_or, arith, rules}
use borrow.Author.Tests.{tests}
use Rattle.std.proofs.lemmas.Iterator.{YieldsList-from_range}
use Rattle.std.proofs.lemmas.Iterator.Search.{find_from_yields_List}
use Rattle.desk.specs.Desk.{is_copied}
use Rattle.image.proofs.ChainLaws.{found_listed}
use Rattle.image.proofs.naming.lowest_named.Goals as goal

pub returns : goal.returns
returns c =
    let a = c.args in
    let p = λ (i : ℕ). not (is_copied a.d.now a.n i) && not (eqb (get_or a.counts.now i 0) 0) in
    found_listed p 1 a.n _
    (find_from_yields_List p _ _ c.find.result c.find.ensures.ran (YieldsList-from_range 1 (a.n + 1) a.n refl (omega arith))
    (λ x b q k. search (rules, tests)))
