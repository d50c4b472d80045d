use Rattle.std.proofs.Common.{ℕ, refl, ◌-◌, eqb, get_or, length, rules}
use borrow.Author.Tests.{tests}
use Rattle.std.proofs.lemmas.Iterator.{YieldsList-from_range}
use Rattle.std.proofs.lemmas.Iterator.Search.{find_from_yields_List}
use Rattle.text.proofs.ListLaws.{find_places}
use Rattle.text.proofs.pieces.find.Goals as goal

pub returns : goal.returns
returns c =
    let a = c.args in
    let s = a.s.now in
    let n = length s in
    find_places s a.x a.o c.find.result
    (find_from_yields_List (λ (k : ℕ). eqb (get_or s k 0) a.x) _ _ c.find.result c.find.ensures.ran (YieldsList-from_range a.o n (n - a.o) refl refl) (λ x b q k. search (rules, tests))) _ c.unwrap_or.ensures
