use Rattle.std.proofs.Common.{◌∙◌, rules}
use borrow.Author.Tests.{tests}
use Rattle.directory.proofs.SlotLaws.{words_test, find_words}
use Rattle.directory.proofs.find_slot.Goals as goal

pub returns : goal.returns
returns c =
    let a = c.args in
    c.first_slot.ensures (words_test c.of-words.result) (record { says = λ e b l r. search (rules, tests) })
    ∙ find_words a.s.now a.n a.d a.name.now c.of-words.result (λ i. (c.type_inv.s i).fits) (λ i. (c.type_inv.name i).fits) c.of-words.ensures
