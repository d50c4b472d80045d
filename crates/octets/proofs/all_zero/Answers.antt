use Rattle.std.proofs.Common.{◌≡◌, ◌+◌, ◌-◌, ◌*◌, ◌/◌, ◌%◌, sym, ◌∙◌, take, drop, eqb, arith, rules}
use borrow.Author.Tests.{tests}
use Rattle.std.proofs.lemmas.Iterator.{YieldsList-from_slice}
use Rattle.std.proofs.lemmas.Iterator.Search.{all_from_yields_List}
use Rattle.bounded.proofs.BoolLaws.{chain_end, and_false_l}
use Rattle.octets.specs.Octets.{part}
use Rattle.octets.proofs.ListLaws.{list_all-part}
use Rattle.octets.proofs.ZeroLaws.{bytes_zero}
use Rattle.octets.proofs.all_zero.Goals as goal

pub returns-then-words_zero : goal.returns-then-words_zero
unfolding part
returns-then-words_zero c =
    let a = c.args in
    let m = 8 * (a.k / 8) in
    let e : a.o + a.k - (a.o + m) ≡ a.k % 8 = omega arith in
    let q = all_from_yields_List (λ b. eqb b 0) _ _ c.all.result c.all.ensures.ran (YieldsList-from_slice (take (a.o + a.k - (a.o + m)) (drop (a.o + m) a.s.now)) cc) (λ x b q k. search (rules, tests)) in
    chain_end _ _ _ (sym c.words_zero.ensures ∙ c.if-words_zero.true)
    (q ∙ rw e (list_all-part (λ b. eqb b 0) a.s.now (a.o + m) (a.k % 8) (omega arith)))
    ∙ sym (bytes_zero a.s.now a.o a.k)

pub returns-else-words_zero : goal.returns-else-words_zero
returns-else-words_zero c =
    let a = c.args in
    c.if-words_zero.false ∙ sym (and_false_l _ _ (sym c.words_zero.ensures ∙ c.if-words_zero.false)) ∙ sym (bytes_zero a.s.now a.o a.k)
