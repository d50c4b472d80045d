use mathlib.Core.Path.{sym, ◌∙◌}
use borrow.Author.Tests.{not-true, not-false}
use Rattle.keeping.proofs.CallLaws.{terms_refused, asked_refused, decided}
use Rattle.keeping.proofs.answer.Goals as goal

pub returns-then-not-in_order : goal.returns-then-not-in_order
returns-then-not-in_order c =
    let a = c.args in
    terms_refused a.days.now a.terms.now a.today a.out.now (not-false _ (sym c.in_order.ensures ∙ c.if-not-in_order.true))

pub returns-then-not-none_after : goal.returns-then-not-none_after
returns-then-not-none_after c =
    let a = c.args in
    asked_refused a.days.now a.terms.now a.today a.out.now (not-true _ (sym c.in_order.ensures ∙ c.if-not-in_order.false))
    (not-false _ (sym c.none_after.ensures ∙ c.if-not-none_after.true))

pub returns : goal.returns
returns c =
    let a = c.args in
    decided a.days.now a.terms.now a.today a.out.now (not-true _ (sym c.in_order.ensures ∙ c.if-not-in_order.false))
    (not-true _ (sym c.none_after.ensures ∙ c.if-not-none_after.false)) _ _ c.decide.ensures.value c.decide.ensures.out_after
