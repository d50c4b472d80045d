use mathlib.Core.Path.{sym, ◌∙◌}
use borrow.Author.Tests.{eqb-true}
use Rattle.keeping.proofs.MapLaws.{none_noted}
use Rattle.keeping.proofs.RuleLaws.{walks, none_kept}
use Rattle.keeping.proofs.decide.Goals as goal

pub look_at-requires : goal.look_at-requires
look_at-requires c =
    record { copies_fit = c.requires.copies_fit; none = none_noted c.args.days.now; room = c.requires.room }

pub returns-then-is_empty : goal.returns-then-is_empty
returns-then-is_empty c =
    let a = c.args in
    let w = none_kept a.days.now a.terms.now a.today a.out.now (eqb-true _ _ (sym c.is_empty.ensures ∙ c.if-is_empty.true)) in
    record { value = w.0; out_after = w.1 }

pub returns : goal.returns
returns c =
    let a = c.args in
    let look = c.look_at.ensures in
    let e = c.settle.ensures in
    let w = walks a.days.now a.terms.now a.today _ _ look.noted_from c.latest_days.ensures c.requires.terms_fit
    a.out.now _ _ _ c.requires.room look.out_after e.value e.out_after in
    record { value = w.0; out_after = w.1 }
