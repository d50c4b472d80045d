use mathlib.Core.Path.{◌≡◌, sym, ◌∙◌}
use mathlib.Core.Bool.{true}
use Rattle.bounded.proofs.BoolLaws.{clash}
use Rattle.keeping.specs.Call.{all_dates}
use Rattle.keeping.proofs.CallLaws.{no_copies, no_terms, lists_read}
use Rattle.keeping.proofs.dates.read_all.Goals as goal

pub returns-then-not-read_days : goal.returns-then-not-read_days
returns-then-not-read_days c =
    let e = sym c.read_days.ensures.told ∙ c.if-not-read_days.true in
    record { told = no_copies _ _ _ e; days = λ h k. absurd (clash _ h e) }

pub returns-then-not-read_days-2 : goal.returns-then-not-read_days-2
returns-then-not-read_days-2 c =
    let e = sym c.read_days-2.ensures.told ∙ c.if-not-read_days-2.true in
    record { told = no_terms _ _ _ (let h : all_dates c.args.copies.now ≡ true = sym c.read_days.ensures.told ∙ c.if-not-read_days.false in h) e; days = λ h k. absurd (clash _ k e) }

pub returns : goal.returns
returns c =
    let a = c.args in
    record {
      told = c.reckon.ensures ∙ lists_read a.copies.now a.terms.now a.asked (let h : all_dates c.args.copies.now ≡ true = sym c.read_days.ensures.told ∙ c.if-not-read_days.false in h) (let h : all_dates c.args.terms.now ≡ true = sym c.read_days-2.ensures.told ∙ c.if-not-read_days-2.false in h);
      days = λ h k. (c.read_days.ensures.days (c.if-not-read_days.false), c.read_days-2.ensures.days (c.if-not-read_days-2.false));
    }
