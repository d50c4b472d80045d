use Rattle.std.proofs.Common.{sym, ◌∙◌, eq-eqb}
use borrow.Author.Tests.{not-true, not-false}
use Rattle.bounded.proofs.BoolLaws.{clash}
use Rattle.image.proofs.FitLaws.{entries_bare, entries_short, entries_most}
use Rattle.image.proofs.fit.further_fit_of.Goals as goal
use Rattle.image.proofs.fit.further_fit_of.Goals.{then-a-eq0, else-a-eq0}

pub returns-then-not-long_but : goal.returns-then-not-long_but
returns-then-not-long_but c = elim c.if-a-eq0.branch [
  | then-a-eq0 w ↦ c.if-not-long_but.true ∙ entries_bare _ _ _ _ _ (sym c.address-a.ensures ∙ w.if-a-eq0.true)
  | else-a-eq0 w ↦ c.if-not-long_but.true ∙ entries_short _ _ _ _ _ (sym w.long_but.ensures ∙ not-true _ (sym w.value-is ∙ c.if-not-long_but.true))
]

pub returns-else-not-long_but : goal.returns-else-not-long_but
returns-else-not-long_but c = elim c.if-a-eq0.branch [
  | then-a-eq0 w ↦ absurd (clash c.if-a-eq0.value (w.value-is ∙ eq-eqb _ 0 w.if-a-eq0.true) c.if-not-long_but.false)
  | else-a-eq0 w ↦ entries_most _ _ _ _ _ (sym w.long_but.ensures ∙ not-false _ (sym w.value-is ∙ c.if-not-long_but.false)) _ _ c.address-a.ensures c.largest_further.ensures.0
]
