use mathlib.Core.Path.{sym, ◌∙◌}
use Rattle.entries.proofs.TakePlanLaws.{over_itself, over_kinds, over_same, over_other}
use Rattle.entries.proofs.plan.over_of.Goals as goal

pub returns-then-moves_below : goal.returns-then-moves_below
returns-then-moves_below c = over_itself _ _ _ _ _ _ (sym c.moves_below.ensures ∙ c.if-moves_below.true)

pub returns-then-kind : goal.returns-then-kind
returns-then-kind c = over_kinds _ _ _ _ _ _ (sym c.moves_below.ensures ∙ c.if-moves_below.false) (λ e. c.if-kind.true (c.kind.ensures ∙ e ∙ sym c.kind-2.ensures))

pub returns-then-i-h : goal.returns-then-i-h
returns-then-i-h c = over_same _ _ _ _ _ _ (sym c.moves_below.ensures ∙ c.if-moves_below.false) (sym c.kind.ensures ∙ c.if-kind.false ∙ c.kind-2.ensures) c.if-i-h.true

pub returns : goal.returns
returns c = over_other _ _ _ _ _ _ (sym c.moves_below.ensures ∙ c.if-moves_below.false) (sym c.kind.ensures ∙ c.if-kind.false ∙ c.kind-2.ensures) c.if-i-h.false
