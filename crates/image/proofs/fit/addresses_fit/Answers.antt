use Rattle.std.proofs.Common.{sym, ◌∙◌}
use Rattle.bounded.proofs.BoolLaws.{chain_end, and_false_l}
use Rattle.image.proofs.FitLaws.{addresses_parts}
use Rattle.image.proofs.fit.addresses_fit.Goals as goal

pub returns-then-direct_fit : goal.returns-then-direct_fit
returns-then-direct_fit c = chain_end _ _ _ (sym c.direct_fit.ensures ∙ c.if-direct_fit.true) c.further_fit.ensures ∙ sym (addresses_parts _ _ _ _)

pub returns-else-direct_fit : goal.returns-else-direct_fit
returns-else-direct_fit c = c.if-direct_fit.false ∙ sym (addresses_parts _ _ _ _ ∙ and_false_l _ _ (sym c.direct_fit.ensures ∙ c.if-direct_fit.false))
