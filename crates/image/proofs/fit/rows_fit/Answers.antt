use Rattle.std.proofs.Common.{sym, ◌∙◌}
use Rattle.image.proofs.FitLaws.{rows_above, rows_lacking}
use Rattle.image.proofs.fit.rows_fit.Goals as goal

pub returns-then-addresses_fit : goal.returns-then-addresses_fit
returns-then-addresses_fit c = rows_lacking _ _ c.args.h _ c.locked_long-long.ensures (sym c.addresses_fit.ensures ∙ c.if-addresses_fit.true) _ c.lacks_addresses.ensures

pub returns-else-addresses_fit : goal.returns-else-addresses_fit
returns-else-addresses_fit c = c.if-addresses_fit.false ∙ rows_above _ _ c.args.h _ c.locked_long-long.ensures (sym c.addresses_fit.ensures ∙ c.if-addresses_fit.false)
