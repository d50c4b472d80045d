use mathlib.Core.Path.{ap, ◌∙◌}
use mathlib.Core.Bool.{not}
use borrow.Author.Tests.{ne_eqb}
use native.Mathlib.Omega.{arith}
use Rattle.bounded.proofs.BoolLaws.{chain_on}
use Rattle.image.proofs.FitLaws.{framed}
use Rattle.guards.proofs.FitLaws.{notes_idle, notes_running}
use Rattle.guards.proofs.fit.notes_fit.Goals as goal

pub read-h-requires : goal.read-h-requires
read-h-requires c = let f = framed _ c.requires.0 in let l = f.long in omega arith

pub returns-then-h-ne-RUNNING : goal.returns-then-h-ne-RUNNING
returns-then-h-ne-RUNNING c = ap not (ne_eqb _ _ c.if-h-ne-RUNNING.true) ∙ notes_idle _ _ _ _ (chain_on _ _ c.desk_fits.ensures c.if-not-desk_fits.false-raw) c.read-h.result c.read-h.ensures c.if-h-n.true c.if-h-ne-RUNNING.true

pub returns-else-h-ne-RUNNING : goal.returns-else-h-ne-RUNNING
returns-else-h-ne-RUNNING c = c.image_fits.ensures ∙ notes_running _ _ _ _ (chain_on _ _ c.desk_fits.ensures c.if-not-desk_fits.false-raw) c.read-h.result c.read-h.ensures c.if-h-n.true c.if-h-ne-RUNNING.false
