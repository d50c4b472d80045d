use mathlib.Core.Path.{sym, ap, ◌∙◌}
use mathlib.Core.Bool.{Bool}
use mathlib.Core.List.{[], ◌∷◌}
use borrow.Author.Tests.{eq-eqb, ne_eqb}
use Rattle.bounded.specs.Search.{pick}
use Rattle.desk.specs.Next.{locks_any}
use Rattle.live.specs.Fits.{busy_if}
use Rattle.live.proofs.work.rename_unlocked.Goals as goal

pub returns-then-from-to : goal.returns-then-from-to
returns-then-from-to c = let a = c.args in c.unlocked.ensures ∙ ap (λ (y : Bool). busy_if (locks_any a.h (pick y (a.from ∷ []) (a.from ∷ a.to ∷ a.i ∷ [])))) (sym (eq-eqb a.from a.to c.if-from-to.true))

pub returns : goal.returns
returns c = let a = c.args in c.unlocked-2.ensures ∙ ap (λ (y : Bool). busy_if (locks_any a.h (pick y (a.from ∷ []) (a.from ∷ a.to ∷ a.i ∷ [])))) (sym (ne_eqb a.from a.to c.if-from-to.false))
