use mathlib.Core.Path.{refl}
use borrow.Author.Tests.{eq-eqb, ne_eqb}
use Rattle.dealer.proofs.end_at.Goals as goal

-- `dealer::end_at` meets its contract. Assumes nothing.
pub returns-then-place-ending : goal.returns-then-place-ending
returns-then-place-ending c = rw (eq-eqb c.args.place c.args.ending c.if-place-ending.true) refl

pub returns-else-place-ending : goal.returns-else-place-ending
returns-else-place-ending c = rw (ne_eqb c.args.place c.args.ending c.if-place-ending.false) refl
