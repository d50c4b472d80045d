use mathlib.Core.Path.{sym, refl}
use borrow.Author.Tests.{le-leb, lt-leb}
use Rattle.bounded.proofs.BoolLaws.{and_false_l, chain_end}
use Rattle.dealer.proofs.allowed.Goals as goal

-- `dealer::allowed` meets its contract. Assumes nothing.
pub returns-then-steps-lt1 : goal.returns-then-steps-lt1
returns-then-steps-lt1 c = sym (and_false_l _ _ (lt-leb _ _ c.if-steps-lt1.true))

pub returns-then-steps-gt-MOST_TURN : goal.returns-then-steps-gt-MOST_TURN
returns-then-steps-gt-MOST_TURN c = chain_end _ _ _ (le-leb _ _ c.if-steps-lt1.false) (sym (and_false_l _ _ (lt-leb _ _ c.if-steps-gt-MOST_TURN.true)))

pub returns : goal.returns
returns c = chain_end _ _ _ (le-leb _ _ c.if-steps-lt1.false) (chain_end _ _ _ (le-leb _ _ c.if-steps-gt-MOST_TURN.false) refl)
