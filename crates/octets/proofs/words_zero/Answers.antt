use mathlib.Core.Path.{sym, ◌∙◌}
use native.Mathlib.Omega.{arith}
use borrow.Author.Tests.{eq-eqb, ne_eqb}
use Rattle.bounded.proofs.BelowLaws.{all_none, all_more, all_stopped, all_done}
use Rattle.octets.proofs.ZeroLaws.{numbers_zero}
use Rattle.octets.proofs.words_zero.Goals as goal

pub loop-j-init : goal.loop-j-init
loop-j-init c = (omega arith, all_none _)

pub returns-then-get_64-ne0 : goal.returns-then-get_64-ne0
returns-then-get_64-ne0 c =
    all_stopped _ _ c.loop-j.j (omega arith) (ne_eqb _ 0 (λ z. c.if-get_64-ne0.true (c.get_64.ensures ∙ z))) ∙ numbers_zero 8 _ _ _

pub loop-j-preserved : goal.loop-j-preserved
loop-j-preserved c = (omega arith, all_more _ _ c.loop-j.invariant.1 (eq-eqb _ 0 (sym c.get_64.ensures ∙ c.if-get_64-ne0.false)))

pub returns : goal.returns
returns c = all_done _ _ c.loop-j.j (omega arith) (omega arith) c.loop-j.invariant.1 ∙ numbers_zero 8 _ _ _
