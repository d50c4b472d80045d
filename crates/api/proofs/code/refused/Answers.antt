use Rattle.api.proofs.CodeLaws.{refusal_fits, negated, back}
use mathlib.Core.Path.{sym, subst}
use native.Mathlib.Omega.{arith}
use lib.IntN.{ℤ}
use mir.Syntax.{w32}
use mir.Val.{SFits}
use Rattle.answers.proofs.RefusalLaws.{number_range}
use Rattle.api.proofs.code.refused.Goals as goal

pub overflow_cast-n : goal.overflow_cast-n
overflow_cast-n c = record { sfits = omega (arith, c.from-n.ensures, (number_range c.args.e).1) }

pub overflow_sub-result : goal.overflow_sub-result
overflow_sub-result c = subst (λ (z : ℤ). SFits w32 z) (sym (negated c.args.e _ c.from-n.ensures)) (refusal_fits _ (number_range c.args.e).1)

pub returns : goal.returns
returns c = back (negated c.args.e _ c.from-n.ensures) (refusal_fits _ (number_range c.args.e).1)
