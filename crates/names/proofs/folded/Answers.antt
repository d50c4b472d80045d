use mathlib.Core.Path.{refl}
use native.Mathlib.Omega.{arith}
use lib.Bits.{and_le_r}
use Rattle.names.proofs.FoldLaws.{capitals_at, capitals_fit, low_fits}
use borrow.Author.Rules.{rules}
use Rattle.names.proofs.folded.Goals as goal

pub overflow_add-result : goal.overflow_add-result
overflow_add-result c = record { fits = capitals_fit c.args.w (search rules) _ refl }

pub returns : goal.returns
returns c = capitals_at c.args.w (search rules) _ refl
