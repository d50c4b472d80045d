use Prim.Native.Nat.{ℕ}
use mathlib.Core.Path.{ap, ◌∙◌}
use lib.Dec.{eqb}
use Rattle.layout.proofs.InodeLaws.{attributes_word}
use Rattle.layout.proofs.inode.attributes_zero.Goals as goal

pub returns : goal.returns
returns c = ap (λ (x : ℕ). eqb x 0) c.get_64.ensures ∙ attributes_word _ _ _ c.attributes_at.ensures
