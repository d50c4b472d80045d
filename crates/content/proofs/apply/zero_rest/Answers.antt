use mathlib.Core.Path.{◌∙◌}
use native.Mathlib.Omega.{arith}
use Rattle.content.proofs.ReadLaws.{fits_inode, byte_inside}
use Rattle.content.proofs.CodeLaws.{rest_some}
use Rattle.content.proofs.apply.zero_rest.Goals as goal

pub is_long-long-requires : goal.is_long-long-requires
is_long-long-requires c = fits_inode c.requires

pub zero_range-requires : goal.zero_range-requires
zero_range-requires c = rw c.byte_at-p.ensures (byte_inside c.requires _ (omega arith) _ (omega arith))

pub returns : goal.returns
returns c = c.zero_range.ensures ∙ rw c.byte_at-p.ensures (rest_some _ _ _ _ (omega arith))
