use native.Mathlib.Omega.{arith}
use mathlib.Core.Path.{◌≡◌, ap, ◌∙◌}
use Rattle.layout.specs.Inode.{size_of}
use Rattle.blocks.specs.Block.{blocks_used}
use Rattle.directory.specs.Slot.{slots}
use Rattle.directory.proofs.slot_count.Goals as goal

pub overflow_mul-result : goal.overflow_mul-result
overflow_mul-result c = let e = (let h : c.blocks_used.result ≡ blocks_used (size_of c.args.s.now c.args.d) = c.blocks_used.ensures ∙ ap blocks_used c.size.ensures in h) in omega (arith, c.requires.few)

pub returns : goal.returns
unfolding slots
returns c = let e = (let h : c.blocks_used.result ≡ blocks_used (size_of c.args.s.now c.args.d) = c.blocks_used.ensures ∙ ap blocks_used c.size.ensures in h) in omega (arith, c.requires.few)
