use Prim.Native.Nat.{ℕ, ◌-◌}
use mathlib.Core.Path.{ap, ap₂, ◌∙◌}
use native.Mathlib.Omega.{arith}
use Rattle.blocks.specs.Block.{blocks_used}
use Rattle.preservation.proofs.StoreLaws.{kind_fits}
use Rattle.ledger.proofs.BytesLaws.{used_up}
use Rattle.content.proofs.CodeLaws.{extend_none, extend_some}
use Rattle.content.proofs.apply.extend.Goals as goal

pub size-requires : goal.size-requires
size-requires c = let p = c.requires.sound_store in kind_fits p.0 _ _ p.1

pub overflow_sub-more : goal.overflow_sub-more
overflow_sub-more c = let e = c.blocks_used.ensures in let g = (c.blocks_used-2.ensures ∙ ap blocks_used c.size.ensures) in let m = used_up _ _ c.requires.i_bound.0 in omega arith

pub put_size-requires : goal.put_size-requires
put_size-requires c = let p = c.requires in (kind_fits p.sound_store.0 _ _ p.sound_store.1, p.i_bound.1)

pub returns-then-more-eq0 : goal.returns-then-more-eq0
returns-then-more-eq0 c = extend_none _ _ _ _ _ _ (ap₂ (λ (x y : ℕ). x - y) c.blocks_used.ensures (c.blocks_used-2.ensures ∙ ap blocks_used c.size.ensures)) _ c.if-more-eq0.true c.put_size.ensures

pub returns : goal.returns
returns c = extend_some _ _ _ _ _ _ (ap₂ (λ (x y : ℕ). x - y) c.blocks_used.ensures (c.blocks_used-2.ensures ∙ ap blocks_used c.size.ensures)) _ c.if-more-eq0.false c.grow.ensures
