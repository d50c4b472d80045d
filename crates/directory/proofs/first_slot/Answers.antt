use Rattle.std.proofs.Common.{◌∙◌, sym, arith}
use Rattle.directory.proofs.SlotLaws.{blocks_begin, block_hit, block_skip, blocks_end}
use Rattle.directory.proofs.first_slot.Goals as goal

pub loop-k-init : goal.loop-k-init
loop-k-init g c = λ p t. let a = c.args in blocks_begin p a.s.now a.n a.d

pub block_start-o-requires : goal.block_start-o-requires
block_start-o-requires g c = (c.requires.fits, omega arith)

pub returns-in-Some : goal.returns-in-Some
returns-in-Some g c = λ p t.
    let a = c.args in
    let i = c.loop-k in
    sym (i.invariant p t ∙ block_hit p a.s.now a.n a.d i.k c.block_start-o.ensures.0
    (c.first_in_block-found.ensures.lowest p t) (omega arith) c.in-Some.is)

pub loop-k-preserved : goal.loop-k-preserved
loop-k-preserved g c = λ p t.
    let a = c.args in
    let i = c.loop-k in
    i.invariant p t ∙ block_skip p a.s.now a.n a.d i.k c.block_start-o.ensures.0
    (c.first_in_block-found.ensures.lowest p t) (omega arith) c.in_default.is

pub returns : goal.returns
returns g c = λ p t.
    let a = c.args in
    let i = c.loop-k in
    sym (i.invariant p t ∙ blocks_end p a.s.now a.n a.d i.k (omega (arith, c.slot_count-count.ensures.0)))
