use Rattle.std.specs.Prelude.{Err}
use mathlib.Core.Path.{ap, ◌∙◌}
use native.Mathlib.Omega.{arith}
use Rattle.blocks.specs.Block.{blocks_used}
use Rattle.checkpoint.specs.Copier.{close, copy, locked_step}
use Rattle.copier.proofs.FiveLaws.{locked_close, locked_copy, locked_full, does_same, does_full, target_inside}
use Rattle.copier.proofs.five.locked_step.Goals as goal

pub returns-then-blocks_used-k : goal.returns-then-blocks_used-k
returns-then-blocks_used-k c =
    let a = c.args in
    let h = a.h in
    let u = c.blocks_used.ensures ∙ ap blocks_used c.size.ensures in
    does_same a.s.now a.m.now a.d.now a.n (locked_step a.s.now a.m.now a.n h.blocks h.locked h.transferred) (close h.locked) (locked_close a.s.now a.m.now a.n h.blocks h.locked h.transferred _ u c.if-blocks_used-k.true) _ c.close.ensures

pub returns-in_default : goal.returns-in_default
returns-in_default c =
    let a = c.args in
    let h = a.h in
    let u = c.blocks_used.ensures ∙ ap blocks_used c.size.ensures in
    does_full a.s.now a.m.now a.d.now a.n (locked_step a.s.now a.m.now a.n h.blocks h.locked h.transferred) (locked_full a.s.now a.m.now a.n h.blocks h.locked h.transferred _ u (omega arith) _ c.is_long-long.ensures _ c.kth_used-own.ensures _ c.target_block.ensures c.in_default.is) _ _ (ap Err c.stop.ensures.0) c.stop.ensures.1

pub copy-requires : goal.copy-requires
copy-requires c =
    let a = c.args in
    let h = a.h in
    let u = c.blocks_used.ensures ∙ ap blocks_used c.size.ensures in
    (c.requires.0, c.requires.1, omega arith, target_inside c.requires.1 c.requires.2 (omega arith) _ _ c.in-Some.c _ c.target_block.ensures c.in-Some.is)

pub returns : goal.returns
returns c =
    let a = c.args in
    let h = a.h in
    let u = c.blocks_used.ensures ∙ ap blocks_used c.size.ensures in
    does_same a.s.now a.m.now a.d.now a.n (locked_step a.s.now a.m.now a.n h.blocks h.locked h.transferred) (copy h.locked h.transferred c.in-Some.c) (locked_copy a.s.now a.m.now a.n h.blocks h.locked h.transferred _ u (omega (arith, c.if-blocks_used-k.false)) _ c.is_long-long.ensures _ c.kth_used-own.ensures _ c.target_block.ensures c.in-Some.c c.in-Some.is) _ c.copy.ensures
