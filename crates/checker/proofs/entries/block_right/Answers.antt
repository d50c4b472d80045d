use mathlib.Core.Path.{sym, ◌∙◌}
use native.Mathlib.Omega.{arith}
use Rattle.bounded.proofs.BoolLaws.{never}
use Rattle.bounded.proofs.BelowLaws.{all_none, all_more, all_stopped}
use Rattle.directory.proofs.SlotLaws.{few_blocks}
use Rattle.checker.proofs.EntryLaws.{slot_start, slot_inside, block_begin, block_more}
use Rattle.checker.proofs.entries.block_right.Goals as goal

pub loop-j-init : goal.loop-j-init
loop-j-init c =
    let a = c.args in
    (omega arith, all_none _, block_begin a.s.now a.n a.d a.k c.requires.passed)

pub overflow_mul-t : goal.overflow_mul-t
overflow_mul-t c =
    let a = c.args in
    omega (arith, few_blocks a.s.now a.n a.d c.requires.dir_fits.0 a.k c.requires.dir_fits.1)

pub overflow_add-t : goal.overflow_add-t
overflow_add-t c =
    let a = c.args in
    omega (arith, few_blocks a.s.now a.n a.d c.requires.dir_fits.0 a.k c.requires.dir_fits.1)

pub slot_right-requires : goal.slot_right-requires
slot_right-requires c =
    let i = c.loop-j-test.true in
    let a = c.args in
    record { dir_fits = (c.requires.dir_fits.0, slot_inside a.s.now a.n a.d a.k c.requires.dir_fits.1 c.loop-j.j i, c.requires.dir_fits.2, slot_start a.s.now a.n a.d a.k c.block_start-o.result c.loop-j.j c.block_start-o.ensures.0 i); passed = c.loop-j.invariant.2 }

pub returns-then-not-slot_right : goal.returns-then-not-slot_right
returns-then-not-slot_right c =
    let a = c.args in
    (all_stopped _ 4 c.loop-j.j c.loop-j-test.true (sym c.slot_right.ensures.0 ∙ c.if-not-slot_right.true), never)

pub loop-j-preserved : goal.loop-j-preserved
loop-j-preserved c =
    let a = c.args in
    (omega arith, all_more _ c.loop-j.j c.loop-j.invariant.1 (sym c.slot_right.ensures.0 ∙ c.if-not-slot_right.false), block_more a.s.now a.n a.d a.k c.loop-j.j (c.slot_right.ensures.1 c.if-not-slot_right.false))
