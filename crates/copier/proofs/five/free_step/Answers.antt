use mathlib.Core.Path.{ap}
use Rattle.std.specs.Prelude.{Ok}
use mathlib.Core.Path.{refl, ◌∙◌}
use mathlib.Core.Bool.{false}
use native.Mathlib.Omega.{arith}
use Rattle.image.proofs.NamingLaws.{next_read, rows_free, maps_free}
use Rattle.checkpoint.specs.Copier.{free_step, finish}
use Rattle.copier.proofs.FiveLaws.{free_root, free_next, free_lock, free_finish, lock_few, does_lock, does_same}
use Rattle.copier.proofs.five.free_step.Goals as goal

pub returns-then-not-is_copied : goal.returns-then-not-is_copied
returns-then-not-is_copied c =
    let a = c.args in
    λ s. does_lock s a.m.now a.d.now a.n (free_step a.m.now a.d.now a.n) 1 (free_root a.m.now a.d.now a.n _ c.is_copied.ensures c.if-not-is_copied.true-raw) _ _ (ap Ok c.lock.ensures.0) c.lock.ensures.1

pub named_blocks-requires : goal.named_blocks-requires
named_blocks-requires c = rows_free c.args.m.now c.args.n 0 false refl c.requires.1.rows

pub finish-requires : goal.finish-requires
finish-requires c =
    let a = c.args in
    let p = c.requires in
    (p.0, p.1.addressed, p.1.most, maps_free a.m.now a.n 0 false refl _ c.named_blocks.ensures, c.count_names.ensures)

pub returns-in_default : goal.returns-in_default
returns-in_default c =
    let a = c.args in
    let f = free_next a.m.now a.d.now a.n _ c.is_copied.ensures c.if-not-is_copied.false-raw _ (c.lowest_named.ensures ∙ next_read a.m.now a.d.now _ a.n c.requires.1.addressed.few c.count_names.ensures) in
    λ s. does_same s a.m.now a.d.now a.n (free_step a.m.now a.d.now a.n) finish (free_finish a.m.now a.d.now a.n _ f c.in_default.is) _ (c.finish.ensures s)

pub lock-requires-2 : goal.lock-requires-2
lock-requires-2 c =
    let a = c.args in
    let w = c.requires.0 in
    let f = free_next a.m.now a.d.now a.n _ c.is_copied.ensures c.if-not-is_copied.false-raw _ (c.lowest_named.ensures ∙ next_read a.m.now a.d.now _ a.n c.requires.1.addressed.few c.count_names.ensures) in
    let l = lock_few a.m.now a.d.now a.n c.in-Some.i c.requires.1.addressed.few (free_lock a.m.now a.d.now a.n _ f c.in-Some.i c.in-Some.is) in
    (w.read, omega (arith, w.long), w.steps, omega (arith, l))

pub returns : goal.returns
returns c =
    let a = c.args in
    let f = free_next a.m.now a.d.now a.n _ c.is_copied.ensures c.if-not-is_copied.false-raw _ (c.lowest_named.ensures ∙ next_read a.m.now a.d.now _ a.n c.requires.1.addressed.few c.count_names.ensures) in
    λ s. does_lock s a.m.now a.d.now a.n (free_step a.m.now a.d.now a.n) c.in-Some.i (free_lock a.m.now a.d.now a.n _ f c.in-Some.i c.in-Some.is) _ _ (ap Ok c.lock-2.ensures.0) c.lock-2.ensures.1
