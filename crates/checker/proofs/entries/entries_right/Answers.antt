use mathlib.Core.Path.{refl}
use native.Mathlib.Omega.{arith}
use Rattle.bounded.proofs.BelowLaws.{all_none}
use Rattle.checker.proofs.EntryLaws.{dirs_begin, dirs_more, dirs_stop}
use Rattle.checker.proofs.entries.entries_right.Goals as goal

pub loop-k-init : goal.loop-k-init
loop-k-init c =
    let a = c.args in
    (omega arith, all_none _, refl, dirs_begin a.s.now a.n a.counts.now c.requires.3)

pub returns-then-not-directory_right : goal.returns-then-not-directory_right
returns-then-not-directory_right c =
    let a = c.args in
    dirs_stop a.s.now a.n c.loop-k.k _ c.loop-k-test.true c.directory_right.ensures.0 c.if-not-directory_right.true

pub loop-k-preserved : goal.loop-k-preserved
loop-k-preserved c =
    let a = c.args in (
      omega arith,
      dirs_more a.s.now a.n c.loop-k.k _ c.loop-k.invariant.1 c.directory_right.ensures.0 c.if-not-directory_right.false,
      omega (arith, c.directory_right.auto.names, c.loop-k.invariant.2),
      c.directory_right.ensures.1 c.if-not-directory_right.false,
    )
