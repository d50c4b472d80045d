use Prim.Native.Nat.{◌+◌, ◌-◌, ◌≤◌}
use mathlib.Core.Path.{refl, sym, ap, ◌∙◌}
use mathlib.Core.Logic.{◌⊎◌, inl, inr}
use native.Mathlib.Omega.{arith}
use borrow.Author.Tests.{ltb-true, ltb-false}
use lib.ListN.{length, get_or, drop, length-set}
use Rattle.octets.specs.Octets.{splice}
use Rattle.laps.specs.Times.{most_apart}
use Rattle.laps.specs.Walk.{lists}
use Rattle.laps.proofs.WalkLaws.{turn_early, turn_late, turn_pair, turn_last}
use Rattle.laps.proofs.FrontLaws.{written_begin, written_watch, written_mat, written_pair, written_last, rest_laid, past_a_pair}
use Rattle.laps.proofs.walk.Goals as goal
use Rattle.laps.proofs.walk.Goals.{then-loop-i-test+else-j-mat, else-loop-i-test}

pub loop-i-init : goal.loop-i-init
loop-i-init c = (omega arith, omega arith, omega arith, omega arith, refl, refl, refl, refl, written_begin _ _)

pub loop-i-preserved-then-too_early : goal.loop-i-preserved-then-too_early
loop-i-preserved-then-too_early c =
    let l = c.loop-i in
    let w = c.args.watch.now in
    let m = c.args.mat.now in
    let hj = c.if-j-mat.true in
    let far = ltb-true (get_or w l.i 0 + most_apart) (get_or m l.j 0) (sym c.too_early.ensures ∙ c.if-too_early.true) in (
      omega arith,
      omega arith,
      omega arith,
      omega arith,
      l.invariant.4,
      l.invariant.5,
      length-set l.alone_watch (l.i - l.p) (get_or w l.i 0) ∙ l.invariant.6,
      l.invariant.7,
      written_watch (get_or w l.i 0) (l.i + 1 - l.p) (turn_early w m l.i l.j (omega arith) hj far) (omega arith) l.invariant.8,
    )

pub bounds-alone_mat-j : goal.bounds-alone_mat-j
bounds-alone_mat-j c = omega arith

pub loop-i-smaller-then-too_early-2 : goal.loop-i-smaller-then-too_early-2
loop-i-smaller-then-too_early-2 c = omega arith

pub loop-i-preserved-then-too_early-2 : goal.loop-i-preserved-then-too_early-2
loop-i-preserved-then-too_early-2 c =
    let l = c.loop-i in
    let w = c.args.watch.now in
    let m = c.args.mat.now in
    let hj = c.if-j-mat.true in
    let far = ltb-true (get_or m l.j 0 + most_apart) (get_or w l.i 0) (sym c.too_early-else-too_early.ensures ∙ c.if-too_early-2.true) in (
      omega arith,
      omega arith,
      omega arith,
      omega arith,
      l.invariant.4,
      l.invariant.5,
      l.invariant.6,
      length-set l.alone_mat (l.j - l.p) (get_or m l.j 0) ∙ l.invariant.7,
      written_mat (get_or m l.j 0) (l.j + 1 - l.p) (turn_late w m l.i l.j (omega arith) hj far) (omega arith) l.invariant.8,
    )

pub bounds-paired_mat-p : goal.bounds-paired_mat-p
bounds-paired_mat-p c = omega arith

pub loop-i-preserved : goal.loop-i-preserved
loop-i-preserved c =
    let l = c.loop-i in
    let w = c.args.watch.now in
    let m = c.args.mat.now in
    let hj = c.if-j-mat.true in
    let n = ltb-false (get_or w l.i 0 + most_apart) (get_or m l.j 0) (sym c.too_early.ensures ∙ c.if-too_early.false) in
    let k = ltb-false (get_or m l.j 0 + most_apart) (get_or w l.i 0) (sym c.too_early-else-too_early.ensures ∙ c.if-too_early-2.false) in (
      omega arith,
      omega arith,
      omega arith,
      omega arith,
      length-set l.paired_watch l.p (get_or w l.i 0) ∙ l.invariant.4,
      length-set l.paired_mat l.p (get_or m l.j 0) ∙ l.invariant.5,
      l.invariant.6,
      l.invariant.7,
      written_pair (get_or w l.i 0) (get_or m l.j 0) (l.i + 1 - (l.p + 1)) (l.j + 1 - (l.p + 1)) (turn_pair w m l.i l.j (omega arith) hj (k, n)) (past_a_pair l.i l.p) (past_a_pair l.j l.p) l.invariant.8,
    )

pub returns : goal.returns
returns c =
    let l = c.loop-i in
    let w = c.args.watch.now in
    let m = c.args.mat.now in
    let ended : (length w ≤ l.i) ⊎ (length m ≤ l.j) = elim c.loop-i-test.branch [ then-loop-i-test+else-j-mat x ↦ inr x.if-j-mat.false | else-loop-i-test x ↦ inl x.loop-i-test.false ] in
    let g = written_last (drop l.i w) (drop l.j m) (turn_last w m l.i l.j ended) l.invariant.8 in
    let a = c.set_aside.ensures ∙ rest_laid l.alone_watch (l.i - l.p) w l.i in
    let b = c.set_aside-2.ensures ∙ rest_laid l.alone_mat (l.j - l.p) m l.j in
    record { value = g.0; alone_mat_after = ap (λ x. lists l.paired_watch l.paired_mat x c.set_aside-2.new.out) a ∙ ap (λ x. lists l.paired_watch l.paired_mat (splice l.alone_watch (l.i - l.p) (drop l.i w)) x) b ∙ g.1 }
