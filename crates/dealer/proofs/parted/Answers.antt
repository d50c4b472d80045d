use Prim.Native.Nat.{ℕ, ◌-◌, ◌%◌}
use mathlib.Core.Path.{◌≡◌, sym, ap, subst, ◌∙◌}
use native.Mathlib.Nat.{div-le_self}
use native.Mathlib.Omega.{arith}
use Rattle.dealer.proofs.Filling.{Filling, begin, skips, in_round, gives, whole, not_reached, passes}
use Rattle.dealer.proofs.TurnLaws.{in_a_round, ends_at, same_turn}
use Rattle.dealer.proofs.parted.Goals as goal
use Rattle.dealer.proofs.parted.Goals.{then-flags-bay, else-flags-bay}

pub overflow_sub-ending : goal.overflow_sub-ending
overflow_sub-ending c = omega (arith, c.requires.0.low, c.requires.1)

pub loop-d-init : goal.loop-d-init
loop-d-init c = (omega arith, begin _ _ _ c.requires.0.bay, not_reached _ _ _ _)

pub share-requires : goal.share-requires
share-requires c =
    omega (arith, div-le_self c.args.steps c.args.n, c.requires.0.most)

pub overflow_add-place : goal.overflow_add-place
overflow_add-place c =
    let p = c.requires in
    omega (arith, in_round _ _ _ p.0.bay _ _ _ _ p.2 (omega arith) c.if-flags-bay.true c.loop-d.invariant.1)

pub loop-d-preserved : goal.loop-d-preserved
loop-d-preserved c =
    let p = c.requires in
    let i = c.loop-d.invariant in
    elim c.if-flags-bay.branch [
      | then-flags-bay w ↦ (
        omega arith,
        rw (w.counts-is, w.place-is) (gives _ _ _ p.0.bay _ _ _ _ p.2 (omega arith) w.if-flags-bay.true i.1 _ w.share.ensures),
        rw (w.end-is, w.place-is) (passes _ _ _ _ _ _ _ p.0.bay (omega arith) w.if-flags-bay.true i.1.place w.end_at-end.ensures i.2),
      )
      | else-flags-bay w ↦ (
        omega arith,
        rw (w.counts-is, w.place-is) (skips _ _ _ p.0.bay _ _ _ (omega arith) w.if-flags-bay.false i.1),
        rw (w.end-is, w.place-is) i.2,
      )
    ]

pub returns : goal.returns
returns c =
    let a = c.args in
    let p = c.requires in
    let l = c.loop-d in
    let e : l.d ≡ 16 = omega arith in
    let q = subst (λ (k : ℕ). Filling a.flags a.last a.steps k l.place l.counts) e l.invariant.1 in
    let t = in_a_round _ a.n l.place (p.2 ∙ sym q.place) (λ z. omega (arith, p.1)) in
    let w = l.invariant.2 in
    same_turn _ _ _ _
    (ends_at a.flags a.last p.0.bay a.steps l.end p.0.low (w.bay t) (w.runs_there t) (w.place t ∙ ap (λ (k : ℕ). (a.steps - 1) % k) p.2))
    (whole _ _ _ p.0.bay l.place l.counts q)
