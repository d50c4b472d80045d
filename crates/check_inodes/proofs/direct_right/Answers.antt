use Rattle.std.proofs.Common.{◌≡◌, ℕ, ◌+◌, ◌-◌, ◌*◌, ◌<◌, sym, refl, ap, ◌∙◌, arith}
use Rattle.bounded.proofs.BelowLaws.{all_stopped, all_none, all_more}
use Rattle.bounded.proofs.BoolLaws.{never}
use Rattle.layout.specs.Inode.{address_of}
use Rattle.blocks.specs.Block.{kth_block}
use Rattle.blocks.proofs.KthLaws.{kth_direct}
use Rattle.blocks.proofs.MapLaws.{map_as}
use Rattle.check_inodes.proofs.InodeLaws.{kth_used, kth_noted, rest_tested, rest_passed}
use Rattle.check_inodes.proofs.direct_right.Goals as goal

pub loop-k-init : goal.loop-k-init
loop-k-init c = (omega arith, all_none _, c.requires.3)

pub returns-then-not-used_right : goal.returns-then-not-used_right
returns-then-not-used_right c =
    let i = c.loop-k in
    let p = c.requires in
    (all_stopped _ _ i.k (omega (arith, p.2)) (sym (c.used_right.ensures.0 ∙ kth_used _ _ _ _ i.k _ _ refl c.kth_block.ensures p.1.low (omega (arith, p.2)) p.0.blocks _ i.invariant.2 (omega (arith, p.2))) ∙ c.if-not-used_right.true), never)

pub loop-k-preserved : goal.loop-k-preserved
loop-k-preserved c =
    let i = c.loop-k in
    let p = c.requires in
    let y = c.used_right in
    let e = c.kth_block.ensures in (
      omega arith,
      all_more _ _ i.invariant.1 (sym (y.ensures.0 ∙ kth_used _ _ _ _ i.k _ _ refl e p.1.low (omega (arith, p.2)) p.0.blocks _ i.invariant.2 (omega (arith, p.2))) ∙ c.if-not-used_right.false),
      map_as _ _ (omega arith) (kth_noted _ _ _ i.k _ e p.1.low (omega (arith, p.2)) _ _ i.invariant.2 (y.ensures.1 c.if-not-used_right.false)),
    )

pub returns : goal.returns
returns c =
    let l = c.loop-k in
    let a = c.args in
    let p = c.requires in
    let r = c.no_addresses.ensures in
    let s = a.s.now in
    let q : l.k ≡ a.used = omega arith in
    let e : (j : ℕ) → j < 12 - a.used → address_of s a.n (12 * (a.i - 1) + a.used + j) ≡ kth_block s a.n a.i (a.used + j) = λ j h. let z : 12 * (a.i - 1) + a.used + j ≡ 12 * (a.i - 1) + (a.used + j) = omega arith in ap (address_of s a.n) z ∙ sym (kth_direct _ s a.n a.i (a.used + j) (omega arith)) in (
      r ∙ rest_tested s a.n a.b a.i (λ x. x) (λ x y. refl) a.used 12 p.1.low (omega arith) (omega (arith, p.2)) (λ h. omega (arith, p.2)) _ e (rw (← q) l.invariant.1),
      λ t. rest_passed s a.n a.b a.i (λ x. x) (λ x y. refl) a.used 12 p.1.low (omega arith) (omega (arith, p.2)) (λ h. omega (arith, p.2)) _ e (sym r ∙ t) _ (rw (← q) l.invariant.2),
    )
