use Rattle.std.proofs.Common.{◌≡◌, ℕ, ◌+◌, ◌-◌, ◌<◌, sym, refl, ◌∙◌, arith}
use Rattle.bounded.proofs.BelowLaws.{all_stopped, all_none, all_more}
use Rattle.bounded.proofs.BoolLaws.{never}
use Rattle.blocks.specs.Block.{further_of, kth_block}
use Rattle.blocks.proofs.KthLaws.{kth_direct}
use Rattle.blocks.proofs.MapLaws.{map_as}
use Rattle.check_inodes.proofs.InodeLaws.{kth_used, kth_noted, rest_tested, rest_passed, further_is, further_few}
use Rattle.check_inodes.proofs.further_right.Goals as goal

pub loop-j-init : goal.loop-j-init
loop-j-init c =
    let p = c.requires in
    (omega arith, further_few _ _ _ p.i_value.0 p.sized.2, c.kth_block-a.ensures ∙ kth_direct _ _ _ _ 11 (omega arith), all_none _, p.sized.3)

pub returns-then-not-used_right : goal.returns-then-not-used_right
returns-then-not-used_right c =
    let i = c.loop-j in
    let p = c.requires in
    let u = i.invariant.1 in
    let e = further_is _ _ _ i.j _ _ _ p.i_value.0 refl p.i_value.1 i.invariant.2 c.further.ensures in
    (all_stopped _ _ i.j (omega arith) (sym (c.used_right.ensures.0 ∙ kth_used _ _ _ _ (12 + i.j) _ _ refl e p.sized.1.low (omega arith) p.sized.0.blocks _ i.invariant.4 (omega (arith, p.sized.2))) ∙ c.if-not-used_right.true), never)

pub loop-j-preserved : goal.loop-j-preserved
loop-j-preserved c =
    let i = c.loop-j in
    let p = c.requires in
    let y = c.used_right in
    let u = i.invariant.1 in
    let e = further_is _ _ _ i.j _ _ _ p.i_value.0 refl p.i_value.1 i.invariant.2 c.further.ensures in (
      omega arith,
      u,
      i.invariant.2,
      all_more _ _ i.invariant.3 (sym (y.ensures.0 ∙ kth_used _ _ _ _ (12 + i.j) _ _ refl e p.sized.1.low (omega arith) p.sized.0.blocks _ i.invariant.4 (omega (arith, p.sized.2))) ∙ c.if-not-used_right.false),
      map_as _ _ (omega arith) (kth_noted _ _ _ (12 + i.j) _ e p.sized.1.low (omega arith) _ _ i.invariant.4 (y.ensures.1 c.if-not-used_right.false)),
    )

pub returns : goal.returns
returns c =
    let l = c.loop-j in
    let a = c.args in
    let p = c.requires in
    let r = c.no_further.ensures in
    let s = a.s.now in
    let q : l.j ≡ a.used = omega arith in
    let u = l.invariant.1 in
    let e : (j : ℕ) → j < 32 - a.used → further_of s a.n c.kth_block-a.result (a.used + j) ≡ kth_block s a.n a.i (12 + (a.used + j)) = λ j h. further_is s a.n a.i (a.used + j) _ _ _ p.i_value.0 refl p.i_value.1 l.invariant.2 refl in (
      r ∙ rest_tested s a.n a.b a.i (λ x. 12 + x) (λ x y. omega arith) a.used 32 p.sized.1.low (omega arith) u (λ h. omega (arith, p.sized.2)) _ e (rw (← q) l.invariant.3),
      λ t. rest_passed s a.n a.b a.i (λ x. 12 + x) (λ x y. omega arith) a.used 32 p.sized.1.low (omega arith) u (λ h. omega (arith, p.sized.2)) _ e (sym r ∙ t) _ (rw (← q) l.invariant.4),
    )
