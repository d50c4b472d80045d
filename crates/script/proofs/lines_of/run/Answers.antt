use Rattle.std.proofs.Common.{ℕ, List, Bor, ap, ◌∙◌}
use Rattle.script.proofs.TurnLaws.{turn_begun, turn_more, sum_fits, nearer, turn_last, bytes_last}
use Rattle.script.proofs.lines_of.run.Goals as goal

pub loop-r-init : goal.loop-r-init
loop-r-init c = (ap (λ (x : Bor (List ℕ)). x.now) c.start-r.ensures.0, turn_begun _ _ _ c.start-r.ensures.1 c.requires.3)

pub overflow_add-bytes : goal.overflow_add-bytes
overflow_add-bytes c = record { fits = sum_fits _ _ _ _ c.loop-r.invariant.0 c.line.ensures c.loop-r-test.true _ _ _ _ c.loop-r.invariant.1 c.line-b.ensures.1 c.requires.2 }

pub loop-r-smaller : goal.loop-r-smaller
loop-r-smaller c = nearer _ _ _ _ c.loop-r.invariant.0 c.line.ensures c.loop-r-test.true _ c.after-r.ensures.1

pub loop-r-preserved : goal.loop-r-preserved
loop-r-preserved c = (
  ap (λ (x : Bor (List ℕ)). x.now) c.after-r.ensures.0 ∙ c.loop-r.invariant.0,
  turn_more _ _ _ _ c.loop-r.invariant.0 c.line.ensures c.loop-r-test.true _ _ _ _ c.loop-r.invariant.1 c.line-b.ensures.1 _ c.line-b.ensures.0 _ c.after-r.ensures.1,
)

pub returns : goal.returns
returns c = (turn_last _ _ _ _ _ c.loop-r.invariant.1 c.loop-r-test.false c.requires.2 c.requires.3, bytes_last _ _ _ _ _ c.loop-r.invariant.1 c.loop-r-test.false c.requires.2 c.requires.3)
