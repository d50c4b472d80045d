use Rattle.text.proofs.PieceLaws.{start_none, start_more, rest_is, rest_none}
use Rattle.text.specs.Pieces.{piece_start}
use native.Mathlib.Omega.{arith}
use mathlib.Core.Path.{◌≡◌, refl, ap, ◌∙◌}
use Rattle.text.proofs.pieces.rest.Goals as goal

pub loop-j-init : goal.loop-j-init
loop-j-init c = (omega arith, start_none _ _)

pub loop-j-preserved : goal.loop-j-preserved
loop-j-preserved c = let i = c.loop-j in (omega arith, start_more _ _ i.j i.o _ i.invariant.1 c.find-o.ensures.0)

pub returns-then-o-s : goal.returns-then-o-s
returns-then-o-s c = let i = c.loop-j in let a = c.args in let e : i.j ≡ a.k = omega arith in rest_is _ _ _ i.o _ (i.invariant.1 ∙ ap (piece_start a.s.now a.x) e) refl

pub returns : goal.returns
returns c = let i = c.loop-j in let a = c.args in let e : i.j ≡ a.k = omega arith in rest_none _ _ _ i.o (i.invariant.1 ∙ ap (piece_start a.s.now a.x) e) (omega arith)
