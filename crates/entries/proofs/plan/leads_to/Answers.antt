use native.Mathlib.Omega.{arith}
use Rattle.preservation.proofs.StoreLaws.{fits}
use Rattle.entries.proofs.ParentLaws.{climbing_start, climbing_found, climbing_root, climbing_turn, climbing_end}
use Rattle.entries.proofs.plan.leads_to.Goals as goal

pub loop-init : goal.loop-init
loop-init c = climbing_start _ _ _ _ c.requires.0 c.requires.1

pub returns-then-x-i : goal.returns-then-x-i
returns-then-x-i c = climbing_found _ _ _ _ c.requires.0 _ _ c.loop.invariant c.if-x-i.true

pub returns-then-x-eq-ROOT : goal.returns-then-x-eq-ROOT
returns-then-x-eq-ROOT c = climbing_root _ _ _ _ c.requires.0 _ _ c.loop.invariant c.requires.2 c.if-x-i.false c.if-x-eq-ROOT.true

pub parent-x-requires : goal.parent-x-requires
parent-x-requires c = fits c.requires.0 _ c.loop.invariant.dir.low c.loop.invariant.dir.high

pub loop-preserved : goal.loop-preserved
loop-preserved c = climbing_turn _ _ _ _ c.requires.0 _ _ c.loop.invariant (omega arith) c.if-x-i.false c.if-x-eq-ROOT.false _ c.parent-x.ensures

pub returns : goal.returns
returns c = climbing_end _ _ _ _ c.requires.0 _ _ c.loop.invariant (omega arith)
