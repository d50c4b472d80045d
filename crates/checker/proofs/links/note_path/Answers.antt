use mathlib.Core.Path.{◌∙◌}
use native.Mathlib.Omega.{arith}
use Rattle.checker.proofs.LinkLaws.{path_turn}
use Rattle.checker.proofs.links.note_path.Goals as goal

pub loop-preserved : goal.loop-preserved
loop-preserved c =
    let p = c.requires.n_le_most_inodes in
    (omega arith, path_turn _ _ _ _ _ p.0 p.4 c.loop.invariant.1 c.if-known-noted.false (c.from-noted.ensures ∙ c.parent.ensures))
