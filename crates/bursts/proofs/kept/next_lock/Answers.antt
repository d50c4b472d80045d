use mathlib.Core.Path.{ap, ◌∙◌}
use mathlib.Core.Bool.{not}
use Rattle.image.proofs.NamingLaws.{next_read}
use Rattle.copier.proofs.FiveLaws.{free_root, free_next}
use Rattle.bursts.proofs.kept.next_lock.Goals as goal

pub returns-then-is_copied : goal.returns-then-is_copied
returns-then-is_copied c =
    let a = c.args in
    λ m t. free_next m a.d.now a.n _ c.is_copied.ensures (ap not c.if-is_copied.true) _ (c.lowest_named.ensures ∙ next_read m a.d.now _ a.n c.requires.0 t)

pub returns-else-is_copied : goal.returns-else-is_copied
returns-else-is_copied c =
    let a = c.args in
    λ m _. free_root m a.d.now a.n _ c.is_copied.ensures (ap not c.if-is_copied.false)
