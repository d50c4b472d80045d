use mathlib.Core.Path.{◌∙◌}
use Rattle.image.proofs.NamingLaws.{other_inode}
use Rattle.image.proofs.naming.count_directory.Goals as goal

pub returns-then-kind-ne-DIRECTORY : goal.returns-then-kind-ne-DIRECTORY
returns-then-kind-ne-DIRECTORY c =
    let a = c.args in
    let p = c.requires in
    other_inode a.m.now a.n a.e p.1 (λ q. c.if-kind-ne-DIRECTORY.true (c.kind.ensures ∙ q)) a.counts.now p.3
