use Rattle.std.proofs.Common.{◌≤◌, arith}
use Rattle.std.proofs.lemmas.Grind.{common_steps}
use Rattle.image.proofs.NamingLaws.{entry_out, entry_one}
use Rattle.image.proofs.naming.count_entry.Goals as goal

pub returns-then-contains : goal.returns-then-contains
returns-then-contains c =
    let a = c.args in
    let i = c.entry_inode.result in
    let l : 1 ≤ i = grind (arith, common_steps) in
    let h : i ≤ 256 = grind (arith, common_steps) in
    λ f p e t. entry_one a.m.now a.o _ a.counts.now c.entry_inode.ensures f p e t l h

pub returns-else-contains : goal.returns-else-contains
returns-else-contains c =
    let a = c.args in
    λ f p e t. entry_out a.m.now a.o _ a.counts.now c.entry_inode.ensures f p e t (λ l h. grind (arith, common_steps))
