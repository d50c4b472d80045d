use Prim.Native.Nat.{ℕ}
use mathlib.Core.List.{List}
use mathlib.Core.Path.{ap, ◌∙◌}
use Rattle.preservation.proofs.StoreLaws.{kind_dir}
use Rattle.entries.specs.Apply.{drop_link, unlinked}
use Rattle.entries.proofs.EnterLaws.{cleared}
use Rattle.entries.proofs.apply.unlink.Goals as goal

pub clear_entry-requires : goal.clear_entry-requires
clear_entry-requires c = let p = c.requires in (kind_dir p.0 _ p.1, p.2)

pub drop_link-requires : goal.drop_link-requires
drop_link-requires c = let p = c.requires in let z = cleared p.0 _ _ p.1 p.2 _ c.clear_entry.ensures _ p.3 p.4 in (z.inode, z.inodes, z.blocks)

pub returns : goal.returns
unfolding unlinked
returns c = let a = c.args in c.drop_link.ensures ∙ ap (λ (t : List ℕ). drop_link t a.n a.i) c.clear_entry.ensures
