use Prim.Native.Nat.{ℕ}
use mathlib.Core.List.{List}
use mathlib.Core.Path.{ap, ap₂, ◌∙◌}
use native.Mathlib.Omega.{arith}
use Rattle.layout.specs.Inode.{put_inode}
use Rattle.layout.specs.declared.inode.Inode.{Inode}
use Rattle.layout.specs.Header.{less_free}
use Rattle.layout.proofs.KindLaws.{kind_most}
use Rattle.preservation.proofs.FreeLaws.{free_inode_lem}
use Rattle.entries.specs.Apply.{created}
use Rattle.entries.proofs.EnterLaws.{entered_fits, create_counts}
use Rattle.entries.proofs.apply.create.Goals as goal

pub enter-requires : goal.enter-requires
enter-requires c = let p = c.requires in record { sound_store = p.sound_store; i_le_n = ((free_inode_lem _ _ _ p.n_value.0).high, p.n_value.1) }

pub new_inode-requires : goal.new_inode-requires
new_inode-requires c = let p = c.requires.sound_store in let a = kind_most _ _ _ _ p.1 in let b = p.0.sound.framed.most_inodes_lem in let e = p.0.inodes in omega arith

pub write-requires : goal.write-requires
write-requires c = let p = c.requires.sound_store in let f = free_inode_lem _ _ _ c.requires.n_value.0 in entered_fits _ _ _ _ _ p.0 p.1 p.2 _ _ _ c.enter.ensures _ f.low f.high

pub less_free-requires : goal.less_free-requires
less_free-requires c = let p = c.requires.sound_store in let z = create_counts _ _ _ _ _ p.0 p.1 p.2 _ _ _ c.enter.ensures c.requires.n_value.0 c.args.kind _ (c.write.ensures ∙ ap (put_inode _ _ _) c.new_inode.ensures) in (z.0, z.1, omega arith)

pub returns : goal.returns
unfolding created
returns c =
    let a = c.args in
    c.less_free.ensures
    ∙ ap (λ (t : List ℕ). less_free t 1 0)
    (c.write.ensures ∙ ap₂ (λ (t : List ℕ) (v : Inode). put_inode t a.n a.i v) c.enter.ensures c.new_inode.ensures)
