use Prim.Native.Nat.{ℕ, ◌+◌}
use mathlib.Core.List.{List}
use mathlib.Core.Path.{ap, ap₂, ◌∙◌}
use native.Mathlib.Omega.{arith}
use Rattle.layout.specs.Inode.{links_of, put_links}
use Rattle.layout.proofs.KindLaws.{kind_some, kind_most}
use Rattle.entries.specs.Apply.{linked}
use Rattle.entries.proofs.EnterLaws.{few_links, entered_fits, entered_links}
use Rattle.entries.proofs.apply.link.Goals as goal

pub enter-requires : goal.enter-requires
enter-requires c = let p = c.requires in record { sound_store = p.sound_store; i_le_n = (kind_most _ _ _ _ p.i_value.0, p.i_value.1) }

pub links-links-requires : goal.links-links-requires
links-links-requires c = let p = c.requires.sound_store in let f = c.requires.i_value.0 in entered_fits _ _ _ _ _ p.0 p.1 p.2 _ _ _ c.enter.ensures _ (kind_some _ _ _ _ f) (kind_most _ _ _ _ f)

pub overflow_add-links : goal.overflow_add-links
overflow_add-links c =
    let p = c.requires.sound_store in
    let f = c.requires.i_value.0 in
    let a = kind_most _ _ _ _ f in
    let e = p.0.inodes in
    let l = c.links-links.ensures ∙ entered_links _ _ _ _ _ p.0 p.1 p.2 _ _ _ c.enter.ensures _ (kind_some _ _ _ _ f) (kind_most _ _ _ _ f) in
    let m = few_links _ p.0.sound _ (kind_some _ _ _ _ f) (omega arith) in
    omega arith

pub put_links-requires : goal.put_links-requires
put_links-requires c = let p = c.requires.sound_store in let f = c.requires.i_value.0 in entered_fits _ _ _ _ _ p.0 p.1 p.2 _ _ _ c.enter.ensures _ (kind_some _ _ _ _ f) (kind_most _ _ _ _ f)

pub returns : goal.returns
unfolding linked
returns c =
    let a = c.args in
    let e = c.enter.ensures in
    c.put_links.ensures
    ∙ ap₂ (λ (t : List ℕ) (x : ℕ). put_links t a.i (x + 1)) e (c.links-links.ensures ∙ ap (λ (t : List ℕ). links_of t a.i) e)
