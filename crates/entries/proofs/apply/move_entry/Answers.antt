use Prim.Native.Nat.{ℕ}
use mathlib.Core.List.{List}
use mathlib.Core.Path.{ap, ◌∙◌}
use native.Mathlib.Omega.{arith}
use Rattle.directory.specs.Slot.{put_entry, clear_entry}
use Rattle.layout.proofs.KindLaws.{kind_most}
use Rattle.entries.specs.Apply.{set_parent, moved}
use Rattle.entries.proofs.EnterLaws.{roomed_dir, roomed_slot, moving_dir, moving_slot, moving_fits}
use Rattle.entries.proofs.apply.move_entry.Goals as goal

pub clear_entry-requires : goal.clear_entry-requires
clear_entry-requires c =
    let p = c.requires.sound_store in
    let f = c.requires.d_value in
    let q = c.make_room.ensures in
    (roomed_dir _ _ _ _ _ p.0 p.1 p.2 _ q _ f.0, roomed_slot _ _ _ _ _ p.0 p.1 p.2 _ q _ f.0 _ f.1)

pub put_entry-requires : goal.put_entry-requires
put_entry-requires c =
    let p = c.requires.sound_store in
    let q = c.make_room.ensures in
    let u = c.clear_entry.ensures in
    (moving_dir _ _ _ _ _ p.0 p.1 p.2 _ q _ _ _ u, moving_slot _ _ _ _ _ p.0 p.1 p.2 _ q _ _ _ u, c.requires.d_value.4)

pub set_parent-requires : goal.set_parent-requires
set_parent-requires c =
    let p = c.requires.sound_store in
    let f = c.requires.d_value in
    let a = kind_most _ _ _ _ p.1 in
    let m = p.0.sound.framed.most_inodes_lem in
    let e = p.0.inodes in
    (moving_fits _ _ _ _ _ p.0 p.1 p.2 _ c.make_room.ensures _ _ _ c.clear_entry.ensures _ _ _ c.put_entry.ensures _ f.2 f.3, omega arith)

pub returns : goal.returns
unfolding moved
returns c =
    let a = c.args in
    c.set_parent.ensures
    ∙ ap (λ (t : List ℕ). set_parent t a.n a.i a.e)
    (c.put_entry.ensures
    ∙ ap (λ (t : List ℕ). put_entry t a.n a.e a.room.slot a.i a.other.now)
    (c.clear_entry.ensures ∙ ap (λ (t : List ℕ). clear_entry t a.n a.d a.t) c.make_room.ensures))
