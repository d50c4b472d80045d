use Prim.Native.Nat.{ℕ}
use mathlib.Core.List.{List}
use mathlib.Core.Path.{ap, ◌∙◌}
use Rattle.directory.specs.Slot.{put_entry}
use Rattle.entries.specs.Apply.{enter}
use Rattle.entries.proofs.EnterLaws.{roomed, roomed_dir}
use Rattle.entries.proofs.apply.enter.Goals as goal

pub put_entry-requires : goal.put_entry-requires
put_entry-requires c =
    let p = c.requires.sound_store in
    let q = c.make_room.ensures in
    (roomed_dir _ _ _ _ _ p.0 p.1 p.2 _ q _ p.1, (roomed _ _ _ _ _ p.0 p.1 p.2 _ q).slot, c.requires.i_le_n.1)

pub returns : goal.returns
unfolding enter
returns c =
    let a = c.args in
    c.put_entry.ensures ∙ ap (λ (t : List ℕ). put_entry t a.n a.d a.room.slot a.i a.name.now) c.make_room.ensures
