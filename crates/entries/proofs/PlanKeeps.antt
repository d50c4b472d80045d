-- The calls on entries keep a store sound: the room that a plan makes, and then the change. n and b are the counts of inodes and blocks.
use Rattle.std.specs.Prelude.{None, Ok}
use Prim.Native.Nat.{ℕ, ◌<◌}
use mathlib.Core.Path.{◌≡◌, sym, ap, ◌∙◌, subst}
use mathlib.Core.Bool.{true}
use mathlib.Core.List.{List}
use Rattle.layout.specs.Inode.{file_kind, directory_kind, is_kind, is_directory}
use Rattle.names.specs.Entry.{entry_inode, is_empty}
use Rattle.directory.specs.Slot.{find_slot, slot_empty}
use Rattle.directory.proofs.SlotLaws.{find_below}
use Rattle.sound.specs.Sound.{Sound}
use Rattle.sound.specs.Counted.{SoundStore}
use Rattle.sound.specs.declared.Form.TheVariants.{Store}
use Rattle.preservation.proofs.KeepLaws.{same_slots}
use Rattle.preservation.proofs.StoreLaws.{same_counts, is_dir}
use Rattle.preservation.proofs.SlotPlaceLaws.{entry_here, found_full}
use Rattle.entries.specs.declared.Kind.{Kind}
use Rattle.entries.specs.declared.Room.{Room}
use Rattle.entries.specs.Room.{room_in, make_room, creation, removal}
use Rattle.entries.specs.Plan.{create_plan, link_plan, unlink_plan, rename_new_plan}
use Rattle.entries.specs.Apply.{enter, created, linked, unlinked, renamed, moved}
use Rattle.entries.proofs.PlanFacts.{NewIn, creates, links, unlinks, renames, moves}
use Rattle.entries.proofs.RoomLaws.{Roomed, make_room_lem, same_kind, same_free_inode, same_find}
use Rattle.entries.proofs.CreateKeeps.{create_sound}
use Rattle.entries.proofs.LinkKeeps.{link_sound}
use Rattle.entries.proofs.UnlinkKeeps.{unlink_sound}
use Rattle.entries.proofs.RenameKeeps.{rename_sound}
use Rattle.entries.proofs.MoveKeeps.{not_below, below_kept, move_sound}
use Rattle.entries.specs.declared.RenamePlan.TheVariants.{Move, Rename}

module _ (s : List ℕ) (n b : ℕ) (h : SoundStore s n b) where
  -- with room made, the directories and the new name are as they were
  module _ (d : ℕ) (name : List ℕ) (r : Room) (k : is_directory s n d ≡ true) (e : room_in s n b d ≡ Ok r) where
    abbrev m : List ℕ
    m = make_room s n d r

    roomed : Roomed s m n d r.slot
    roomed = make_room_lem s n b d h k r e

    counts : SoundStore m n b
    counts = same_counts h roomed.frame roomed.sound

    kind : (j i : ℕ) → is_kind m n j i ≡ is_kind s n j i
    kind j i = same_kind s m n j i roomed.tree.kinds

    still : NewIn s n d name → find_slot m n d name ≡ None
    still w = same_find s m n d r.slot roomed name w.legal (is_dir s n d k) ∙ w.absent

  pub created_sound : (d : ℕ) (name : List ℕ) (k : Kind) (i : ℕ) (r : Room) → create_plan s n b d name ≡ Ok (creation i r) → Sound Store (created s n d name k i r)
  unfolding created enter
  created_sound d name k i r e =
      let c = creates s n b d name i r e in
      let w = c.new in
      let o = roomed d name r w.directory c.room in
      create_sound (make_room s n d r) n d r.slot i k name (counts d name r w.directory c.room) (kind d name r w.directory c.room directory_kind d ∙ w.directory)
      (same_free_inode s (make_room s n d r) n o.tree.kinds ∙ c.inode) o.slot o.empty w.legal (still d name r w.directory c.room w)

  pub linked_sound : (d : ℕ) (name : List ℕ) (i : ℕ) (r : Room) → link_plan s n b d name i ≡ Ok r → Sound Store (linked s n d name i r)
  unfolding linked enter
  linked_sound d name i r e =
      let c = links s n b d name i r e in
      let w = c.new in
      let o = roomed d name r w.directory c.room in
      let same = kind d name r w.directory c.room in
      link_sound (make_room s n d r) n d r.slot i name (counts d name r w.directory c.room) (same directory_kind d ∙ w.directory) (same file_kind i ∙ c.file)
      o.slot o.empty w.legal (still d name r w.directory c.room w)

  pub unlinked_sound : (d : ℕ) (name : List ℕ) (t i : ℕ) → unlink_plan s n d name ≡ Ok (removal t i) → Sound Store (unlinked s n d t i)
  unlinked_sound d name t i e =
      let c = unlinks s n d name t i e in
      let w = c.entry in
      unlink_sound s n d t i h w.directory (find_below s n d name t w.found) (found_full s n d name t w.legal w.found) w.inode c.empty

  pub renamed_sound : (d : ℕ) (name : List ℕ) (e : ℕ) (other : List ℕ) (t i : ℕ) → rename_new_plan s n b d name e other ≡ Ok (Rename t i) → Sound Store (renamed s n d other t i)
  renamed_sound d name e other t i q =
      let c = renames s n b d name e other t i q in
      let w = c.0.entry in
      rename_sound s n d t i other h w.directory (find_below s n d name t w.found) (found_full s n d name t w.legal w.found) w.inode
      c.0.legal c.0.free

  pub moved_sound : (d : ℕ) (name : List ℕ) (e : ℕ) (other : List ℕ) (t i : ℕ) (r : Room) → rename_new_plan s n b d name e other ≡ Ok (Move t i r) → Sound Store (moved s n d e other t i r)
  unfolding moved slot_empty
  moved_sound d name e other t i r q =
      let c = moves s n b d name e other t i r q in
      let w = c.0.entry in
      let v = c.0.new in
      let o = c.1 in
      let inside = find_below s n d name t w.found in
      let full = found_full s n d name t w.legal w.found in
      let old = entry_here h d t i w.directory inside full w.inode in
      let m = make_room s n e r in
      let g = roomed e other r v.directory o.room in
      let same = kind e other r v.directory o.room in
      let k = counts e other r v.directory o.room in
      let entry = g.entries d t (is_dir s n d w.directory) inside in
      move_sound m n d t i e r.slot other k (same directory_kind d ∙ w.directory)
      (subst (λ (z : ℕ). t < z) (sym (same_slots (g.others d old.slot.low old.slot.high o.other))) inside)
      (ap is_empty entry ∙ full) (w.inode ∙ ap entry_inode (sym entry))
      (same directory_kind e ∙ v.directory) g.slot g.empty v.legal (still e other r v.directory o.room v)
      (below_kept m n i e k old.low old.not_root (same directory_kind e ∙ v.directory) s g.tree old.high (not_below s n i e h old.low old.not_root v.directory o.outside))
