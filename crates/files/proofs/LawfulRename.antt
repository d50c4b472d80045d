-- The laws of the renames' effects: within a directory, a move, and one that replaces. n and b are the counts of inodes and blocks.
use Rattle.std.specs.Prelude.{Err, Ok, Result}
use Prim.Native.Nat.{ℕ, ◌<◌}
use mathlib.Core.Path.{◌≡◌, refl, sym, ap, ◌∙◌, subst}
use mathlib.Core.Logic.{inl}
use mathlib.Core.Bool.{Bool, true, false}
use mathlib.Core.List.{List, [], ◌∷◌}
use lib.Dec.{eqb}
use Rattle.bounded.specs.Search.{pick}
use Rattle.layout.specs.Inode.{kind_of, spare_of, inode_of, put_attributes, directory_kind, is_kind, is_directory, with_parent}
use Rattle.blocks.specs.Block.{kth_block}
use Rattle.blocks.proofs.ViewLaws.{inode_fits}
use Rattle.layout.specs.Fits.{InodeFits}
use Rattle.directory.specs.Slot.{slots, slot_empty, put_entry, clear_entry, inode_at}
use Rattle.directory.proofs.SlotLaws.{find_below}
use Rattle.bounded.proofs.CaseLaws.{each_else}
use Rattle.bounded.proofs.EachLaws.{all_map}
use Rattle.bounded.proofs.SearchLaws.{by_pick}
use Rattle.names.specs.Name.{legal_name}
use Rattle.names.specs.Entry.{is_empty, entry_inode}
use Rattle.sound.specs.Place.{place_of, dir_of}
use Rattle.sound.specs.Counted.{SoundStore}
use Rattle.sound.proofs.PlaceLaws.{place_dir}
use Rattle.preservation.proofs.SameLaws.{SameInode, frame_stays, inode_stays, same_body}
use Rattle.preservation.proofs.StoreLaws.{is_dir, fits}
use Rattle.preservation.proofs.EntryWriteLaws.{SlotIn, slot_in, place_below}
use Rattle.preservation.proofs.InodeWriteLaws.{parent_relinked, body_all}
use Rattle.preservation.proofs.SlotPlaceLaws.{entry_here, found_full, place_filled}
use Rattle.preservation.proofs.KeepLaws.{same_slots, body_of}
use Rattle.entries.specs.declared.Room.{Room}
use Rattle.entries.specs.Room.{make_room}
use Rattle.entries.specs.Plan.{rename_new_plan, over_plan}
use Rattle.entries.specs.Apply.{unlinked, renamed, set_parent, moved}
use Rattle.entries.proofs.PlanFacts.{FreeFor, renames, moves}
use Rattle.entries.proofs.RoomLaws.{same_kind}
use Rattle.entries.proofs.PlanKeeps.{moved_sound}
use Rattle.entries.proofs.MoveKeeps.{not_below, below_kept, move_emptied, move_filled}
use Rattle.entries.proofs.RenameKeeps.{rename_filled, rename_sound}
use Rattle.answers.specs.declared.Refusal.TheVariants.{NameTaken}
use Rattle.answers.specs.Refusal.{refusal_number}
use Rattle.files.specs.Effect.{entry, changes, Planned, refused, does, if_taken, watched, do_rename, do_rename_new, do_over, planned, rename, rename_new}
use Rattle.files.proofs.Lawful.{SameNaming, Lawful, Each}
use Rattle.files.proofs.LawfulSteady.{store_blocks, blocks_same, put_slot, clear_slot, Steady, steady_then, put_steady, clear_steady, roomed, room_steady, room_sound, room_slot}
use Rattle.files.proofs.LawfulEnter.{still, was_bare}
use Rattle.files.proofs.LawfulStays.{same_store}
use Rattle.files.proofs.LawfulUnlink.{lawful_unlink}
use Rattle.files.proofs.LawfulThen.{lawful_then}
use Rattle.files.proofs.OverLaws.{replaced, over_does}
use Rattle.entries.specs.declared.RenamePlan.TheVariants.{Move, Rename}
use Rattle.entries.specs.declared.OverPlan.TheVariants.{Over, Same}
use Rattle.answers.specs.declared.Refusal.{Refusal}
use Rattle.entries.specs.declared.RenamePlan.{RenamePlan}
use Rattle.entries.specs.declared.OverPlan.{OverPlan}

-- ---- rename within a directory
module _ (s : List ℕ) (n d t i : ℕ) (other : List ℕ) {b : ℕ} (h : SoundStore s n b)
    (dir : is_directory s n d ≡ true) (inside : t < slots s d) (full : slot_empty s n d t ≡ false) (is : i ≡ inode_at s n d t)
    (legal : legal_name other ≡ true) (free : FreeFor s n d other t) where
  rename_lawful : Lawful s n (changes 0 (renamed s n d other t i) (d ∷ []) [] [])
  rename_lawful =
      let o = rename_filled s n d t i other h dir inside full is legal free in
      let y = entry_here h d t i dir inside full is in
      let a = put_steady s n d t i other (store_blocks h) y.slot in
      let f = place_filled s n d t y.slot full in
      record {
        sound = rename_sound s n d t i other h dir inside full is legal free;
        frame = a.frame;
        stood = tt;
        gone = tt;
        stands = tt;
        bare = tt;
        distinct = tt;
        swaps = tt;
        others = λ q l _ _.
            each_else (SameNaming s (put_entry s n d t i other) n) (place_of d t) q (record { stands = o.stands ∙ sym f; names = o.names ∙ sym y.names })
            (λ z. let p = o.others q l z in record { stands = p.stands; names = p.names });
        kinds = λ j l m z. inl (a.kinds j l m z);
        untouched = a.stays;
        contents = λ j l m z _ _. a.files j l m z;
        apart = λ j _. (tt, tt);
      }

-- ---- a move
parent_steady : (s : List ℕ) (n i e : ℕ) → InodeFits s n i → spare_of s i ≡ 0 → Steady s (set_parent s n i e) n (i ∷ [])
unfolding set_parent
parent_steady s n i e f z = go (eqb (kind_of s i) directory_kind)
  where
    go : (b : Bool) → Steady s (pick b (put_attributes s i (with_parent (inode_of s n i) e)) s) n (i ∷ [])
    go true =
        let r = parent_relinked s n i f e z in
        record {
          frame = r.inode.frame;
          kinds = λ j l m _. each_else (λ a. kind_of (put_attributes s i (with_parent (inode_of s n i) e)) a ≡ kind_of s a) i j r.body.kind (λ y. (r.inode.others j l m y).kind);
          stays = λ j l m _ y. record { inode = r.inode.others j l m y.0; bytes = λ k _. r.inode.bytes (kth_block s n j k) };
          files = λ j l m _. record { body = body_all r j l m; bytes = λ k _. r.inode.bytes (kth_block s n j k) };
        }
    go false = record {
      frame = frame_stays s;
      kinds = λ j l m _. refl;
      stays = λ j l m _ _. record { inode = inode_stays s n j; bytes = λ k _. refl };
      files = λ j l m _. record { body = same_body (inode_stays s n j); bytes = λ k _. refl };
    }

slot_same : (s t : List ℕ) (n d u : ℕ) → SameInode s t n d → SlotIn s n d u → SlotIn t n d u
slot_same s t n d u a y = record { low = y.low; high = y.high; dir = a.kind ∙ y.dir; inside = subst (λ (z : ℕ). u < z) (sym (same_slots a)) y.inside; small = y.small }

module _ (s : List ℕ) (n b d : ℕ) (name : List ℕ) (e : ℕ) (other : List ℕ) (t i : ℕ) (r : Room) (h : SoundStore s n b)
    (q : rename_new_plan s n b d name e other ≡ Ok (Move t i r)) where
  move_lawful : Lawful s n (changes 0 (moved s n d e other t i r) (d ∷ e ∷ i ∷ []) (entry d t i ∷ []) (entry e r.slot i ∷ []))
  unfolding moved slot_empty
  move_lawful =
      let c = moves s n b d name e other t i r q in
      let w = c.0.entry in
      let v = c.0.new in
      let o = c.1 in
      let g = make_room s n e r in
      let room = roomed s n b e r h v.directory o.room in
      let there = room_slot s n b e r h v.directory o.room in
      let grown = room_sound s n b e r h v.directory o.room in
      let same : (k j : ℕ) → is_kind g n k j ≡ is_kind s n k j = λ k j. same_kind s g n k j room.tree.kinds in
      let inside = find_below s n d name t w.found in
      let full = found_full s n d name t w.legal w.found in
      let old = entry_here h d t i w.directory inside full w.inode in
      let bytes = room.entries d t (is_dir s n d w.directory) inside in
      let from = same directory_kind d ∙ w.directory in
      let inside-g = subst (λ (z : ℕ). t < z) (sym (same_slots (room.others d old.slot.low old.slot.high o.other))) inside in
      let below = below_kept g n i e grown old.low old.not_root (same directory_kind e ∙ v.directory) s room.tree old.high (not_below s n i e h old.low old.not_root v.directory o.outside) in
      let free = still s n b e other r h v o.room in
      let emptied = move_emptied g n d t i e r.slot other grown from inside-g (ap is_empty bytes ∙ full) (w.inode ∙ ap entry_inode (sym bytes))
      (same directory_kind e ∙ v.directory) room.slot room.empty v.legal free below in
      let filling = move_filled g n d t i e r.slot other grown from inside-g (ap is_empty bytes ∙ full) (w.inode ∙ ap entry_inode (sym bytes))
      (same directory_kind e ∙ v.directory) room.slot room.empty v.legal free below in
      let here = slot_in grown d t from inside-g in
      let bg = store_blocks grown in
      let cleared = clear_slot g n d t bg here in
      let cut = clear_entry g n d t in
      let into = slot_same g cut n e r.slot (cleared.inodes e there.low there.high) there in
      let bc = blocks_same g cut n cleared.inodes bg in
      let entered = put_entry cut n e r.slot i other in
      let put = put_slot cut n e r.slot bc into i other in
      let a : Steady s entered n (d ∷ e ∷ []) =
      steady_then (store_blocks h) (room_steady s n b e r h v.directory o.room)
      (steady_then {ks = d ∷ e ∷ []} bg (clear_steady g n d t bg here) (put_steady cut n e r.slot i other bc into) (λ j z. ((z.0, tt), (z.1.0, tt))))
      (λ j z. ((z.1.0, tt), z)) in
      let f = inode_fits s entered n i a.frame.long (fits h i old.low old.high) in
      let spare : spare_of entered i ≡ 0 = (put.inodes i old.low old.high).spare ∙ (cleared.inodes i old.low old.high).spare ∙ ((body_of grown).inodes i old.low old.high).spare in
      let p : Steady s (set_parent entered n i e) n (d ∷ e ∷ i ∷ []) = steady_then (store_blocks h) a (parent_steady entered n i e f spare) (λ j z. ((z.0, (z.1.0, tt)), (z.1.1.0, tt))) in
      record {
        sound = moved_sound s n b h d name e other t i r q;
        frame = p.frame;
        stood = (record { low = old.slot.low; high = old.slot.high; small = old.slot.small; stands = place_filled s n d t old.slot full; names = old.names }, tt);
        gone = (λ z. (filling.others (place_of d t) (place_below old.slot) z.0).stands ∙ emptied.stands, tt);
        stands = (record { low = there.low; high = there.high; small = there.small; stands = filling.stands; names = filling.names }, tt);
        bare = (λ _. was_bare s n b e other r h v o.room, tt);
        distinct = (tt, tt);
        swaps = ((λ z. absurd (o.other (sym (place_dir d t old.slot.low old.slot.small) ∙ ap dir_of z ∙ place_dir e r.slot there.low there.small)), tt), tt);
        others = λ k l z u.
            let j = filling.others k l u.0 in
            let j' = emptied.others k l z.0 in
            let j'' = room.tree.places k l in
            record { stands = j.stands ∙ j'.stands ∙ j''.stands; names = j.names ∙ j'.names ∙ j''.names };
        kinds = λ j l k z. inl (p.kinds j l k z);
        untouched = p.stays;
        contents = λ j l m z _ _. p.files j l m z;
        apart = λ j z. (((z.0, z.1.1.0), tt), (z.1.0, tt));
      }

-- ---- the lap recorder's
pub lawful_rename_new : (s : List ℕ) (n b d : ℕ) (name : List ℕ) (e : ℕ) (other : List ℕ) → SoundStore s n b → Each (Lawful s n) (planned (rename_new d name e other) s n b)
lawful_rename_new s n b d name e other h = go (rename_new_plan s n b d name e other) refl
  where
    go : (p : Result RenamePlan Refusal) → rename_new_plan s n b d name e other ≡ p → Each (Lawful s n) (do_rename s n d e other p)
    go (Err w) q = tt
    go (Ok (Rename t i)) q =
        let c = renames s n b d name e other t i q in
        let w = c.0.entry in
        rename_lawful s n d t i other h w.directory (find_below s n d name t w.found) (found_full s n d name t w.legal w.found) w.inode
        c.0.legal c.0.free
    go (Ok (Move t i r)) q = move_lawful s n b d name e other t i r h q

-- ---- onto a name that another entry has: an unlink, and then that rename
module _ (s : List ℕ) (n b d : ℕ) (name : List ℕ) (e : ℕ) (other : List ℕ) (k : SoundStore s n b) where
  lawful_over : (p : Result OverPlan Refusal) → over_plan s n d name e other ≡ p → Each (Lawful s n) (do_over s n b d name e other (over_plan s n d name e other))
  lawful_over (Err f) q = subst (λ (p : Result OverPlan Refusal). Each (Lawful s n) (do_over s n b d name e other p)) (sym q) tt
  lawful_over (Ok (Same i)) q = subst (λ (p : Result OverPlan Refusal). Each (Lawful s n) (do_over s n b d name e other p)) (sym q) (same_store s n 0 [] (watched d e i) k.sound)
  lawful_over (Ok (Over i h)) q =
      let r = replaced s n b d name e other i h k q in
      let y = r.renames in
      subst (Each (Lawful s n)) (sym (over_does s n b d name e other i h k q))
      (lawful_then k.sound k.inodes 0 (unlinked s n e r.slot h) (e ∷ h ∷ []) (entry e r.slot h ∷ []) y.effect
      (subst (Each (Lawful s n)) r.unlinks (lawful_unlink s n b e other k))
      (subst (Each (Lawful (unlinked s n e r.slot h) n)) y.done (lawful_rename_new (unlinked s n e r.slot h) n b d name e other r.sound))
      (all_map _ _ y.effect.made (λ z m. ((λ x. r.differ (sym m ∙ x)), tt)) y.mover)
      (all_map _ _ y.effect.made (λ z m x. r.used (ap (kind_of (unlinked s n e r.slot h)) (sym m) ∙ x)) y.mover))

  pub lawful_rename : Each (Lawful s n) (planned (rename d name e other) s n b)
  lawful_rename = go (do_rename_new s n b d name e other) (lawful_rename_new s n b d name e other k)
    where
      go : (p : Planned) → Each (Lawful s n) p → Each (Lawful s n) (if_taken p (do_over s n b d name e other (over_plan s n d name e other)))
      go (does x) l = l
      go (refused f) l = by_pick (Each (Lawful s n)) (eqb (refusal_number f) (refusal_number NameTaken)) (lawful_over (over_plan s n d name e other) refl) tt
