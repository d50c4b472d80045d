-- A replacing rename: once the old holder is gone the store is sound, and the lap recorder's rename is accepted there, so neither 12 nor 13 comes. n and b are the counts of inodes and blocks.
use Rattle.std.specs.Prelude.{None, Ok, Some}
use Prim.Native.Nat.{ℕ, ◌<◌}
use mathlib.Core.Path.{◌≡◌, refl, sym, ap, ◌∙◌, subst}
use mathlib.Core.Logic.{◌≢◌}
use mathlib.Core.Bool.{Bool, true, false, ◌&&◌}
use mathlib.Core.List.{List}
use native.Mathlib.Decide.{ℕ_discrete}
use native.Mathlib.Omega.{arith}
use borrow.Author.Tests.{eqb-true, leb-true, leb-false}
use lib.Dec.{eqb, leb}
use Rattle.bounded.specs.Climb.{leads_b}
use Rattle.bounded.specs.Search.{first}
use Rattle.bounded.proofs.BoolLaws.{clash, fails, holds, and_left, and_right}
use Rattle.bounded.proofs.ClimbLaws.{leads_prop}
use Rattle.bounded.proofs.SearchLaws.{lowest_of, lowest_found, absent_of}
use Rattle.layout.specs.Inode.{kind_of, links_of, parent_of, free_kind, directory_kind, is_directory, zero_inode}
use Rattle.layout.proofs.KindLaws.{kind_some, kind_most, kind_is, kind_of_lem}
use Rattle.names.specs.Name.{legal_name}
use Rattle.names.specs.Entry.{same_name, entry_inode}
use Rattle.names.proofs.EntryLaws.{empty_not_named}
use Rattle.directory.specs.Slot.{slots, entry_of, slot_has_name, find_slot, slot_empty, empty_slot, inode_at}
use Rattle.directory.proofs.SlotLaws.{find_below, find_named}
use Rattle.sound.specs.Place.{entry_at, filled, naming, place_of}
use Rattle.sound.specs.Counted.{SoundStore}
use Rattle.sound.proofs.PlaceLaws.{place_dir, entry_place}
use Rattle.preservation.proofs.SameLaws.{OtherInodes}
use Rattle.preservation.proofs.KeepLaws.{body_of, same_slots}
use Rattle.preservation.proofs.StoreLaws.{same_counts}
use Rattle.preservation.proofs.ChangeLaws.{Emptied, NewName, own_new, new_emptied}
use Rattle.preservation.proofs.SoundTreeLaws.{nodes_of, names_at, above_at, tree_at}
use Rattle.preservation.proofs.EntryWriteLaws.{SlotIn, slot_in, place_below}
use Rattle.preservation.proofs.SlotPlaceLaws.{EntryHere, entry_here, found_full, place_filled}
use Rattle.entries.specs.declared.Room.{Room}
use Rattle.entries.specs.Room.{room, room_in}
use Rattle.entries.specs.Plan.{holds_none, is_below, rename_new_plan}
use Rattle.entries.specs.Apply.{unlinked}
use Rattle.entries.proofs.ParentLaws.{zero_parent}
use Rattle.entries.proofs.PlanFacts.{Onto, unlinks}
use Rattle.entries.proofs.TakePlanLaws.{within_new, move_room, rename_here, rename_away}
use Rattle.entries.proofs.UnlinkKeeps.{unfilled, unlink_emptied, unlink_others, unlink_less, unlink_last, unlink_frame, unlink_sound}
use Rattle.entries.proofs.MoveKeeps.{not_below, leads_other}
use Rattle.entries.specs.declared.RenamePlan.TheVariants.{Move, Rename}

-- ---- searches of a sound store
module _ (s : List ℕ) (n b d : ℕ) (h : SoundStore s n b) (dir : is_directory s n d ≡ true) (name : List ℕ) (legal : legal_name name ≡ true) (t : ℕ) (inside : t < slots s d)
    (new : NewName s n (place_of d t) name) where
  -- no slot but t has a name that is new there
  else_unnamed : (u : ℕ) → u < slots s d → u ≢ t → slot_has_name s n d name u ≡ false
  unfolding slot_has_name slot_empty
  else_unnamed u l z = go (slot_empty s n d u) refl
    where
      go : (c : Bool) → slot_empty s n d u ≡ c → same_name (entry_of s n d u) name ≡ false
      go true q = empty_not_named (entry_of s n d u) name q legal
      go false q =
          let a = slot_in h d t dir inside in
          let k = slot_in h d u dir l in
          let x = k.low in
          let y = k.small in
          let w = a.small in
          ap (λ (e : List ℕ). same_name e name) (sym (entry_place s n d u x y))
          ∙ new (place_of d u) (place_below k) (λ e. z (omega arith)) (place_dir d u x y ∙ sym (place_dir d t x w)) (place_filled s n d u k q)

  -- a search finds it there, or nowhere
  pub found_there : same_name (entry_of s n d t) name ≡ true → find_slot s n d name ≡ Some t
  unfolding find_slot first slot_has_name
  found_there own =
      lowest_found (slot_has_name s n d name) 0 (slots s d) t
      (record { from = omega arith; below = omega arith; holds = own; before = λ u _ m. else_unnamed u (omega arith) (λ e. omega arith) })

  pub found_nowhere : slot_empty s n d t ≡ true → find_slot s n d name ≡ None
  unfolding find_slot first slot_has_name slot_empty
  found_nowhere bare = absent_of (slot_has_name s n d name) 0 (slots s d) (λ u _ m. at u (omega arith) (ℕ_discrete u t))
    where
      at : (u : ℕ) → u < slots s d → Dec (u ≡ t) → slot_has_name s n d name u ≡ false
      at u l (yes e) = subst (λ (x : ℕ). slot_has_name s n d name x ≡ false) (sym e) (empty_not_named (entry_of s n d t) name bare legal)
      at u l (no e) = else_unnamed u l e

-- a directory with an empty slot has room
room_had : (s : List ℕ) (n b d t : ℕ) → t < slots s d → slot_empty s n d t ≡ true → (r : Room) × (room_in s n b d ≡ Ok r)
unfolding room_in empty_slot first
room_had s n b d t l e =
    let f = lowest_of (slot_empty s n d) 0 (slots s d) t (omega arith) (omega arith) e in
    (room f.0 None, rw (lowest_found (slot_empty s n d) 0 (slots s d) f.0 f.1) refl)

-- the rename that is left to do: within the directory, or to another
pub data Onward (s : List ℕ) (n b d : ℕ) (name : List ℕ) (e : ℕ) (other : List ℕ) (t i : ℕ) : Type 0 where
  within : d ≡ e → rename_new_plan s n b d name e other ≡ Ok (Rename t i) → Onward s n b d name e other t i
  to : (d ≡ e → ⊥) → (r : Room) → rename_new_plan s n b d name e other ≡ Ok (Move t i r) → Onward s n b d name e other t i

module _ (s : List ℕ) (n b d : ℕ) (name : List ℕ) (e : ℕ) (other : List ℕ) (i h : ℕ) (k : SoundStore s n b) (p : Onto s n d name e other i h) (differ : i ≢ h) where
  -- the old holder's entry, which goes
  abbrev u : ℕ
  u = p.held

  legal_other : legal_name other ≡ true
  legal_other = (unlinks s n e other u h p.goes).entry.legal

  into : is_directory s n e ≡ true
  into = (unlinks s n e other u h p.goes).entry.directory

  found : find_slot s n e other ≡ Some u
  found = (unlinks s n e other u h p.goes).entry.found

  inside : u < slots s e
  inside = find_below s n e other u found

  full : slot_empty s n e u ≡ false
  full = found_full s n e other u legal_other found

  holder : EntryHere s n e u h
  holder = entry_here k e u h into inside full (unlinks s n e other u h p.goes).entry.inode

  -- the entry that is renamed
  abbrev t : ℕ
  t = p.slot

  from : is_directory s n d ≡ true
  from = p.entry.directory

  inside_from : t < slots s d
  inside_from = find_below s n d name t p.entry.found

  full_from : slot_empty s n d t ≡ false
  full_from = found_full s n d name t p.entry.legal p.entry.found

  mover : EntryHere s n d t i
  mover = entry_here k d t i from inside_from full_from p.entry.inode

  apart : place_of d t ≢ place_of e u
  apart z = differ (sym mover.names ∙ ap (naming s n) z ∙ holder.names)

  -- without the old holder
  abbrev gone : List ℕ
  gone = unlinked s n e u h

  holds_none_lem : kind_of s h ≡ directory_kind → holds_none s n h ≡ true
  holds_none_lem = (unlinks s n e other u h p.goes).empty

  emptied : Emptied s gone n (place_of e u)
  emptied = unlink_emptied s n e u h k into inside full (unlinks s n e other u h p.goes).entry.inode holds_none_lem

  others : OtherInodes s gone n h
  others = unlink_others s n e u h k into inside full (unlinks s n e other u h p.goes).entry.inode holds_none_lem

  pub gone_sound : SoundStore gone n b
  gone_sound =
      same_counts k (unlink_frame s n e u h k into inside full (unlinks s n e other u h p.goes).entry.inode holds_none_lem)
      (unlink_sound s n e u h k into inside full (unlinks s n e other u h p.goes).entry.inode holds_none_lem)

  -- a directory with an entry is not the holder, which is empty if it is one
  not_holder : (x v : ℕ) → SlotIn s n x v → slot_empty s n x v ≡ false → x ≢ h
  not_holder x v l f z =
      clash (filled s n (place_of x v)) (place_filled s n x v l f)
      (unfilled s n h (holds_none_lem (ap (kind_of s) (sym z) ∙ l.dir)) (place_of x v) (place_dir x v l.low l.small ∙ z))

  d_not : d ≢ h
  d_not = not_holder d t mover.slot full_from

  e_not : e ≢ h
  e_not = not_holder e u holder.slot full

  still_dir : (x : ℕ) → x ≢ h → is_directory s n x ≡ true → is_directory gone n x ≡ true
  still_dir x z f =
      let l = kind_some s n directory_kind x f in
      let m = kind_most s n directory_kind x f in
      kind_of_lem gone n directory_kind x l m ((others x l m z).kind ∙ kind_is s n directory_kind x f)

  from_gone : is_directory gone n d ≡ true
  from_gone = still_dir d d_not from

  into_gone : is_directory gone n e ≡ true
  into_gone = still_dir e e_not into

  inside_gone : u < slots gone e
  inside_gone = let l = holder.slot.low in let m = holder.slot.high in subst (λ (z : ℕ). u < z) (sym (same_slots (others e l m e_not))) inside

  inside_from_gone : t < slots gone d
  inside_from_gone = let l = mover.slot.low in let m = mover.slot.high in subst (λ (z : ℕ). t < z) (sym (same_slots (others d l m d_not))) inside_from

  -- the slot is empty, and no other entry has the name
  bare : slot_empty gone n e u ≡ true
  bare = holds (slot_empty gone n e u) (λ z. clash (filled gone n (place_of e u)) (place_filled gone n e u (slot_in gone_sound e u into_gone inside_gone) z) emptied.stands)

  named_here : (x v : ℕ) (a : List ℕ) → SlotIn s n x v → same_name (entry_of s n x v) a ≡ true → same_name (entry_at s n (place_of x v)) a ≡ true
  named_here x v a l f = ap (λ (y : List ℕ). same_name y a) (entry_place s n x v l.low l.small) ∙ f

  new_name : NewName gone n (place_of e u) other
  new_name =
      new_emptied s gone n (place_of e u) (place_of e u) other emptied
      (own_new s n (place_of e u) other (names_at k) (place_below holder.slot) (place_filled s n e u holder.slot full) (named_here e u other holder.slot (find_named s n e other u found)))

  absent : find_slot gone n e other ≡ None
  absent = found_nowhere gone n b e gone_sound into_gone other legal_other u inside_gone new_name bare

  -- the renamed entry stands as it stood
  same_entry : entry_of gone n d t ≡ entry_of s n d t
  same_entry =
      let l = mover.slot in
      sym (entry_place gone n d t l.low l.small)
      ∙ (emptied.others (place_of d t) (place_below l) apart).entry (place_filled s n d t l full_from)
      ∙ entry_place s n d t l.low l.small

  own_name : NewName gone n (place_of d t) name
  own_name =
      new_emptied s gone n (place_of e u) (place_of d t) name emptied
      (own_new s n (place_of d t) name (names_at k) (place_below mover.slot) (place_filled s n d t mover.slot full_from) (named_here d t name mover.slot (find_named s n d name t p.entry.found)))

  there : find_slot gone n d name ≡ Some t
  there = found_there gone n b d gone_sound from_gone name p.entry.legal t inside_from_gone own_name (ap (λ (y : List ℕ). same_name y name) same_entry ∙ find_named s n d name t p.entry.found)

  inode_there : i ≡ inode_at gone n d t
  inode_there = p.entry.inode ∙ ap entry_inode (sym same_entry)

  pub mover_used : kind_of gone i ≢ free_kind
  mover_used z = mover.used (sym (others i mover.low mover.high differ).kind ∙ z)

  -- the holder is no directory then: one had a single link, and is freed
  no_directory : kind_of gone h ≢ directory_kind
  unfolding zero_inode
  no_directory z = go (leb (links_of s h) 1) refl
    where
      go : (c : Bool) → leb (links_of s h) 1 ≡ c → ⊥
      go true q =
          let f = (unlink_last s n e u h k into inside full (unlinks s n e other u h p.goes).entry.inode holds_none_lem (leb-true (links_of s h) 1 q)).kind in
          absurd (omega arith)
      go false q =
          let f = (unlink_less s n e u h k into inside full (unlinks s n e other u h p.goes).entry.inode holds_none_lem (leb-false (links_of s h) 1 q)).0.kind in
          let one = ((body_of k).links h holder.low holder.high).one (sym f ∙ z) holder.not_root in
          let more = leb-false (links_of s h) 1 q in
          absurd (omega arith)

  -- so the way up from e does not come to i there, either
  outside : d ≢ e → is_below gone n i e ≡ false
  unfolding is_below
  outside away =
      fails (eqb (kind_of gone i) directory_kind && leads_b (parent_of gone) i n e)
      (λ z.
      let a = eqb-true (kind_of gone i) directory_kind (and_left (eqb (kind_of gone i) directory_kind) (leads_b (parent_of gone) i n e) z) in
      let c = leads_prop (parent_of gone) i n e (and_right (eqb (kind_of gone i) directory_kind) (leads_b (parent_of gone) i n e) z) in
      let l = kind_some gone n directory_kind e into_gone in
      let m = kind_most gone n directory_kind e into_gone in
      not_below s n i e k mover.low mover.not_root into (p.outside away)
      (sym (others i mover.low mover.high differ).kind ∙ a)
      (leads_other n (nodes_of gone n) (tree_at gone_sound) (above_at gone_sound) (zero_parent gone gone_sound.sound.root_parent) i e mover.low mover.not_root
      (parent_of s) (λ y f. sym (others y f.low f.high (λ q. no_directory (ap (kind_of gone) (sym q) ∙ f.kind))).parent)
      (record { low = l; high = m; kind = kind_is gone n directory_kind e into_gone }) c))

  pub onward : Onward gone n b d name e other t i
  onward = go (ℕ_discrete d e)
    where
      go : Dec (d ≡ e) → Onward gone n b d name e other t i
      go (yes q) = within q (sym (rename_here gone n b d e name other p.entry.legal legal_other from_gone into_gone t i (Ok (Rename t i)) there inode_there q (within_new gone n t i e other absent)))
      go (no q) =
          let r = room_had gone n b e u inside_gone bare in
          to q r.0 (sym (rename_away gone n b d e name other p.entry.legal legal_other from_gone into_gone t i (Ok (Move t i r.0)) there inode_there q (move_room gone n b t i e other absent (outside q) r.0 r.1)))
