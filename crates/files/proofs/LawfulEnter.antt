-- The laws of the effects of create and link: an entry made. n and b are the counts of inodes and blocks.
use Rattle.std.specs.Prelude.{Err, None, Ok, Result, Some}
use Prim.Native.Nat.{ℕ, ◌+◌, ◌*◌, ◌<◌}
use mathlib.Core.Path.{◌≡◌, refl, sym, ap, ◌∙◌}
use mathlib.Core.Logic.{◌≢◌, inl}
use mathlib.Core.Bool.{true, false}
use mathlib.Core.List.{List, [], ◌∷◌}
use Rattle.layout.specs.Inode.{links_of, file_kind, is_file, free_inode}
use Rattle.blocks.proofs.ViewLaws.{inode_fits}
use Rattle.directory.specs.Slot.{most_slots, slot_empty, find_slot}
use Rattle.bounded.proofs.BoolLaws.{clash, fails}
use Rattle.names.specs.Entry.{is_empty}
use Rattle.sound.specs.Place.{entry_at, filled, place_of}
use Rattle.sound.specs.Sound.{Sound}
use Rattle.sound.specs.Counted.{SoundStore}
use Rattle.sound.proofs.PlaceLaws.{filled_is, entry_place}
use Rattle.sound.specs.declared.Form.TheVariants.{Store}
use Rattle.preservation.proofs.StoreLaws.{is_dir, kind_fits, fits}
use Rattle.preservation.proofs.FreeLaws.{free_inode_lem}
use Rattle.preservation.proofs.EntryWriteLaws.{SlotIn, place_below}
use Rattle.preservation.proofs.ChangeLaws.{Filled}
use Rattle.entries.specs.declared.Room.{Room}
use Rattle.entries.specs.declared.Kind.{Kind}
use Rattle.entries.specs.Room.{room_in, make_room}
use Rattle.entries.specs.Plan.{create_plan, link_plan}
use Rattle.entries.specs.Apply.{new_inode, enter, created, linked}
use Rattle.entries.proofs.PlanFacts.{NewIn, links, creates}
use Rattle.entries.proofs.RoomLaws.{Roomed, same_kind, same_find, same_free_inode}
use Rattle.entries.proofs.LinkKeeps.{link_filled}
use Rattle.entries.proofs.CreateKeeps.{create_filled, new_addresses}
use Rattle.entries.proofs.PlanKeeps.{linked_sound, created_sound}
use Rattle.files.specs.Effect.{entry, changes, do_create, do_link, planned, create, link}
use Rattle.files.proofs.Lawful.{Stands, SameNaming, Lawful, Each}
use Rattle.files.proofs.LawfulSteady.{store_blocks, put_slot, Steady, steady_then, put_steady, links_steady, new_steady, roomed, room_steady, room_sound, room_dir, room_slot}
use Rattle.answers.specs.declared.Refusal.{Refusal}
use Rattle.entries.specs.declared.CreatePlan.{CreatePlan}

-- ---- an entry made in the room: link and create. m is the store with room, w the store after
pub made_stands : (m w : List ℕ) (n d t i : ℕ) (name : List ℕ) → SlotIn m n d t → Filled m w n (place_of d t) i name → Stands w n (entry d t i)
made_stands m w n d t i name y o = record { low = y.low; high = y.high; small = y.small; stands = o.stands; names = o.names }

bare_slot : (s : List ℕ) (n d t : ℕ) → SlotIn s n d t → slot_empty s n d t ≡ true → filled s n (place_of d t) ≡ false
unfolding slot_empty
bare_slot s n d t y e =
    fails (filled s n (place_of d t))
    (λ f. clash (is_empty (entry_at s n (place_of d t))) (ap is_empty (entry_place s n d t y.low y.small) ∙ e) ((filled_is s n (place_of d t)).to f).1)

module _ (s : List ℕ) (n b d : ℕ) (name : List ℕ) (r : Room) (h : SoundStore s n b)
    (new : NewIn s n d name) (e : room_in s n b d ≡ Ok r) where
  abbrev m : List ℕ
  m = make_room s n d r

  room : Roomed s m n d r.slot
  room = roomed s n b d r h new.directory e

  there : SlotIn m n d r.slot
  there = room_slot s n b d r h new.directory e

  grown : SoundStore m n b
  grown = room_sound s n b d r h new.directory e

  pub still : find_slot m n d name ≡ None
  still = same_find s m n d r.slot room name new.legal (is_dir s n d new.directory) ∙ new.absent

  pub was_bare : filled s n (place_of d r.slot) ≡ false
  was_bare = sym (room.tree.places (place_of d r.slot) (place_below there)).stands ∙ bare_slot m n d r.slot there room.empty

  -- the places of a store w in which the room is filled
  made_others : (w : List ℕ) (i : ℕ) → Filled m w n (place_of d r.slot) i name → (q : ℕ) → q < most_slots * n → q ≢ place_of d r.slot → SameNaming s w n q
  made_others w i o q l z =
      let p = o.others q l z in
      let g = room.tree.places q l in
      record { stands = p.stands ∙ g.stands; names = p.names ∙ g.names }

  entered_steady : (i : ℕ) → Steady s (enter s n d r i name) n (d ∷ [])
  unfolding enter
  entered_steady i = steady_then (store_blocks h) (room_steady s n b d r h new.directory e) (put_steady m n d r.slot i name (store_blocks grown) there) (λ j z. (z, z))

  -- the entry made, and nothing else of the store that a law speaks of. v is the answer, ks what else may change
  made_lawful : (w : List ℕ) (v i : ℕ) (ks : List ℕ) → Filled m w n (place_of d r.slot) i name → Steady s w n (d ∷ ks) → Sound Store w
      → Lawful s n (changes v w (d ∷ ks) [] (entry d r.slot i ∷ []))
  made_lawful w v i ks o a sound =
      record {
        sound = sound;
        frame = a.frame;
        stood = tt;
        gone = tt;
        stands = (made_stands m w n d r.slot i name there o, tt);
        bare = (λ _. was_bare, tt);
        distinct = tt;
        swaps = tt;
        others = λ q l _ z. made_others w i o q l z.0;
        kinds = λ j l k z. inl (a.kinds j l k z);
        untouched = a.stays;
        contents = λ j l m z _ _. a.files j l m z;
        apart = λ j z. (tt, (z.0, tt));
      }

  link_lawful : (i : ℕ) → is_file s n i ≡ true → Sound Store (linked s n d name i r) → Lawful s n (changes 0 (linked s n d name i r) (d ∷ i ∷ []) [] (entry d r.slot i ∷ []))
  unfolding linked enter
  link_lawful i file sound =
      let here = same_kind s m n file_kind i room.tree.kinds ∙ file in
      let o = link_filled m n d r.slot i name grown (room_dir s n b d r h new.directory e) here room.slot room.empty new.legal still in
      let g = entered_steady i in
      let f = inode_fits s (enter s n d r i name) n i g.frame.long (kind_fits h file_kind i file) in
      let a = steady_then {ks = d ∷ i ∷ []} (store_blocks h) g (links_steady (enter s n d r i name) n i (links_of (enter s n d r i name) i + 1) f) (λ j z. ((z.0, tt), (z.1.0, tt))) in
      made_lawful _ _ i _ o a sound

  create_lawful : (k : Kind) (i : ℕ) → free_inode s n ≡ Some i → Sound Store (created s n d name k i r) → Lawful s n (changes i (created s n d name k i r) (d ∷ []) [] (entry d r.slot i ∷ []))
  unfolding created enter
  create_lawful k i free sound =
      let o = create_filled m n d r.slot i k name grown (room_dir s n b d r h new.directory e) (same_free_inode s m n room.tree.kinds ∙ free) room.slot room.empty new.legal still in
      let g = entered_steady i in
      let z = free_inode_lem s n i free in
      let f = inode_fits s (enter s n d r i name) n i g.frame.long (fits h i z.low z.high) in
      let c = ((put_slot m n d r.slot (store_blocks grown) there i name).inodes i z.low z.high).kind ∙ room.tree.kinds i z.low z.high ∙ z.kind in
      let a = steady_then {ks = d ∷ []} (store_blocks h) g (new_steady (enter s n d r i name) n i (new_inode k d) f c (new_addresses k d)) (λ j u. (u, tt)) in
      made_lawful _ _ i _ o a sound

pub lawful_link : (s : List ℕ) (n b d : ℕ) (name : List ℕ) (i : ℕ) → SoundStore s n b → Each (Lawful s n) (planned (link d name i) s n b)
lawful_link s n b d name i h = go (link_plan s n b d name i) refl
  where
    go : (p : Result Room Refusal) → link_plan s n b d name i ≡ p → Each (Lawful s n) (do_link s n d name i p)
    go (Err w) e = tt
    go (Ok r) e = let c = links s n b d name i r e in link_lawful s n b d name r h c.new c.room i c.file (linked_sound s n b h d name i r e)

pub lawful_create : (s : List ℕ) (n b d : ℕ) (name : List ℕ) (k : Kind) → SoundStore s n b → Each (Lawful s n) (planned (create d name k) s n b)
lawful_create s n b d name k h = go (create_plan s n b d name) refl
  where
    go : (p : Result CreatePlan Refusal) → create_plan s n b d name ≡ p → Each (Lawful s n) (do_create s n d name k p)
    go (Err w) e = tt
    go (Ok x) e = let c = creates s n b d name x.inode x.room e in create_lawful s n b d name x.room h c.new c.room k x.inode c.inode (created_sound s n b h d name k x.inode x.room e)
