-- What the theory of a running copy sees of a file call. s is the store, m the image, d the desk, n and b the counts of inodes and image blocks, x the call's effect.
use Prim.Native.Nat.{ℕ, ◌+◌, ◌*◌, ◌/◌, ◌%◌, ◌≤◌, ◌<◌}
use mathlib.Core.Path.{◌≡◌, sym, ap, ◌∙◌, subst}
use mathlib.Core.Logic.{◌≢◌, ◌⊎◌, inl, inr, ⊎_elim}
use mathlib.Core.Bool.{Bool, true, false}
use mathlib.Core.List.{List}
use native.Mathlib.Omega.{arith}
use borrow.Author.Tests.{le-ltb}
use lib.ListN.{get_or}
use Rattle.bounded.specs.Search.{pick}
use Rattle.bounded.specs.Table.{table}
use Rattle.bounded.proofs.TableLaws.{table_ext}
use Rattle.bounded.proofs.EachLaws.{All, Some, all_map, all_both, some_map, some_get}
use Rattle.bounded.proofs.CaseLaws.{in_range, is_below}
use Rattle.bounded.proofs.RangeLaws.{within_in, within_out, within_ext, below_in, below_out}
use Rattle.layout.specs.Sizes.{block_bytes}
use Rattle.layout.specs.Inode.{kind_of, size_of, parent_of, free_kind, file_kind}
use Rattle.blocks.specs.Block.{block_of, bytes_place, kth_block}
use Rattle.ledger.proofs.BytesLaws.{place_used, used_limits}
use Rattle.directory.specs.Slot.{most_slots}
use Rattle.desk.specs.declared.Desk.{Desk}
use Rattle.desk.specs.Desk.{desk_of, mark_of, is_copied}
use Rattle.sound.specs.Place.{dir_of, slot_of, filled, naming, place_of}
use Rattle.sound.specs.Sound.{Sound, inodes_in}
use Rattle.sound.proofs.SoundLaws.{size_most}
use Rattle.sound.specs.declared.Form.TheVariants.{Store}
use Rattle.preservation.proofs.BaredLaws.{naming_none}
use Rattle.growth.specs.Extend.{file_byte}
use Rattle.content.specs.Content.{file_bytes}
use Rattle.files.specs.Effect.{Entry, place_in, Effect}
use Rattle.files.proofs.Lawful.{Away, Stands, Lawful}
use Rattle.files.proofs.EffectFacts.{away_or}
use Rattle.copy_theory.specs.View.{View}
use Rattle.copy_theory.specs.Deed.{Alike, Cut, cut, kept, Turn, stays, goes, comes, swaps, Called}
use Rattle.checkpoint.specs.Busy.{any_locked}
use Rattle.checkpoint.specs.Notes.{cut_entries, clear_marks, set_marks}
use Rattle.checkpoint.proofs.Copy.Seen.{shelf_of, marked_at, seen}
use Rattle.checkpoint.proofs.Copy.Laid.{Laid}
use Rattle.checkpoint.proofs.Copy.NamingLaws.{used_sound}
use Rattle.checkpoint.proofs.DecisionLaws.{apart_locked}
use Rattle.checkpoint.proofs.Call.CallNotes.{same_copied, call_notes, mark_away, mark_made}
use Rattle.checkpoint.proofs.Call.CutEntries.{CutAt, gone, left, Cuts, cut_by}
use Rattle.checkpoint.proofs.Call.CallLaid.{runs, desk_long, taken_whole, taken_ranged, made_ranged}
use Rattle.checkpoint.proofs.Copy.SeenLaws.{marked_in, names_in}

-- ---- functions of the view
marked_out : (n : ℕ) (d : List ℕ) (q : ℕ) → most_slots * n ≤ q → marked_at n d q ≡ false
unfolding marked_at
marked_out n d q l = ap (λ (z : Bool). pick z (mark_of d n (dir_of q) (slot_of q)) false) (le-ltb q (most_slots * n) l)

-- the bytes of a file whose blocks stay
file_same : (m v : List ℕ) (n i : ℕ) → size_of v i ≡ size_of m i → ((o : ℕ) → o < size_of m i → file_byte v n i o ≡ file_byte m n i o) → file_bytes v n i 0 (size_of v i) ≡ file_bytes m n i 0 (size_of m i)
unfolding file_bytes
file_same m v n i e f = ap (table (λ j. file_byte v n i (0 + j))) e ∙ table_ext (λ j. file_byte v n i (0 + j)) (λ j. file_byte m n i (0 + j)) (size_of m i) (λ j l. f (0 + j) (omega arith))

module _ {n b : ℕ} {s m d : List ℕ} (k : Sound Store s) (e : n ≡ inodes_in s) (h : Laid n b s m d) (x : Effect) (f : Lawful s n x) (a : any_locked d x.touches ≡ false) where
  abbrev image : List ℕ
  image = cut_entries m d n x.taken

  abbrev noted : List ℕ
  noted = set_marks (clear_marks d n x.taken) n x.made

  abbrev old : View
  old = seen n s m d

  abbrev new : View
  new = seen n x.store image noted

  cuts : Cuts n m image d x.taken
  cuts = cut_by k e h (runs k e h x f) x.taken f.distinct (taken_whole k e h x f)

  -- an entry that is taken
  record Taken (y : Entry) : Type 0 where
    stood : Stands s n y
    some : 1 ≤ y.inode
    free : (desk_of d).locked ≢ y.inode
    gone : Away (place_in y) x.made → filled x.store n (place_in y) ≡ false
    others : All (λ z. place_in y ≡ place_in z → z.inode ≢ y.inode) x.made
    cut : CutAt n m image d y

  all_taken : All Taken x.taken
  all_taken =
      let ys = x.taken in
      let p = (f.apart (desk_of d).locked (apart_locked d x.touches (runs k e h x f) a)).0 in
      all_map _ _ ys (λ y r. record { stood = r.0; some = r.1.0.some; free = r.1.1.0.1; gone = r.1.1.1.0; others = r.1.1.1.1.0; cut = r.1.1.1.1.1 })
      (all_both _ _ ys f.stood (all_both _ _ ys (taken_whole k e h x f) (all_both _ _ ys p (all_both _ _ ys f.gone (all_both _ _ ys f.swaps cuts.at)))))

  -- ---- a place
  module _ (q : ℕ) (l : q < most_slots * n) where
    same_place : place_of (dir_of q) (slot_of q) ≡ q
    same_place = omega arith

    mark_stays : Away q x.taken → Away q x.made → marked_at n noted q ≡ marked_at n d q
    mark_stays p r =
        marked_in n noted q l
        ∙ mark_away d n x.taken x.made (desk_long k e h x f) (taken_ranged k e h x f) (made_ranged k e h x f) (dir_of q) (slot_of q) (omega arith) (omega arith) (omega arith)
        (subst (λ (z : ℕ). Away z x.taken) (sym same_place) p) (subst (λ (z : ℕ). Away z x.made) (sym same_place) r)
        ∙ sym (marked_in n d q l)

    mark_comes : Some (λ y. q ≡ place_in y) x.made → marked_at n noted q ≡ true
    mark_comes p =
        marked_in n noted q l
        ∙ mark_made d n x.taken x.made (desk_long k e h x f) (taken_ranged k e h x f) (made_ranged k e h x f) (dir_of q) (slot_of q) (omega arith) (omega arith) (omega arith) (runs k e h x f)
        (some_map _ _ x.made (λ y r. same_place ∙ r) p)

    image_stays : Away q x.taken → new.image.names q ≡ old.image.names q
    unfolding seen shelf_of
    image_stays p = below_in (most_slots * n) (naming image n) q l ∙ cuts.away q l p ∙ sym (below_in (most_slots * n) (naming m n) q l)

    -- its entry is taken: the image is cut by the rule
    taken_cut : (y : Entry) → Stands s n y → CutAt n m image d y → q ≡ place_in y → Cut old new q
    unfolding seen
    taken_cut y r (gone p u) z = cut (names_in n image q l ∙ ap (naming image n) z ∙ p) (ap (is_copied d n) (names_in n m q l ∙ ap (naming m n) z) ∙ u)
    taken_cut y r (left p u) z =
        let w : (shelf_of n s).names q ≡ y.inode = names_in n s q l ∙ ap (naming s n) z ∙ r.names in
        let v : (shelf_of n m).names q ≡ naming m n (place_in y) = names_in n m q l ∙ ap (naming m n) z in
        kept (names_in n image q l ∙ ap (naming image n) z ∙ p ∙ sym v) (λ i c. u (sym v ∙ i ∙ w) (ap (is_copied d n) (sym w) ∙ c))

    -- it goes, or another comes in its place
    taken_turn : (y : Entry) → Taken y → q ≡ place_in y → Turn old new q
    unfolding seen
    taken_turn y r z =
        let w : (shelf_of n s).names q ≡ y.inode = names_in n s q l ∙ ap (naming s n) z ∙ r.stood.names in
        let o = r.some in
        let c = taken_cut y r.stood r.cut z in
        ⊎_elim
        (λ p. goes (λ v. omega arith) (λ v. r.free (sym v ∙ w)) (names_in n x.store q l ∙ naming_none x.store n q (ap (filled x.store n) z ∙ r.gone (subst (λ (v : ℕ). Away v x.made) z p))) c)
        (λ p.
        let g = some_get _ x.made p in
        let u : (shelf_of n x.store).names q ≡ g.0.inode = names_in n x.store q l ∙ ap (naming x.store n) g.1.1 ∙ g.1.0.0.names in
        swaps (λ v. omega arith) (λ v. r.free (sym v ∙ w)) (λ v. g.1.0.1 (sym z ∙ g.1.1) (sym u ∙ v ∙ w)) (mark_comes (some_map _ _ x.made (λ y i. i.1) p)) c)
        (away_or _ q x.made (all_both _ _ x.made f.stands r.others))

    -- an entry is made
    made_turn : Away q x.taken → Some (λ y. (Away (place_in y) x.taken → filled s n (place_in y) ≡ false) × (q ≡ place_in y)) x.made → Turn old new q
    unfolding seen
    made_turn p r =
        let g = some_get _ x.made r in
        let u = ap (filled s n) g.1.1 ∙ g.1.0 (subst (λ (z : ℕ). Away z x.taken) g.1.1 p) in
        comes (names_in n s q l ∙ naming_none s n q u) (mark_comes (some_map _ _ x.made (λ y w. w.1) r)) (image_stays p)

    stays_turn : Away q x.taken → Away q x.made → Turn old new q
    unfolding seen
    stays_turn p r = stays (names_in n x.store q l ∙ (f.others q l p r).names ∙ sym (names_in n s q l)) (mark_stays p r) (image_stays p)

    in_turn : Turn old new q
    in_turn = ⊎_elim
        (λ p. ⊎_elim (stays_turn p) (made_turn p) (away_or _ q x.made f.bare))
        (λ p. let g = some_get _ x.taken p in taken_turn g.0 g.1.0 g.1.1)
        (away_or _ q x.taken all_taken)

  out_turn : (q : ℕ) → most_slots * n ≤ q → Turn old new q
  unfolding seen shelf_of
  out_turn q l = stays
      (below_out (most_slots * n) (naming x.store n) q l ∙ sym (below_out (most_slots * n) (naming s n) q l))
      (marked_out n noted q l ∙ sym (marked_out n d q l))
      (below_out (most_slots * n) (naming image n) q l ∙ sym (below_out (most_slots * n) (naming m n) q l))

  -- ---- an inode
  kind_turn : (i : ℕ) → old.store.kind i ≢ free_kind → (new.store.kind i ≡ old.store.kind i) ⊎ (new.store.kind i ≡ free_kind)
  unfolding seen shelf_of
  kind_turn i u = in_range n i
      (λ l o.
      let p = within_in n (kind_of s) i l o in
      let r = within_in n (kind_of x.store) i l o in
      ⊎_elim (λ z. inl (r ∙ z ∙ sym p)) (λ z. inr (r ∙ z)) (f.kinds i l o (λ z. u (p ∙ z))))
      (λ o. absurd (u (within_out n (kind_of s) i o)))

  file_byte_lem : (i : ℕ) → 1 ≤ i → i ≤ n → kind_of m i ≡ file_kind → (o : ℕ) → o < size_of m i → file_byte image n i o ≡ file_byte m n i o
  unfolding file_byte
  file_byte_lem i l p z o u =
      let g = size_most (used_sound h i l p (λ w. omega arith)) in
      let a = bytes_place (size_of m i) (o / block_bytes) in
      let few = (used_limits (size_of m i)).0 g in
      let v = place_used (size_of m i) (o / block_bytes) (omega arith) in
      ap (λ (y : ℕ). get_or (block_of image n (kth_block image n i (bytes_place y (o / block_bytes)))) (o % block_bytes) 0) (cuts.inodes i l p).size
      ∙ ap (λ (c : ℕ). get_or (block_of image n c) (o % block_bytes) 0) ((cuts.inodes i l p).blocks a (omega arith))
      ∙ ap (λ (y : List ℕ). get_or y (o % block_bytes) 0) (cuts.files i a l p z (omega arith) v)

  alike : (i : ℕ) → Alike old.image new.image i
  unfolding seen shelf_of
  alike i = record {
    kind = ap (λ (g : ℕ → ℕ). g i) (within_ext n (kind_of image) (kind_of m) (λ j l o. (cuts.inodes j l o).kind));
    parent = ap (λ (g : ℕ → ℕ). g i) (within_ext n (parent_of image) (parent_of m) (λ j l o. (cuts.inodes j l o).parent));
    size = ap (λ (g : ℕ → ℕ). g i) (within_ext n (size_of image) (size_of m) (λ j l o. (cuts.inodes j l o).size));
    bytes = λ z. in_range n i
        (λ l o. file_same m image n i (cuts.inodes i l o).size (file_byte_lem i l o (sym (within_in n (kind_of m) i l o) ∙ z)))
        (λ o. let w = within_out n (kind_of m) i o in absurd (omega arith));
  }

  entries : (q : ℕ) → new.image.names q ≢ 0 → new.image.entry q ≡ old.image.entry q
  unfolding seen shelf_of
  entries q u = is_below (most_slots * n) q
      (λ l. cuts.entries q l (λ z. u (below_in (most_slots * n) (naming image n) q l ∙ z)))
      (λ l. absurd (u (below_out (most_slots * n) (naming image n) q l)))

  same_notes : (i : ℕ) → is_copied noted n i ≡ is_copied d n i
  same_notes = same_copied (call_notes d n x.taken x.made (desk_long k e h x f) (taken_ranged k e h x f) (made_ranged k e h x f))

  same_lock : (desk_of noted).locked ≡ (desk_of d).locked
  same_lock = ap (λ (z : Desk). z.locked) (call_notes d n x.taken x.made (desk_long k e h x f) (taken_ranged k e h x f) (made_ranged k e h x f)).head

  pub call_called : Called old new
  call_called = record {
    turn = λ q. is_below (most_slots * n) q (in_turn q) (out_turn q);
    kinds = kind_turn;
    entries = entries;
    inodes = alike;
    copied = λ i. unfold seen in same_notes i;
    locked = unfold seen in same_lock;
  }
