-- The image after the entries that a call takes are cut by the rule. s is the store, m the image, d the desk, n and b the counts of inodes and image blocks.
use Prim.Native.Nat.{ℕ, ◌*◌, ◌≤◌, ◌<◌}
use mathlib.Core.Path.{◌≡◌, refl, sym, ap, ap₂, ◌∙◌, subst}
use mathlib.Core.Logic.{◌≢◌, ⊎_elim}
use mathlib.Core.Bool.{Bool, true, false, not, ◌&&◌}
use mathlib.Core.List.{List, [], ◌∷◌}
use native.Mathlib.Decide.{ℕ_discrete}
use native.Mathlib.Omega.{arith}
use borrow.Author.Tests.{not-true, eqb-true, eq-eqb}
use lib.Dec.{eqb}
use Rattle.bounded.specs.Search.{pick}
use Rattle.bounded.proofs.BoolLaws.{clash, holds, and_left, and_right}
use Rattle.bounded.proofs.EachLaws.{All, all_map, all_both, some_get}
use Rattle.layout.specs.Sizes.{most_blocks}
use Rattle.layout.specs.Inode.{kind_of, size_of, file_kind}
use Rattle.blocks.specs.Block.{block_of, blocks_used, kth_block}
use Rattle.directory.specs.Slot.{most_slots, clear_entry}
use Rattle.sound.specs.Place.{entry_at, naming}
use Rattle.sound.specs.Sound.{Sound, inodes_in}
use Rattle.sound.proofs.PlaceLaws.{naming_slot, naming_filled, place_dir, place_slot, slot_place}
use Rattle.sound.specs.declared.Form.TheVariants.{Store}
use Rattle.preservation.proofs.SameLaws.{SameInode, SameBlock, inode_then, inode_stays}
use Rattle.preservation.proofs.EntryWriteLaws.{SlotIn}
use Rattle.files.specs.Effect.{Entry, place_in}
use Rattle.files.proofs.Lawful.{Away, Distinct}
use Rattle.files.proofs.EffectFacts.{away_or}
use Rattle.desk.specs.Desk.{is_copied}
use Rattle.checkpoint.specs.Fit.{is_running}
use Rattle.checkpoint.specs.Image.{slot_names}
use Rattle.checkpoint.specs.Notes.{cuts_image, cut_image, cut_entries}
use Rattle.checkpoint.proofs.Copy.Laid.{Laid}
use Rattle.checkpoint.proofs.Copy.NamingLaws.{same_naming}
use Rattle.checkpoint.proofs.Call.CallNotes.{Ranged}
use Rattle.checkpoint.proofs.Call.CutLaws.{cut_inode, cut_file, cut_place, cut_gone}
use Rattle.checkpoint.proofs.Call.CutLaid.{cut_laid}

-- an entry of the store: its slot is in range, and it names an inode
pub record Whole (n : ℕ) (y : Entry) : Type 0 where
  pub ranged : Ranged n y
  pub some : 1 ≤ y.inode

whole_below : {n : ℕ} (y : Entry) → Whole n y → place_in y < most_slots * n
whole_below y r = let k = r.ranged in let l = k.low in let o = k.high in let u = k.small in omega arith

-- ---- one entry
module _ {n b : ℕ} {s m d : List ℕ} (h : Laid n b s m d) (y : Entry) (r : Whole n y) where
  -- what the image's slot names is what its place names
  slot_names_lem : slot_names m n y.directory y.slot ≡ naming m n (place_in y)
  slot_names_lem =
      let k = r.ranged in
      sym (ap₂ (slot_names m n) (place_dir y.directory y.slot k.low k.small) (place_slot y.directory y.slot k.low k.small))
      ∙ same_naming h (place_in y) (whole_below y r)

  slot_of : naming m n (place_in y) ≡ y.inode → SlotIn m n y.directory y.slot
  slot_of e =
      let k = r.ranged in
      let o = r.some in
      let z = (slot_place m n y.directory y.slot k.low k.small).to (naming_slot m n (place_in y) (omega arith)) in
      record { low = k.low; high = k.high; dir = z.0; inside = z.1; small = k.small }

  abbrev test : Bool
  test = cuts_image m d n y.directory y.slot y.inode

  -- the rule holds: the image names the inode there, which is not copied
  cut_names : test ≡ true → naming m n (place_in y) ≡ y.inode
  unfolding cuts_image
  cut_names e =
      sym slot_names_lem
      ∙ eqb-true (slot_names m n y.directory y.slot) y.inode
      (and_right (not (is_copied d n y.inode)) (eqb (slot_names m n y.directory y.slot) y.inode)
      (and_right (is_copied d n y.directory) (not (is_copied d n y.inode) && eqb (slot_names m n y.directory y.slot) y.inode)
      (and_right (is_running d) (is_copied d n y.directory && (not (is_copied d n y.inode) && eqb (slot_names m n y.directory y.slot) y.inode)) e)))

  cut_new : test ≡ true → is_copied d n y.inode ≡ false
  unfolding cuts_image
  cut_new e =
      not-true (is_copied d n y.inode)
      (and_left (not (is_copied d n y.inode)) (eqb (slot_names m n y.directory y.slot) y.inode)
      (and_right (is_copied d n y.directory) (not (is_copied d n y.inode) && eqb (slot_names m n y.directory y.slot) y.inode)
      (and_right (is_running d) (is_copied d n y.directory && (not (is_copied d n y.inode) && eqb (slot_names m n y.directory y.slot) y.inode)) e)))

  -- it holds wherever the image names an inode that is not copied: the directory, of kind 2 in the image, is copied
  cut_holds : is_running d ≡ true → naming m n (place_in y) ≡ y.inode → is_copied d n y.inode ≡ false → test ≡ true
  unfolding cuts_image
  cut_holds g e c =
      let k = r.ranged in
      let z = (slot_of e).dir in
      let f : is_copied d n y.directory ≡ true = holds (is_copied d n y.directory) (λ w. let v = h.blank y.directory k.low k.high w in omega arith) in
      rw (g, f, c) (eq-eqb (slot_names m n y.directory y.slot) y.inode (slot_names_lem ∙ e))

  pub image_laid : Sound Store s → n ≡ inodes_in s → Laid n b s (cut_image m d n y.directory y.slot y.inode) d
  unfolding cut_image
  image_laid k x = go test refl
    where
      go : (c : Bool) → test ≡ c → Laid n b s (pick c (clear_entry m n y.directory y.slot) m) d
      go true e = cut_laid k x h y.directory y.slot (slot_of (cut_names e))
      go false e = h

-- ---- all that a call takes
pub entries_laid : {n b : ℕ} {s m d : List ℕ} → Sound Store s → n ≡ inodes_in s → Laid n b s m d → (ys : List Entry) → All (Whole n) ys → Laid n b s (cut_entries m d n ys) d
unfolding cut_entries
entries_laid k x h [] r = h
entries_laid {n = n} {m = m} {d = d} k x h (y ∷ ys) r = entries_laid {m = cut_image m d n y.directory y.slot y.inode} k x (image_laid h y r.0 k x) ys r.1

-- the place of an entry that is taken: cut, or left where the rule does not hold
pub data CutAt (n : ℕ) (m v d : List ℕ) (y : Entry) : Type 0 where
  gone : naming v n (place_in y) ≡ 0 → is_copied d n (naming m n (place_in y)) ≡ false → CutAt n m v d y
  left : naming v n (place_in y) ≡ naming m n (place_in y) → (naming m n (place_in y) ≡ y.inode → is_copied d n y.inode ≡ false → ⊥) → CutAt n m v d y

-- v is the image m after it
pub record Cuts (n : ℕ) (m v d : List ℕ) (ys : List Entry) : Type 0 where
  pub inodes : (j : ℕ) → 1 ≤ j → j ≤ n → SameInode m v n j
  pub files : (j k : ℕ) → 1 ≤ j → j ≤ n → kind_of m j ≡ file_kind → k < most_blocks → k < blocks_used (size_of m j) → SameBlock m v n (kth_block m n j k)
  pub entries : (q : ℕ) → q < most_slots * n → naming v n q ≢ 0 → entry_at v n q ≡ entry_at m n q
  pub away : (q : ℕ) → q < most_slots * n → Away q ys → naming v n q ≡ naming m n q
  pub at : All (CutAt n m v d) ys

module _ {n b : ℕ} {s m d : List ℕ} (h : Laid n b s m d) (g : is_running d ≡ true) (y : Entry) (r : Whole n y) where
  cut_one : test h y r ≡ true → Cuts n m (clear_entry m n y.directory y.slot) d (y ∷ [])
  cut_one e =
      let slot = slot_of h y r (cut_names h y r e) in
      let v = clear_entry m n y.directory y.slot in
      record {
        inodes = cut_inode h y.directory y.slot slot;
        files = cut_file h y.directory y.slot slot;
        entries = λ q l z. entry q l z (ℕ_discrete q (place_in y)) slot;
        away = λ q l a. (cut_place h y.directory y.slot slot q l a.0).names;
        at = (gone (cut_gone h y.directory y.slot slot) (ap (is_copied d n) (cut_names h y r e) ∙ cut_new h y r e), tt);
      }
    where
      entry : (q : ℕ) → q < most_slots * n → naming (clear_entry m n y.directory y.slot) n q ≢ 0 → Dec (q ≡ place_in y) → SlotIn m n y.directory y.slot → entry_at (clear_entry m n y.directory y.slot) n q ≡ entry_at m n q
      entry q l z (yes p) slot = absurd (z (ap (naming (clear_entry m n y.directory y.slot) n) p ∙ cut_gone h y.directory y.slot slot))
      entry q l z (no p) slot =
          let w = cut_place h y.directory y.slot slot q l p in
          let o = w.names in
          w.entry (naming_filled m n q (omega arith))

  keep_one : test h y r ≡ false → Cuts n m m d (y ∷ [])
  keep_one e = record {
    inodes = λ j l o. inode_stays m n j;
    files = λ j k l o f u v. refl;
    entries = λ q l z. refl;
    away = λ q l a. refl;
    at = (left refl (λ p c. clash (test h y r) (cut_holds h y r g p c) e), tt);
  }

  -- and whichever of them it is
  cut_first : Cuts n m (cut_image m d n y.directory y.slot y.inode) d (y ∷ [])
  unfolding cut_image
  cut_first = go (test h y r) refl
    where
      go : (c : Bool) → test h y r ≡ c → Cuts n m (pick c (clear_entry m n y.directory y.slot) m) d (y ∷ [])
      go true e = cut_one e
      go false e = keep_one e

-- ---- one after another. v is the image m after the first, w after the others
-- a place that names an inode names what it named
still_named : {n : ℕ} {m v d : List ℕ} {ys : List Entry} → Cuts n m v d ys → (q : ℕ) → q < most_slots * n → naming v n q ≢ 0 → naming v n q ≡ naming m n q
still_named {n} {m} {v} {d} {ys} a q l z = ⊎_elim (a.away q l) (λ y. let g = some_get _ ys y in go g.0 g.1.0 g.1.1) (away_or _ q ys a.at)
  where
    go : (y : Entry) → CutAt n m v d y → q ≡ place_in y → naming v n q ≡ naming m n q
    go y (gone p c) e = absurd (z (ap (naming v n) e ∙ p))
    go y (left p c) e = ap (naming v n) e ∙ p ∙ ap (naming m n) (sym e)

-- the place of y before and after cuts elsewhere
at_after : {n : ℕ} {m v w d : List ℕ} (y : Entry) → naming w n (place_in y) ≡ naming v n (place_in y) → CutAt n m v d y → CutAt n m w d y
at_after y e (gone p c) = gone (e ∙ p) c
at_after y e (left p c) = left (e ∙ p) c

at_before : {n : ℕ} {m v w d : List ℕ} (y : Entry) → naming v n (place_in y) ≡ naming m n (place_in y) → CutAt n v w d y → CutAt n m w d y
at_before {n} {m} {v} {w} {d} y e (gone p c) = gone p (ap (is_copied d n) (sym e) ∙ c)
at_before y e (left p c) = left (p ∙ e) (λ i u. c (e ∙ i) u)

cuts_then : {n : ℕ} {m v w d : List ℕ} (y : Entry) (ys : List Entry) → Whole n y → All (Whole n) ys → Away (place_in y) ys → Cuts n m v d (y ∷ []) → Cuts n v w d ys → Cuts n m w d (y ∷ ys)
cuts_then {n} {m} {v} {w} {d} y ys r rs apart a b = record {
  inodes = λ j l o. inode_then (a.inodes j l o) (b.inodes j l o);
  files = λ j k l o f u z.
      let i = a.inodes j l o in
      let c : kth_block v n j k ≡ kth_block m n j k = i.blocks k u in
      ap (block_of w n) (sym c) ∙ b.files j k l o (i.kind ∙ f) u (subst (λ (x : ℕ). k < blocks_used x) (sym i.size) z) ∙ ap (block_of v n) c ∙ a.files j k l o f u z;
  entries = λ q l z. b.entries q l z ∙ a.entries q l (λ x. z (still_named b q l z ∙ x));
  away = λ q l z. b.away q l z.1 ∙ a.away q l (z.0, tt);
  at = (
    at_after y (b.away (place_in y) (whole_below y r) apart) a.at.0,
    all_map _ _ ys (λ x z. at_before x (a.away (place_in x) (whole_below x z.0) (λ e. z.1.0 (sym e), tt)) z.1.1) (all_both _ _ ys rs (all_both _ _ ys apart b.at)),
  );
}

-- all entries of a list of which no two stand at one place
pub cut_by : {n b : ℕ} {s m d : List ℕ} → Sound Store s → n ≡ inodes_in s → Laid n b s m d → is_running d ≡ true → (ys : List Entry) → Distinct ys → All (Whole n) ys → Cuts n m (cut_entries m d n ys) d ys
unfolding cut_entries
cut_by {n} {b} {s} {m} {d} k x h g [] apart r = record {
  inodes = λ j l o. inode_stays m n j;
  files = λ j k l o f u v. refl;
  entries = λ q l z. refl;
  away = λ q l a. refl;
  at = tt;
}
cut_by {n = n} {m = m} {d = d} k x h g (y ∷ ys) apart r =
    cuts_then y ys r.0 r.1 apart.0 (cut_first h g y r.0) (cut_by {m = cut_image m d n y.directory y.slot y.inode} k x (image_laid h y r.0 k x) g ys apart.1 r.1)
