-- Image and desk lie after a file call as they did before it. s is the store, m the image, d the desk, n and b the counts of inodes and image blocks, x the call's effect.
use Prim.Native.Nat.{ℕ, ◌+◌, ◌*◌, ◌/◌, ◌%◌, ◌≤◌, ◌<◌}
use mathlib.Core.Path.{◌≡◌, refl, sym, ap, ap₂, ◌∙◌, subst}
use mathlib.Core.Logic.{◌≢◌}
use mathlib.Core.Bool.{Bool, true, false, ◌&&◌}
use mathlib.Core.List.{List, [], ◌∷◌}
use native.Mathlib.Decide.{ℕ_discrete}
use native.Mathlib.Omega.{arith}
use borrow.Author.Tests.{eq-eqb, ne_eqb}
use lib.Dec.{eqb}
use lib.ListN.{length, replicate}
use Rattle.bounded.proofs.SumLaws.{sum_ext}
use Rattle.bounded.specs.Search.{pick}
use Rattle.bounded.proofs.EachLaws.{All, all_map}
use Rattle.layout.specs.Sizes.{address_count, address_place, most_blocks, block_bytes}
use Rattle.layout.specs.Inode.{kind_of, size_of, free_kind, directory_kind}
use Rattle.blocks.specs.Block.{block_of, blocks_used, is_long, kth_by, kth_block, row_by}
use Rattle.blocks.specs.Free.{long_but}
use Rattle.blocks.proofs.LongLaws.{but_here, but_else}
use Rattle.preservation.proofs.SameLaws.{same_long}
use Rattle.directory.specs.Slot.{most_slots, slots_in_block}
use Rattle.desk.specs.Sizes.{desk_length, running}
use Rattle.desk.specs.declared.Desk.{Desk}
use Rattle.desk.specs.Desk.{desk_of, mark_of, is_copied}
use Rattle.sound.specs.Place.{place_of}
use Rattle.sound.specs.Sound.{Sound, inodes_in}
use Rattle.sound.specs.declared.Form.TheVariants.{Store}
use Rattle.preservation.proofs.StoreLaws.{sound_store, dir_of_lem, blocks_of_lem}
use Rattle.preservation.proofs.KeepLaws.{body_of}
use Rattle.files.specs.Effect.{Entry, place_in, Effect}
use Rattle.files.proofs.Lawful.{Away, Stands, Stays, Lawful}
use Rattle.checkpoint.specs.Fit.{is_running, image_long}
use Rattle.checkpoint.specs.Busy.{any_locked}
use Rattle.checkpoint.specs.Notes.{cut_entries, clear_marks, set_marks}
use Rattle.checkpoint.specs.Copier.{copied_entries, copied_block}
use Rattle.checkpoint.proofs.Copy.Laid.{DeskLaid, Laid, Open, cost, cost_so_far}
use Rattle.checkpoint.proofs.Copy.LedgerLaws.{rows_named, rows_differ}
use Rattle.checkpoint.proofs.DecisionLaws.{apart_locked}
use Rattle.checkpoint.proofs.Call.CallNotes.{MarksAlone, same_copied, Ranged, call_notes, mark_away}
use Rattle.checkpoint.proofs.Call.CutEntries.{Whole, entries_laid}
use Rattle.checkpoint.proofs.Copy.NoteLaws.{copied_block_lem}

-- ---- a block that is copied by the same marks is the same
module _ (d e : List ℕ) (n i k : ℕ) (l : k < most_blocks) (marks : (t : ℕ) → t < most_slots → mark_of e n i t ≡ mark_of d n i t) (copied : (j : ℕ) → is_copied e n j ≡ is_copied d n j) where
  -- of an inode that stays
  pub block_same : (s t : List ℕ) → k < blocks_used (size_of s i) → (kind_of s i ≡ directory_kind → k < address_count) → Stays s t n i → copied_block t e n i k ≡ copied_block s d n i k
  unfolding copied_block
  block_same s t u few r =
      let a : kind_of t i ≡ kind_of s i = r.inode.kind in
      let b : block_of t n (kth_block t n i k) ≡ block_of s n (kth_block s n i k) = ap (block_of t n) (r.inode.blocks k l) ∙ r.bytes k u in
      ap (λ (q : Bool). pick (q && eqb k address_place) (replicate block_bytes 0) (pick (eqb (kind_of t i) directory_kind) (copied_entries e n i k (block_of t n (kth_block t n i k)) slots_in_block) (block_of t n (kth_block t n i k))))
      (same_long s t i a r.inode.size)
      ∙ ap₂ (λ (v : ℕ) (y : List ℕ). pick (is_long s i && eqb k address_place) (replicate block_bytes 0) (pick (eqb v directory_kind) (copied_entries e n i k y slots_in_block) y)) a b
      ∙ (elim (ℕ_discrete (kind_of s i) directory_kind) as (λ _. copied_block s e n i k ≡ copied_block s d n i k) [
        | yes z ↦ let f = few z in copied_block_lem d e n i k copied (λ j w. marks (slots_in_block * k + j) (omega arith)) s
        | no z ↦ rw (ne_eqb (kind_of s i) directory_kind z) refl
      ])

-- ---- another store, and other marks: the locked inode stays, and so do its marks
module _ {n b : ℕ} {s m d : List ℕ} (k : Sound Store s) (x : n ≡ inodes_in s) (h : Laid n b s m d) (t e : List ℕ) (a : MarksAlone n d e)
    (stays : (desk_of d).locked ≢ 0 → Stays s t n (desk_of d).locked) (marks : (desk_of d).locked ≢ 0 → (u : ℕ) → u < most_slots → mark_of e n (desk_of d).locked u ≡ mark_of d n (desk_of d).locked u) where
  lock_same : (desk_of e).locked ≡ (desk_of d).locked
  lock_same = ap (λ (z : Desk). z.locked) a.head

  copied_same : (desk_of e).transferred ≡ (desk_of d).transferred
  copied_same = ap (λ (z : Desk). z.transferred) a.head

  desk : DeskLaid n b e
  desk =
      let f = h.desk in
      let l = lock_same in
      let g = f.high in
      record {
        long = a.long ∙ f.long;
        inodes = ap (λ (z : Desk). z.inodes) a.head ∙ f.inodes;
        blocks = ap (λ (z : Desk). z.blocks) a.head ∙ f.blocks;
        state = ap (λ (z : Desk). z.state) a.head ∙ f.state;
        reserved = a.reserved ∙ f.reserved;
        bytes = λ i l o. subst (λ (z : ℕ). z ≤ 1) (sym (a.copied i l o)) (f.bytes i l o);
        high = omega arith;
        none = λ z. copied_same ∙ f.none (sym l ∙ z);
      }

  opened_here : (desk_of d).locked ≢ 0 → Open n b t m e (desk_of d).locked (desk_of d).transferred
  opened_here z =
      let o = h.opened z in
      let r = stays z in
      let w = (blocks_of_lem (sound_store k x) (desk_of d).locked o.low h.desk.high).few in
      let f = o.few in
      let g = sym (same_long s t (desk_of d).locked r.inode.kind r.inode.size) in
      record {
        low = o.low;
        new = same_copied a (desk_of d).locked ∙ o.new;
        spare = o.spare;
        links = o.links;
        size = o.size;
        parent = o.parent;
        few = subst (λ (y : ℕ). (desk_of d).transferred ≤ blocks_used y) (sym r.inode.size) f;
        named = λ j l c. subst (λ (y : Bool). (1 ≤ kth_by y m n (desk_of d).locked j) × (kth_by y m n (desk_of d).locked j ≤ b)) g (o.named j l c);
        rest = λ j l c. subst (λ (y : Bool). kth_by y m n (desk_of d).locked j ≡ 0) g (o.rest j l c);
        blocks = λ j l c.
            ap (λ (y : Bool). block_of m n (kth_by y m n (desk_of d).locked j)) (sym g)
            ∙ o.blocks j l (λ y. c (sym g ∙ y))
            ∙ sym (block_same d e n (desk_of d).locked j (omega arith) (marks z) (same_copied a) s t (omega arith)
            (λ q. let v = (dir_of_lem (sound_store k x) (desk_of d).locked (record { low = o.low; high = h.desk.high; kind = q })).few in omega arith) r);
      }

  opened : (desk_of e).locked ≢ 0 → Open n b t m e (desk_of e).locked (desk_of e).transferred
  opened z = subst (λ (y : Desk). Open n b t m e y.locked y.transferred) (sym a.head) (opened_here (λ w. z (lock_same ∙ w)))

  costs : (j : ℕ) → j < n → cost m d n j ≡ cost m e n j
  unfolding cost
  costs j l = ap (λ (z : Bool). pick z (2 + blocks_used (size_of m (j + 1))) 0) (sym (same_copied a (j + 1)))

  so_far : cost_so_far d ≡ cost_so_far e
  unfolding cost_so_far
  so_far = ap (λ (z : Desk). pick (eqb z.locked 0) 0 (1 + z.transferred)) (sym a.head)

  long_same : (j : ℕ) → 1 ≤ j → image_long t m e j ≡ image_long s m d j
  long_same j l =
      ap (λ (y : ℕ). long_but m y (is_long t y) j) lock_same
      ∙ (elim (ℕ_discrete j (desk_of d).locked) as (λ _. long_but m (desk_of d).locked (is_long t (desk_of d).locked) j ≡ image_long s m d j) [
        | yes z ↦
            let r = stays (λ w. omega arith) in
            but_here m (desk_of d).locked (is_long t (desk_of d).locked) j z ∙ same_long s t (desk_of d).locked r.inode.kind r.inode.size ∙ sym (but_here m (desk_of d).locked (is_long s (desk_of d).locked) j z)
        | no z ↦ but_else m (desk_of d).locked (is_long t (desk_of d).locked) j z ∙ sym (but_else m (desk_of d).locked (is_long s (desk_of d).locked) j z)
      ])

  row_same : (v : ℕ) → v < most_blocks * n → row_by (image_long t m e) m n v ≡ row_by (image_long s m d) m n v
  unfolding row_by
  row_same v l = ap (λ (y : Bool). kth_by y m n (v / 44 + 1) (v % 44)) (long_same (v / 44 + 1) (omega arith))

  pub notes_laid : Laid n b t m e
  notes_laid = record {
    desk = desk;
    frame = h.frame;
    inodes = λ i l o z. h.inodes i l o (λ w. z (w ∙ sym lock_same));
    blank = λ i l o c. h.blank i l o (sym (same_copied a i) ∙ c);
    opened = opened;
    once = rows_differ (image_long s m d) (image_long t m e) m m n row_same h.once;
    blanks = λ c l o q. h.blanks c l o (sym (rows_named (image_long s m d) (image_long t m e) m m n row_same c) ∙ q);
    fair = h.fair;
    steps = ap (λ (z : Desk). z.steps) a.head ∙ h.steps ∙ ap₂ ◌+◌ (sum_ext (cost m d n) (cost m e n) n costs) so_far;
  }

-- ---- a call
-- an entry that stands in a sound store
pub stands_ranged : (s : List ℕ) (n : ℕ) (y : Entry) → Stands s n y → Ranged n y
stands_ranged s n y r = record { low = r.low; high = r.high; small = r.small }

pub stands_whole : (s : List ℕ) (n : ℕ) → Sound Store s → n ≡ inodes_in s → (y : Entry) → Stands s n y → Whole n y
stands_whole s n k e y r =
    let l = r.low in
    let o = r.high in
    let u = r.small in
    let z = ((body_of (sound_store k e)).entries (place_in y) (omega arith) r.stands).low in
    record { ranged = stands_ranged s n y r; some = subst (λ (v : ℕ). 1 ≤ v) r.names z }

-- the slots of a directory that is not among theirs
pub away_from : (n i t : ℕ) (ys : List Entry) → t < most_slots → 1 ≤ i → All (Ranged n) ys → All (λ y. i ≢ y.directory) ys → Away (place_of i t) ys
away_from n i t [] u l r a = tt
away_from n i t (y ∷ ys) u l r a = ((λ z. let v = r.0.low in let w = r.0.small in a.0 (omega arith)), away_from n i t ys u l r.1 a.1)

module _ {n b : ℕ} {s m d : List ℕ} (k : Sound Store s) (e : n ≡ inodes_in s) (h : Laid n b s m d) (x : Effect) (f : Lawful s n x) where
  pub taken_whole : All (Whole n) x.taken
  taken_whole = all_map _ _ x.taken (stands_whole s n k e) f.stood

  pub taken_ranged : All (Ranged n) x.taken
  taken_ranged = all_map _ _ x.taken (stands_ranged s n) f.stood

  pub made_ranged : All (Ranged n) x.made
  made_ranged = all_map _ _ x.made (stands_ranged x.store n) f.stands

  pub desk_long : desk_length n ≤ length d
  desk_long = let l = h.desk.long in omega arith

  pub runs : is_running d ≡ true
  unfolding is_running
  runs = eq-eqb (desk_of d).state running h.desk.state

  abbrev noted : List ℕ
  noted = set_marks (clear_marks d n x.taken) n x.made

  module _ (a : any_locked d x.touches ≡ false) (used : (desk_of d).locked ≢ 0 → kind_of s (desk_of d).locked ≢ free_kind) where
    lock_stays : (desk_of d).locked ≢ 0 → Stays s x.store n (desk_of d).locked
    lock_stays z = f.untouched (desk_of d).locked (h.opened z).low h.desk.high (used z) (apart_locked d x.touches runs a)

    lock_marks : (desk_of d).locked ≢ 0 → (u : ℕ) → u < most_slots → mark_of noted n (desk_of d).locked u ≡ mark_of d n (desk_of d).locked u
    lock_marks z u v =
        let l = (h.opened z).low in
        let g = f.apart (desk_of d).locked (apart_locked d x.touches runs a) in
        mark_away d n x.taken x.made desk_long taken_ranged made_ranged (desk_of d).locked u l h.desk.high v
        (away_from n (desk_of d).locked u x.taken v l taken_ranged (all_map _ _ x.taken (λ y p. p.0) g.0))
        (away_from n (desk_of d).locked u x.made v l made_ranged g.1)

    pub call_laid : Laid n b x.store (cut_entries m d n x.taken) noted
    call_laid =
        notes_laid k e (entries_laid k e h x.taken taken_whole) x.store noted
        (call_notes d n x.taken x.made desk_long taken_ranged made_ranged) lock_stays lock_marks
