-- A move to another directory keeps a store sound. n is the inode count.
use Rattle.std.specs.Prelude.{None}
use Prim.Native.Nat.{ℕ, ◌*◌, ◌≤◌, ◌<◌}
use mathlib.Core.Path.{◌≡◌, refl, sym, ap, ◌∙◌, subst}
use mathlib.Core.Logic.{◌≢◌}
use mathlib.Core.Bool.{Bool, true, false, ◌&&◌}
use mathlib.Core.List.{List}
use native.Mathlib.Omega.{arith}
use borrow.Author.Tests.{eq-eqb, eqb-true, eqb-false}
use lib.Dec.{eqb}
use Rattle.bounded.specs.Climb.{Leads, leads_b, Closed}
use Rattle.bounded.specs.Search.{pick}
use Rattle.bounded.proofs.BoolLaws.{clash, fails, and_left, and_right}
use Rattle.bounded.proofs.ClimbLaws.{leads_bool, leads_prop, leads_kept, leads_on, leads_top}
use Rattle.layout.specs.Sizes.{root_inode}
use Rattle.layout.specs.Inode.{kind_of, links_of, parent_of, inode_of, put_attributes, directory_kind, is_directory, with_parent}
use Rattle.blocks.proofs.ViewLaws.{inode_fits}
use Rattle.names.specs.Name.{legal_name}
use Rattle.directory.specs.Slot.{most_slots, slots, find_slot, slot_empty, put_entry, clear_entry, inode_at}
use Rattle.sound.specs.Place.{naming, place_of}
use Rattle.sound.specs.Sound.{Sound}
use Rattle.sound.specs.Counted.{SoundStore}
use Rattle.sound.proofs.PlaceLaws.{place_dir}
use Rattle.sound.specs.declared.Form.TheVariants.{Store}
use Rattle.preservation.proofs.SameLaws.{OtherInodes, SameBody, same_body, body_then, SameFrame, frame_stays, frame_then, inode_stays, inode_then}
use Rattle.preservation.proofs.KeepLaws.{SamePlace, SameTree, tree_stays, body_of}
use Rattle.layout.proofs.KindLaws.{kind_some, kind_most, kind_is}
use Rattle.preservation.proofs.StoreLaws.{fits}
use Rattle.preservation.proofs.ChangeLaws.{Emptied, Filled, filled_then, names_emptied, names_filled, new_emptied}
use Rattle.preservation.proofs.TreeLaws.{Nodes, Tree, Dir, Above, parent_dir, tree_move}
use Rattle.preservation.proofs.SoundTreeLaws.{nodes_of, nodes_else, names_at, above_at, tree_at}
use Rattle.preservation.proofs.EntryWriteLaws.{EntriesAlone, entries_stay, SlotIn, slot_in, place_below, clear_alone, clear_emptied, put_alone, put_filled}
use Rattle.preservation.proofs.InodeWriteLaws.{relinked_places, parent_relinked, parent_links, parent_put}
use Rattle.preservation.proofs.SlotPlaceLaws.{EntryHere, entry_here, absent_new, place_bare}
use Rattle.preservation.proofs.StockLaws.{Stock, entries_stock, relinked_stock, stock_sound}
use Rattle.entries.specs.Plan.{is_below}
use Rattle.entries.specs.Apply.{set_parent}
use Rattle.entries.proofs.ParentLaws.{zero_parent}

-- ---- a climb to i: the test with n steps tells all
module _ (n : ℕ) (v : Nodes) (t : Tree n v) (a : Above n v) (none : v.parent 0 ≡ 0) (i e : ℕ) (low : 1 ≤ i) (not_root : i ≢ root_inode) where
  -- a directory from which the way up comes to i
  abbrev Under : ℕ → Type 0
  Under x = Dir n v x × Leads v.parent i x

  under : Closed Under v.parent i n
  under = record {
    within = λ x d. (d.0.low, d.0.high);
    parent = λ x d h. (
      parent_dir n v t a x d.0 (λ z. leads_top v.parent i none root_inode t.root_parent low (λ y. not_root (sym y)) (subst (Leads v.parent i) z d.1)),
      leads_on v.parent i x h d.1,
    );
  }

  pub leads_not : Dir n v e → leads_b v.parent i n e ≡ false → Leads v.parent i e → ⊥
  leads_not d f l = clash (leads_b v.parent i n e) (leads_bool v.parent i Under n e under (d, l) l) f

  -- by parents that are the same for all directories, it comes there too
  pub leads_other : (up : ℕ → ℕ) → ((x : ℕ) → Dir n v x → up x ≡ v.parent x) → Dir n v e → Leads v.parent i e → Leads up i e
  leads_other up h d l = leads_kept Under v.parent up i n under (λ x k. h x k.0) l.0 e (d, l) l.1

-- ---- refusal 10 and what it says on a sound store
module _ (s : List ℕ) (n i e : ℕ) {b : ℕ} (h : SoundStore s n b) (low : 1 ≤ i) (not_root : i ≢ root_inode) (dir : is_directory s n e ≡ true) where
  above : Dir n (nodes_of s n) e
  above = record { low = kind_some s n directory_kind e dir; high = kind_most s n directory_kind e dir; kind = kind_is s n directory_kind e dir }

  none : parent_of s 0 ≡ 0
  none = zero_parent s h.sound.root_parent

  pub not_below : is_below s n i e ≡ false → kind_of s i ≡ directory_kind → Leads (parent_of s) i e → ⊥
  unfolding is_below
  not_below f k =
      leads_not n (nodes_of s n) (tree_at h) (above_at h) none i e low not_root above
      (sym (ap (λ (b : Bool). b && leads_b (parent_of s) i n e) (eq-eqb (kind_of s i) directory_kind k)) ∙ f)

  -- it is refused in no store with the tree of one in which it is not
  pub below_kept : (r : List ℕ) → SameTree r s n → i ≤ n → (kind_of r i ≡ directory_kind → Leads (parent_of r) i e → ⊥) → is_below s n i e ≡ false
  unfolding is_below
  below_kept r t m f =
      fails (eqb (kind_of s i) directory_kind && leads_b (parent_of s) i n e)
      (λ z.
      let k = eqb-true (kind_of s i) directory_kind (and_left (eqb (kind_of s i) directory_kind) (leads_b (parent_of s) i n e) z) in
      let c = leads_prop (parent_of s) i n e (and_right (eqb (kind_of s i) directory_kind) (leads_b (parent_of s) i n e) z) in
      f (sym (t.kinds i low m) ∙ k)
      (leads_other n (nodes_of s n) (tree_at h) (above_at h) none i e low not_root (parent_of r) (λ y d. sym (t.parents y d.low d.high)) above c))

module _ (s : List ℕ) (n d t i e u : ℕ) (other : List ℕ) {b : ℕ} (h : SoundStore s n b)
    (from : is_directory s n d ≡ true) (inside : t < slots s d) (full : slot_empty s n d t ≡ false) (is : i ≡ inode_at s n d t)
    (into : is_directory s n e ≡ true) (room : u < slots s e) (empty : slot_empty s n e u ≡ true)
    (legal : legal_name other ≡ true) (absent : find_slot s n e other ≡ None) (apart : is_below s n i e ≡ false) where
  old : EntryHere s n d t i
  old = entry_here h d t i from inside full is

  low : 1 ≤ i
  low = old.low

  high : i ≤ n
  high = old.high

  target : SlotIn s n e u
  target = slot_in h e u into room

  abbrev p : ℕ
  p = place_of d t

  abbrev q : ℕ
  q = place_of e u

  free : naming s n q ≡ 0
  free = place_bare s n e u target empty

  other_place : p ≢ q
  other_place z = let a = ap (naming s n) z in let b = old.names in let c = free in let o = low in omega arith

  -- the old slot is emptied
  abbrev m : List ℕ
  m = clear_entry s n d t

  alone : EntriesAlone s m n
  alone = clear_alone h (entries_stay s n) old.slot

  emptied : Emptied s m n p
  emptied = clear_emptied h (entries_stay s n) old.slot

  -- and the new one filled
  abbrev g : List ℕ
  g = put_entry m n e u i other

  both : EntriesAlone s g n
  both = put_alone h alone target i other low

  entered : Filled m g n q i other
  entered = put_filled h alone target i other low

  stock : Stock g n b
  stock = entries_stock s g n b (body_of h) both

  -- then at most the parent of i changes
  record Rehomed (w : List ℕ) : Type 0 where
    frame : SameFrame g w
    places : (r : ℕ) → r < most_slots * n → SamePlace g w n r
    others : OtherInodes g w n i
    body : SameBody g w n i
    links : links_of w i ≡ links_of g i
    up : kind_of s i ≡ directory_kind → parent_of w i ≡ e
    stock : Stock w n b

  abbrev w : List ℕ
  w = set_parent g n i e

  rehomed : Rehomed w
  unfolding set_parent
  rehomed = go (eqb (kind_of g i) directory_kind) refl
    where
      go : (b : Bool) → eqb (kind_of g i) directory_kind ≡ b → Rehomed (pick b (put_attributes g i (with_parent (inode_of g n i) e)) g)
      go true k =
          let there = inode_fits s g n i both.frame.long (fits h i low high) in
          let y = (stock.inodes i low high).spare in
          let a = eqb-true (kind_of g i) directory_kind k in
          let r = parent_relinked g n i there e y in
          record {
            frame = r.inode.frame;
            places = relinked_places r;
            others = r.inode.others;
            body = r.body;
            links = parent_links g n i there e y;
            up = λ _. parent_put g n i there e y;
            stock = relinked_stock g (put_attributes g i (with_parent (inode_of g n i) e)) n b i r (λ z. omega arith) (λ z. absurd (omega arith)) low high stock;
          }
      go false k =
          record {
            frame = frame_stays g;
            places = (tree_stays g n).places;
            others = λ j _ _ _. inode_stays g n j;
            body = same_body (inode_stays g n i);
            links = refl;
            up = λ z. absurd (eqb-false (kind_of g i) directory_kind k ((both.inodes i low high).kind ∙ z));
            stock = stock;
          }

  -- what it changes: the entry in slot t of d is emptied, that in slot u of e filled, and a directory i has another parent
  pub move_emptied : Emptied s m n p
  move_emptied = emptied

  pub move_filled : Filled m w n q i other
  move_filled = filled_then (place_below target) rehomed.places entered

  pub move_others : OtherInodes s w n i
  move_others j l r z = inode_then (both.inodes j l r) (rehomed.others j l r z)

  pub move_body : SameBody s w n i
  move_body = body_then (same_body (both.inodes i low high)) rehomed.body

  pub move_links : links_of w i ≡ links_of s i
  move_links = rehomed.links ∙ (both.inodes i low high).links

  pub move_parent : kind_of s i ≡ directory_kind → parent_of w i ≡ e
  move_parent = rehomed.up

  tree : Tree n (nodes_of w n)
  tree =
      let o = move_others in
      let f = move_filled in
      let l = place_below old.slot in
      tree_move n i (nodes_of s n) (nodes_of w n) (tree_at h) (above_at h) low high
      (nodes_else o)
      p q e l (place_below target) (place_dir e u target.low target.small)
      old.names ((f.others p l other_place).names ∙ emptied.names) free f.names (λ r l y z. (f.others r l z).names ∙ (emptied.others r l y).names)
      target.dir (not_below s n i e h low old.not_root into apart) move_body.kind move_links move_parent

  pub move_sound : Sound Store (set_parent (put_entry (clear_entry s n d t) n e u i other) n i e)
  move_sound =
      stock_sound h (frame_then both.frame rehomed.frame) rehomed.stock
      (names_filled m w n (names_emptied s m n (names_at h) p emptied) q i other move_filled low legal
      (new_emptied s m n p q other emptied (absent_new s n e other u target.low target.small absent)))
      tree
