-- An unlink keeps a store sound: of one of several links, and of the last one, with which the inode and its blocks are free. n is the inode count.
use Prim.Native.Nat.{ℕ, ◌+◌, ◌-◌, ◌*◌, ◌≤◌, ◌<◌}
use mathlib.Core.Path.{◌≡◌, refl, sym, ap, ◌∙◌, subst}
use mathlib.Core.Bool.{Bool, true, false}
use mathlib.Core.List.{List}
use native.Mathlib.Decide.{ℕ_discrete}
use native.Mathlib.Omega.{arith}
use borrow.Author.Tests.{leb-true, leb-false}
use lib.Dec.{leb}
use Rattle.bounded.specs.Search.{pick}
use Rattle.bounded.proofs.BoolLaws.{clash, fails}
use Rattle.bounded.proofs.BelowLaws.{all_at}
use Rattle.bounded.proofs.TallyLaws.{one_other}
use Rattle.layout.specs.Header.{header_of, more_free}
use Rattle.layout.specs.declared.header.Header.{Header}
use Rattle.layout.specs.Inode.{kind_of, links_of, size_of, parent_of, put_inode, put_links, free_kind, directory_kind, is_directory, zero_inode}
use Rattle.blocks.specs.Block.{blocks_used}
use Rattle.blocks.proofs.FrameLaws.{length_inode}
use Rattle.blocks.proofs.ViewLaws.{inode_fits}
use Rattle.layout.specs.Fits.{InodeFits}
use Rattle.names.specs.Entry.{is_empty}
use Rattle.directory.specs.Slot.{most_slots, slots, entry_of, slot_empty, clear_entry, inode_at}
use Rattle.sound.specs.Place.{dir_of, slot_of, entry_at, filled, place_of}
use Rattle.sound.specs.Sound.{Sound}
use Rattle.sound.specs.Counted.{SoundStore}
use Rattle.sound.proofs.PlaceLaws.{slot_is, filled_is}
use Rattle.sound.specs.declared.Form.TheVariants.{Store}
use Rattle.preservation.proofs.SameLaws.{OtherInodes, SameFrame, SameBody, same_body, body_then, links_new, links_parent, NewInode, frame_then, inode_then, InCounts, more_free_lem}
use Rattle.preservation.proofs.KeepLaws.{body_of}
use Rattle.preservation.proofs.StoreLaws.{fits}
use Rattle.preservation.proofs.RecordLaws.{header_inode}
use Rattle.preservation.proofs.ChangeLaws.{Emptied, emptied_then, names_emptied}
use Rattle.preservation.proofs.TreeLaws.{Tree, tree_less, tree_last, counted_some}
use Rattle.preservation.proofs.SoundTreeLaws.{nodes_of, nodes_else, names_at, above_at, tree_at}
use Rattle.preservation.proofs.EntryWriteLaws.{EntriesAlone, entries_stay, place_below, clear_alone, clear_emptied}
use Rattle.preservation.proofs.InodeWriteLaws.{Relinked, relinked_places, links_relinked}
use Rattle.preservation.proofs.SlotPlaceLaws.{EntryHere, entry_here}
use Rattle.preservation.proofs.StockLaws.{Stock, entries_stock, relinked_stock, stock_sound}
use Rattle.preservation.proofs.BaredLaws.{Bared, put_bared, bared_places, bared_unnamed, bared_free, bared_stock, naming_none}
use Rattle.entries.specs.Plan.{holds_none}
use Rattle.entries.specs.Apply.{drop_link, unlinked}

-- no entry stands in a directory that holds none
pub unfilled : (s : List ℕ) (n i : ℕ) → holds_none s n i ≡ true → (q : ℕ) → dir_of q ≡ i → filled s n q ≡ false
unfolding holds_none slot_empty entry_at
unfilled s n i e q d =
    fails (filled s n q)
    (λ z.
    let r = (filled_is s n q).to z in
    let l = subst (λ (y : ℕ). slot_of q < slots s y) d ((slot_is s q).to r.0).1 in
    clash (is_empty (entry_of s n i (slot_of q))) (all_at (λ u. is_empty (entry_of s n i u)) (slots s i) e (slot_of q) l)
    (ap (λ (y : ℕ). is_empty (entry_of s n y (slot_of q))) (sym d) ∙ r.1))

module _ (s : List ℕ) (n d t i : ℕ) {b : ℕ} (h : SoundStore s n b)
    (dir : is_directory s n d ≡ true) (inside : t < slots s d) (full : slot_empty s n d t ≡ false) (is : i ≡ inode_at s n d t)
    (holds : kind_of s i ≡ directory_kind → holds_none s n i ≡ true) where
  old : EntryHere s n d t i
  old = entry_here h d t i dir inside full is

  low : 1 ≤ i
  low = old.low

  high : i ≤ n
  high = old.high

  abbrev p : ℕ
  p = place_of d t

  below : p < most_slots * n
  below = place_below old.slot

  -- without the entry
  abbrev m : List ℕ
  m = clear_entry s n d t

  alone : EntriesAlone s m n
  alone = clear_alone h (entries_stay s n) old.slot

  emptied : Emptied s m n p
  emptied = clear_emptied h (entries_stay s n) old.slot

  stock : Stock m n b
  stock = entries_stock s m n b (body_of h) alone

  there : InodeFits m n i
  there = inode_fits s m n i alone.frame.long (fits h i low high)

  used : kind_of m i ≡ free_kind → ⊥
  used e = old.used (sym (alone.inodes i low high).kind ∙ e)

  links : links_of m i ≡ links_of s i
  links = (alone.inodes i low high).links

  -- ---- one of several links
  module _ (more : 2 ≤ links_of m i) where
    abbrev w : List ℕ
    w = put_links m i (links_of m i - 1)

    relinked : Relinked m w n i
    relinked = links_relinked m n i there (links_of m i - 1)

    less_others : OtherInodes s w n i
    less_others j l r y = inode_then (alone.inodes j l r) (relinked.inode.others j l r y)

    less_emptied : Emptied s w n p
    less_emptied = emptied_then below (relinked_places relinked) emptied

    less_links : links_of w i ≡ links_of s i - 1
    less_links = links_new m n i there (links_of m i - 1) ∙ ap (λ (y : ℕ). y - 1) links

    parent : parent_of w i ≡ parent_of m i
    parent = links_parent m n i there (links_of m i - 1)

    tree : Tree n (nodes_of w n)
    tree =
        let a = alone.inodes i low high in
        let o = less_others in
        let e = links in
        tree_less n i (nodes_of s n) (nodes_of w n) (tree_at h) (above_at h) low high
        (nodes_else o) (relinked.body.kind ∙ a.kind) (parent ∙ a.parent)
        p below old.names less_emptied.names (λ q l z. (less_emptied.others q l z).names) (omega arith)
        less_links

    less_sound : Sound Store w
    less_sound =
        stock_sound h (frame_then alone.frame relinked.inode.frame)
        (relinked_stock m w n b i relinked used (λ _. parent) low high stock)
        (names_emptied s w n (names_at h) p less_emptied) tree

  -- ---- the last link
  module _ (last : links_of m i ≤ 1) where
    -- without the inode, and with the free counts
    abbrev u : List ℕ
    u = put_inode m n i zero_inode

    abbrev z : List ℕ
    z = more_free u 1 (blocks_used (size_of m i))

    counts : InCounts u z n ((header_of u).free_inodes + 1) ((header_of u).free_blocks + blocks_used (size_of m i))
    counts = let l = there.area in let e = length_inode m n i zero_inode in more_free_lem u n (omega arith) 1 (blocks_used (size_of m i))

    header : header_of u ≡ header_of m
    header = header_inode m n i low high zero_inode

    bared : Bared m z n i zero_inode
    unfolding zero_inode
    bared = put_bared m z n i ((header_of u).free_inodes + 1) ((header_of u).free_blocks + blocks_used (size_of m i)) zero_inode there refl counts

    -- no entry stands in i
    bare : (q : ℕ) → q < most_slots * n → dir_of q ≡ i → filled m n q ≡ false
    bare q l e = elim (ℕ_discrete q p) as (λ _. filled m n q ≡ false) [
      | yes o ↦ ap (filled m n) o ∙ emptied.stands
      | no o ↦ fails (filled m n q) (λ f.
          let k = ((slot_is m q).to ((filled_is m n q).to f).0).0 in
          let g = sym (alone.inodes i low high).kind ∙ ap (kind_of m) (sym e) ∙ k in
          clash (filled s n q) (sym (emptied.others q l o).stands ∙ f) (unfilled s n i (holds g) q e))
    ]

    last_others : OtherInodes s z n i
    last_others j l r y = inode_then (alone.inodes j l r) (bared.others j l r y)

    last_emptied : Emptied s z n p
    unfolding zero_inode
    last_emptied = emptied_then below (bared_places m z n i zero_inode bared refl bare) emptied

    after : Stock z n b
    unfolding zero_inode
    after =
        let f = bared_free m z n i zero_inode bared refl b low high stock (omega arith) (λ _. (refl, refl)) (λ _. refl) in
        let g = bared_unnamed m z n i zero_inode bared refl b low high stock (omega arith) (λ _. (refl, refl)) (λ _. refl) in
        let a = one_other (kind_of m i) free_kind used in
        let c = ap (λ (o : Header). o.free_inodes) header in
        let e = ap (λ (o : Header). o.free_blocks) header in
        let k = stock.free_inodes in
        let q = stock.free_blocks in
        bared_stock m z n i zero_inode bared refl b low high stock (omega arith) (λ _. (refl, refl)) (λ _. refl)
        (counts.free_inodes ∙ omega arith) (counts.free_blocks ∙ omega arith)

    cut : Tree n (nodes_of z n)
    unfolding zero_inode
    cut =
        let o = last_others in
        let c = counted_some n (nodes_of s n) (tree_at h) p i below low old.names in
        let e = links in
        tree_last n i (nodes_of s n) (nodes_of z n) (tree_at h) (above_at h) low high
        (nodes_else o)
        p below old.names last_emptied.names (λ q l y. (last_emptied.others q l y).names) (omega arith)
        (λ k q l e. naming_none s n q (unfilled s n i (holds k) q e)) bared.new.kind bared.new.links

    last_sound : Sound Store z
    last_sound = stock_sound h (frame_then alone.frame bared.frame) after (names_emptied s z n (names_at h) p last_emptied) cut

  -- ---- both
  by_links : (P : List ℕ → Type 0) → (2 ≤ links_of m i → P (put_links m i (links_of m i - 1))) → (links_of m i ≤ 1 → P (more_free (put_inode m n i zero_inode) 1 (blocks_used (size_of m i)))) → P (unlinked s n d t i)
  unfolding unlinked drop_link
  by_links P f g = go (leb (links_of m i) 1) refl
    where
      go : (b : Bool) → leb (links_of m i) 1 ≡ b → P (pick b (more_free (put_inode m n i zero_inode) 1 (blocks_used (size_of m i))) (put_links m i (links_of m i - 1)))
      go true e = g (leb-true (links_of m i) 1 e)
      go false e = f (leb-false (links_of m i) 1 e)

  -- what it changes: the entry in slot t, and inode i
  pub unlink_emptied : Emptied s (unlinked s n d t i) n p
  unlink_emptied = by_links (λ (w : List ℕ). Emptied s w n p) less_emptied last_emptied

  pub unlink_others : OtherInodes s (unlinked s n d t i) n i
  unlink_others = by_links (λ (w : List ℕ). OtherInodes s w n i) less_others last_others

  -- which has a link less, or is freed
  pub unlink_less : 2 ≤ links_of s i → SameBody s (unlinked s n d t i) n i × (links_of (unlinked s n d t i) i ≡ links_of s i - 1)
  unlink_less more =
      by_links (λ (w : List ℕ). SameBody s w n i × (links_of w i ≡ links_of s i - 1))
      (λ o. (body_then (same_body (alone.inodes i low high)) (relinked o).body, less_links o)) (λ o. let e = links in absurd (omega arith))

  pub unlink_last : links_of s i ≤ 1 → NewInode (unlinked s n d t i) i zero_inode
  unlink_last last = by_links (λ (w : List ℕ). NewInode w i zero_inode) (λ o. let e = links in absurd (omega arith)) (λ o. (bared o).new)

  pub unlink_frame : SameFrame s (unlinked s n d t i)
  unlink_frame = by_links (SameFrame s) (λ o. frame_then alone.frame (relinked o).inode.frame) (λ o. frame_then alone.frame (bared o).frame)

  pub unlink_sound : Sound Store (unlinked s n d t i)
  unlink_sound = by_links (Sound Store) less_sound last_sound
