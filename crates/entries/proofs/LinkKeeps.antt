-- A link keeps a store sound. n is the inode count.
use Rattle.std.specs.Prelude.{None}
use Prim.Native.Nat.{ℕ, ◌+◌, ◌≤◌, ◌<◌}
use mathlib.Core.Path.{◌≡◌, ap, ◌∙◌}
use mathlib.Core.Bool.{true}
use mathlib.Core.List.{List}
use native.Mathlib.Omega.{arith}
use Rattle.layout.specs.Inode.{kind_of, links_of, parent_of, put_links, file_kind, is_file, is_directory}
use Rattle.blocks.proofs.ViewLaws.{inode_fits}
use Rattle.layout.specs.Fits.{InodeFits}
use Rattle.names.specs.Name.{legal_name}
use Rattle.directory.specs.Slot.{slots, find_slot, slot_empty, put_entry}
use Rattle.sound.specs.Place.{place_of}
use Rattle.sound.specs.Sound.{Sound}
use Rattle.sound.specs.Counted.{SoundStore}
use Rattle.sound.specs.declared.Form.TheVariants.{Store}
use Rattle.preservation.proofs.SameLaws.{OtherInodes, SameBody, same_body, body_then, links_new, links_parent, frame_then, inode_then}
use Rattle.preservation.proofs.KeepLaws.{body_of}
use Rattle.layout.proofs.KindLaws.{kind_some, kind_most, kind_is}
use Rattle.preservation.proofs.StoreLaws.{kind_fits}
use Rattle.preservation.proofs.ChangeLaws.{Filled, filled_then, names_filled}
use Rattle.preservation.proofs.TreeLaws.{Tree, tree_link}
use Rattle.preservation.proofs.SoundTreeLaws.{nodes_of, nodes_else, names_at, above_at, tree_at}
use Rattle.preservation.proofs.EntryWriteLaws.{EntriesAlone, entries_stay, SlotIn, slot_in, place_below, put_alone, put_filled}
use Rattle.preservation.proofs.InodeWriteLaws.{Relinked, relinked_places, links_relinked}
use Rattle.preservation.proofs.SlotPlaceLaws.{absent_new, place_bare}
use Rattle.preservation.proofs.StockLaws.{entries_stock, relinked_stock, stock_sound}

module _ (s : List ℕ) (n d t i : ℕ) (name : List ℕ) {b : ℕ} (h : SoundStore s n b)
    (dir : is_directory s n d ≡ true) (file : is_file s n i ≡ true) (inside : t < slots s d) (empty : slot_empty s n d t ≡ true)
    (legal : legal_name name ≡ true) (absent : find_slot s n d name ≡ None) where
  low : 1 ≤ i
  low = kind_some s n file_kind i file

  high : i ≤ n
  high = kind_most s n file_kind i file

  slot : SlotIn s n d t
  slot = slot_in h d t dir inside

  abbrev p : ℕ
  p = place_of d t

  -- with the entry
  abbrev m : List ℕ
  m = put_entry s n d t i name

  alone : EntriesAlone s m n
  alone = put_alone h (entries_stay s n) slot i name low

  fits : InodeFits m n i
  fits = inode_fits s m n i alone.frame.long (kind_fits h file_kind i file)

  -- and with the link
  abbrev w : List ℕ
  w = put_links m i (links_of m i + 1)

  relinked : Relinked m w n i
  relinked = links_relinked m n i fits (links_of m i + 1)

  -- what it changes: the entry in slot t, and of inode i the links
  pub link_filled : Filled s w n p i name
  link_filled = filled_then (place_below slot) (relinked_places relinked) (put_filled h (entries_stay s n) slot i name low)

  pub link_others : OtherInodes s w n i
  link_others j l r z = inode_then (alone.inodes j l r) (relinked.inode.others j l r z)

  pub link_body : SameBody s w n i
  link_body = body_then (same_body (alone.inodes i low high)) relinked.body

  parent : parent_of w i ≡ parent_of m i
  parent = links_parent m n i fits (links_of m i + 1)

  kind : kind_of m i ≡ file_kind
  kind = (alone.inodes i low high).kind ∙ kind_is s n file_kind i file

  pub link_links : links_of w i ≡ links_of s i + 1
  link_links = links_new m n i fits (links_of m i + 1) ∙ ap (λ (z : ℕ). z + 1) (alone.inodes i low high).links

  tree : Tree n (nodes_of w n)
  tree =
      let o = link_others in
      tree_link n i (nodes_of s n) (nodes_of w n) (tree_at h) (above_at h) low high
      (nodes_else o) link_body.kind (parent ∙ (alone.inodes i low high).parent)
      p (place_below slot) (place_bare s n d t slot empty) link_filled.names (λ q l z. (link_filled.others q l z).names)
      (kind_is s n file_kind i file) link_links

  pub link_sound : Sound Store (put_links (put_entry s n d t i name) i (links_of (put_entry s n d t i name) i + 1))
  link_sound =
      stock_sound h (frame_then alone.frame relinked.inode.frame)
      (relinked_stock m w n b i relinked (λ z. let k = kind in omega arith) (λ _. parent) low high (entries_stock s m n b (body_of h) alone))
      (names_filled s w n (names_at h) p i name link_filled low legal (absent_new s n d name t slot.low slot.small absent)) tree
