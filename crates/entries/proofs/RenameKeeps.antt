-- A rename within a directory keeps a store sound. n is the inode count.
use Prim.Native.Nat.{ℕ, ◌+◌, ◌-◌, ◌≤◌, ◌<◌}
use mathlib.Core.Path.{◌≡◌, sym, ap, ◌∙◌}
use mathlib.Core.Bool.{true, false}
use mathlib.Core.List.{List}
use native.Mathlib.Decide.{ℕ_discrete, dec_lt}
use native.Mathlib.Omega.{arith}
use native.Mathlib.Nat.{zero-add}
use lib.ListN.{length, get_or, get_or-append}
use lib.Seq.{ext_get_or}
use Rattle.bounded.specs.Table.{table}
use Rattle.octets.specs.Octets.{Octets, part, splice, to_bytes}
use Rattle.octets.proofs.PartLaws.{get_d_part, length_splice, splice_in, splice_out, octets_part}
use Rattle.octets.proofs.NumLaws.{length_to_bytes, byte_back}
use mathlib.Core.Logic.{inl, inr}
use Rattle.names.specs.Name.{name_bytes, legal_name}
use Rattle.names.specs.Entry.{entry_bytes, name_at, entry_inode, same_name, spelled, entry_for}
use Rattle.names.proofs.EntryLaws.{length_entry, entry_byte, spelled_is}
use Rattle.layout.specs.Inode.{is_directory}
use Rattle.directory.specs.Slot.{slots, slot_at, entry_of, slot_empty, put_entry, inode_at}
use Rattle.directory.proofs.SlotLaws.{find_named}
use Rattle.sound.specs.Place.{naming, place_of}
use Rattle.sound.specs.Sound.{Sound}
use Rattle.sound.specs.Counted.{SoundStore}
use Rattle.sound.specs.declared.Form.TheVariants.{Store}
use Rattle.preservation.proofs.KeepLaws.{body_of}
use Rattle.sound.proofs.PlaceLaws.{entry_place}
use Rattle.preservation.proofs.ChangeLaws.{Filled, NewName, own_new, names_filled}
use Rattle.preservation.proofs.TreeLaws.{Tree, tree_rename}
use Rattle.preservation.proofs.SoundTreeLaws.{nodes_of, nodes_else, names_at, above_at, tree_at}
use Rattle.preservation.proofs.EntryWriteLaws.{EntriesAlone, entries_stay, put_alone, put_filled, place_below}
use Rattle.preservation.proofs.SlotPlaceLaws.{EntryHere, entry_here, absent_new, place_filled}
use Rattle.preservation.proofs.StockLaws.{entries_stock, stock_sound}
use Rattle.entries.specs.Apply.{renamed}
use Rattle.entries.proofs.PlanFacts.{FreeFor}

module _ (s : List ℕ) (n d t i : ℕ) (other : List ℕ) {b : ℕ} (h : SoundStore s n b)
    (dir : is_directory s n d ≡ true) (inside : t < slots s d) (full : slot_empty s n d t ≡ false) (is : i ≡ inode_at s n d t)
    (legal : legal_name other ≡ true) (free : FreeFor s n d other t) where
  old : EntryHere s n d t i
  old = entry_here h d t i dir inside full is

  abbrev p : ℕ
  p = place_of d t

  abbrev w : List ℕ
  w = put_entry s n d t i other

  -- what it changes: entries alone, and of them the one in slot t
  pub rename_alone : EntriesAlone s w n
  rename_alone = put_alone h (entries_stay s n) old.slot i other old.low

  pub rename_filled : Filled s w n p i other
  rename_filled = put_filled h (entries_stay s n) old.slot i other old.low

  -- its name is new there, also if it is another spelling of its own
  new : NewName s n p other
  new = elim free [
    | inl e ↦ absent_new s n d other t old.slot.low old.slot.small e
    | inr e ↦ own_new s n p other (names_at h) (place_below old.slot) (place_filled s n d t old.slot full)
        (ap (λ (x : List ℕ). same_name x other) (entry_place s n d t old.slot.low old.slot.small) ∙ find_named s n d other t e)
  ]

  tree : Tree n (nodes_of w n)
  tree =
      let a = rename_alone.inodes in
      let o = a i old.low old.high in
      tree_rename n i (nodes_of s n) (nodes_of w n) (tree_at h) (above_at h) old.low old.high
      (nodes_else (λ j l m _. a j l m)) o.kind o.parent
      (λ q l. elim (ℕ_discrete q p) as (λ _. naming w n q ≡ naming s n q) [
        | yes e ↦ ap (naming w n) e ∙ rename_filled.names ∙ sym old.names ∙ ap (naming s n) (sym e)
        | no e ↦ (rename_filled.others q l e).names
      ])
      old.not_root o.links

  pub rename_sound : Sound Store (renamed s n d other t i)
  rename_sound =
      stock_sound h rename_alone.frame (entries_stock s w n b (body_of h) rename_alone)
      (names_filled s w n (names_at h) p i other rename_filled old.low legal new) tree

-- "to the same name it changes nothing": the bytes that are written stand there already
module _ (s : List ℕ) (n d t i : ℕ) (other : List ℕ) (hs : Octets s) (l : slot_at s n d t + entry_bytes ≤ length s) (is : i ≡ inode_at s n d t) (same : spelled (entry_of s n d t) other ≡ true) where
  abbrev o : ℕ
  o = slot_at s n d t

  byte : (k : ℕ) → k < entry_bytes → Dec (k < name_at) → get_or (entry_for i other) k 0 ≡ get_or s (o + k) 0
  unfolding entry_for entry_inode entry_of
  byte k b (yes h) =
      get_or-append (to_bytes 2 i) (table (λ j. get_or other j 0) name_bytes) 0 k (omega (arith, length_to_bytes 2 i))
      ∙ ap (λ (v : ℕ). get_or (to_bytes 2 v) k 0) is
      ∙ byte_back 2 (part s o entry_bytes) 0 k (octets_part s o entry_bytes hs) h
      ∙ ap (λ (j : ℕ). get_or (part s o entry_bytes) j 0) (zero-add k)
      ∙ get_d_part s o entry_bytes k b
  byte k b (no h) =
      let e : name_at + (k - name_at) ≡ k = omega arith in
      let a = entry_byte i other (k - name_at) (omega arith) in
      let c = (spelled_is (part s o entry_bytes) other).to same (k - name_at) (omega arith) in
      ap (λ (j : ℕ). get_or (entry_for i other) j 0) (sym e) ∙ a ∙ sym c ∙ ap (λ (j : ℕ). get_or (part s o entry_bytes) j 0) e ∙ get_d_part s o entry_bytes k b

  pub same_name_lem : renamed s n d other t i ≡ s
  unfolding put_entry
  same_name_lem = ext_get_or 0 (splice s o (entry_for i other)) s (length_splice s o (entry_for i other)) (λ k b. at k (dec_lt k o) (dec_lt k (o + entry_bytes)))
    where
      m : length (entry_for i other) ≡ entry_bytes
      m = length_entry i other

      at : (k : ℕ) → Dec (k < o) → Dec (k < o + entry_bytes) → get_or (splice s o (entry_for i other)) k 0 ≡ get_or s k 0
      at k (yes a) b = splice_out s o (entry_for i other) k (omega (arith, m))
      at k (no a) (no b) = splice_out s o (entry_for i other) k (omega (arith, m))
      at k (no a) (yes b) =
          let e : o + (k - o) ≡ k = omega arith in
          ap (λ (j : ℕ). get_or (splice s o (entry_for i other)) j 0) (sym e)
          ∙ splice_in s o (entry_for i other) (k - o) (omega (arith, m)) (omega (arith, m))
          ∙ byte (k - o) (omega arith) (dec_lt (k - o) name_at)
          ∙ ap (λ (j : ℕ). get_or s j 0) e
