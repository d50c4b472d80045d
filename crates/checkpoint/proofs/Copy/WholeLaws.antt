-- An inode of the image that stays as it is, with the bytes of its blocks: what is seen of it stays too. m and t are the image before and after, n and b the counts of inodes and blocks.
use Prim.Native.Nat.{ℕ, ◌+◌, ◌*◌, ◌/◌, ◌%◌, ◌≤◌, ◌<◌}
use mathlib.Core.Path.{◌≡◌, refl, sym, ap, ◌∙◌}
use mathlib.Core.Logic.{◌≢◌}
use mathlib.Core.Bool.{Bool, true, false}
use mathlib.Core.List.{List}
use native.Mathlib.Omega.{arith}
use lib.ListN.{get_or}
use Rattle.bounded.specs.Search.{pick}
use Rattle.bounded.specs.Table.{table}
use Rattle.bounded.proofs.TableLaws.{table_ext}
use Rattle.bounded.proofs.CaseLaws.{in_range, is_below}
use Rattle.bounded.proofs.RangeLaws.{within, within_in, within_out, below_in, below_out}
use Rattle.layout.specs.Sizes.{most_file_bytes}
use Rattle.layout.specs.Inode.{kind_of, size_of, parent_of, file_kind}
use Rattle.blocks.specs.Block.{block_of, blocks_used, bytes_place, kth_block}
use Rattle.ledger.proofs.BytesLaws.{place_used, used_limits}
use Rattle.names.specs.Entry.{entry_inode}
use Rattle.directory.specs.Slot.{most_slots, slots}
use Rattle.sound.specs.Place.{dir_of, slot_of, is_slot, entry_at, naming}
use Rattle.sound.specs.Inode.{InodeSound}
use Rattle.sound.proofs.PlaceLaws.{slot_is, naming_slot}
use Rattle.preservation.proofs.SameLaws.{SameInode, SameBlock}
use Rattle.preservation.proofs.KeepLaws.{inode_kept, slot_kept, same_slots, entry_kept}
use Rattle.growth.specs.Extend.{file_byte}
use Rattle.content.specs.Content.{file_bytes}
use Rattle.copy_theory.specs.Deed.{Alike}
use Rattle.checkpoint.proofs.Copy.Seen.{shelf_of}

pub record Whole (m t : List ℕ) (n i : ℕ) : Type 0 where
  pub inode : SameInode m t n i
  pub blocks : (k : ℕ) → k < blocks_used (size_of m i) → SameBlock m t n (kth_block m n i k)

-- it stays sound
pub whole_sound : {m t : List ℕ} {n i : ℕ} (b : ℕ) → Whole m t n i → InodeSound m n b i → InodeSound t n b i
whole_sound {m} {t} {n} {i} b w h =
    inode_kept m t n b i w.inode (λ _ z. w.blocks (bytes_place (size_of m i) (size_of m i / 64)) (place_used (size_of m i) (size_of m i / 64) (omega arith))) h

-- a file keeps its bytes
pub whole_bytes : {m t : List ℕ} {n i : ℕ} → Whole m t n i → size_of m i ≤ most_file_bytes → file_bytes t n i 0 (size_of t i) ≡ file_bytes m n i 0 (size_of m i)
unfolding file_bytes
whole_bytes {m} {t} {n} {i} w l =
    ap (λ (z : ℕ). table (λ j. file_byte t n i (0 + j)) z) w.inode.size
    ∙ table_ext (λ j. file_byte t n i (0 + j)) (λ j. file_byte m n i (0 + j)) (size_of m i) (λ j a. at (0 + j) (omega arith))
  where
    at : (x : ℕ) → x < size_of m i → file_byte t n i x ≡ file_byte m n i x
    at x a =
        let u = place_used (size_of m i) (x / 64) (omega arith) in
        let few = (used_limits (size_of m i)).0 l in
        unfold file_byte in
        (ap (λ (z : ℕ). get_or (block_of t n (kth_block t n i (bytes_place z (x / 64)))) (x % 64) 0) w.inode.size
        ∙ ap (λ (c : ℕ). get_or (block_of t n c) (x % 64) 0) (w.inode.blocks (bytes_place (size_of m i) (x / 64)) (omega arith))
        ∙ ap (λ (y : List ℕ). get_or y (x % 64) 0) (w.blocks (bytes_place (size_of m i) (x / 64)) u))

-- a directory keeps its slots and their entries
module _ {m t : List ℕ} {n : ℕ} (p : ℕ) (w : Whole m t n (dir_of p)) where
  pub whole_slot : is_slot t p ≡ is_slot m p
  whole_slot = slot_kept m t p w.inode.kind (λ _. same_slots w.inode)

  pub whole_entry : is_slot m p ≡ true → entry_at t n p ≡ entry_at m n p
  unfolding entry_at
  whole_entry e =
      let r = ((slot_is m p).to e).1 in
      let q : slot_of p / 4 < blocks_used (size_of m (dir_of p)) = unfold slots in omega arith in
      entry_kept m t n (dir_of p) (slot_of p) (w.inode.blocks (slot_of p / 4) (omega arith)) (w.blocks (slot_of p / 4) q)

-- ---- images of which all that is in use stays
pub record SameImage (m t : List ℕ) (n : ℕ) : Type 0 where
  pub kinds : (i : ℕ) → 1 ≤ i → i ≤ n → kind_of t i ≡ kind_of m i
  pub sizes : (i : ℕ) → 1 ≤ i → i ≤ n → size_of t i ≡ size_of m i
  pub parents : (i : ℕ) → 1 ≤ i → i ≤ n → parent_of t i ≡ parent_of m i
  pub slots : (p : ℕ) → p < most_slots * n → is_slot t p ≡ is_slot m p
  pub entries : (p : ℕ) → p < most_slots * n → is_slot m p ≡ true → entry_at t n p ≡ entry_at m n p
  pub bytes : (i : ℕ) → 1 ≤ i → i ≤ n → kind_of m i ≡ file_kind → file_bytes t n i 0 (size_of t i) ≡ file_bytes m n i 0 (size_of m i)

module _ {m t : List ℕ} {n : ℕ} (h : SameImage m t n) where
  pub image_naming_lem : (p : ℕ) → p < most_slots * n → naming t n p ≡ naming m n p
  unfolding naming
  image_naming_lem p l = go (is_slot m p) refl
    where
      go : (x : Bool) → is_slot m p ≡ x → pick (is_slot t p) (entry_inode (entry_at t n p)) 0 ≡ pick (is_slot m p) (entry_inode (entry_at m n p)) 0
      go true e = rw (h.slots p l, h.entries p l e)
      go false e = rw (h.slots p l, e)

  pub image_names : (q : ℕ) → (shelf_of n t).names q ≡ (shelf_of n m).names q
  unfolding shelf_of
  image_names q =
      is_below (most_slots * n) q (λ l. below_in (most_slots * n) (naming t n) q l ∙ image_naming_lem q l ∙ sym (below_in (most_slots * n) (naming m n) q l))
      (λ l. below_out (most_slots * n) (naming t n) q l ∙ sym (below_out (most_slots * n) (naming m n) q l))

  pub image_entries : (q : ℕ) → (shelf_of n m).names q ≢ 0 → (shelf_of n t).entry q ≡ (shelf_of n m).entry q
  unfolding shelf_of
  image_entries q z =
      is_below (most_slots * n) q
      (λ l. let e = below_in (most_slots * n) (naming m n) q l in h.entries q l (naming_slot m n q (omega arith)))
      (λ l. absurd (z (below_out (most_slots * n) (naming m n) q l)))

  -- a field of an inode, cut to the range
  field : (f g : ℕ → ℕ) → ((i : ℕ) → 1 ≤ i → i ≤ n → g i ≡ f i) → (i : ℕ) → within n g i ≡ within n f i
  field f g e i = in_range n i (λ l k. within_in n g i l k ∙ e i l k ∙ sym (within_in n f i l k)) (λ o. within_out n g i o ∙ sym (within_out n f i o))

  pub image_alike : (i : ℕ) → Alike (shelf_of n m) (shelf_of n t) i
  unfolding shelf_of
  image_alike i = record {
    kind = field (kind_of m) (kind_of t) h.kinds i;
    parent = field (parent_of m) (parent_of t) h.parents i;
    size = field (size_of m) (size_of t) h.sizes i;
    bytes = λ e.
        in_range n i (λ l k. h.bytes i l k (sym (within_in n (kind_of m) i l k) ∙ e)) (λ o. let z = within_out n (kind_of m) i o in absurd (omega arith));
  }
