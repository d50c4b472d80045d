-- What the view shows, in range: the readings of store, image and desk; and where it shows the same. n is the inode count.
use Prim.Native.Nat.{ℕ, ◌+◌, ◌*◌, ◌/◌, ◌%◌, ◌≤◌, ◌<◌}
use mathlib.Core.Path.{◌≡◌, refl, sym, ap, ◌∙◌}
use mathlib.Core.Logic.{◌≢◌}
use mathlib.Core.Bool.{true, false}
use mathlib.Core.List.{List}
use native.Mathlib.Omega.{arith}
use borrow.Author.Tests.{eq-eqb, le-leb, lt-ltb}
use lib.ListN.{get_or}
use Rattle.bounded.proofs.BoolLaws.{and-true}
use Rattle.bounded.proofs.ReflectLaws.{r_eq, r_le, r_and, r_says, reflects_ext}
use Rattle.bounded.proofs.TableLaws.{table_ext}
use Rattle.bounded.proofs.CaseLaws.{in_range}
use Rattle.bounded.proofs.RangeLaws.{within_in, within_out, below_in, below_out, within_some, below_some}
use Rattle.layout.specs.Sizes.{address_place, block_bytes, most_direct_bytes}
use Rattle.layout.specs.Inode.{kind_of, size_of, parent_of}
use Rattle.blocks.specs.Block.{block_of, blocks_used, bytes_place, kth_block}
use Rattle.ledger.proofs.BytesLaws.{place_used, place_bytes}
use Rattle.directory.specs.Slot.{most_slots}
use Rattle.desk.specs.Desk.{copied_of, mark_of, is_copied}
use Rattle.sound.specs.Inode.{InodeSound}
use Rattle.sound.specs.Place.{dir_of, slot_of, entry_at, naming}
use Rattle.sound.proofs.SoundLaws.{size_most}
use Rattle.preservation.proofs.SameLaws.{SameBody, SameBlock}
use Rattle.growth.specs.Extend.{file_byte}
use Rattle.content.specs.Content.{file_bytes}
use Rattle.copy_theory.specs.Deed.{Alike}
use Rattle.checkpoint.proofs.Copy.Seen.{shelf_of, marked_at}

module _ (n : ℕ) (s : List ℕ) where
  -- ---- places
  pub names_in : (p : ℕ) → p < most_slots * n → (shelf_of n s).names p ≡ naming s n p
  unfolding shelf_of
  names_in p l = below_in (most_slots * n) (naming s n) p l

  pub names_out : (p : ℕ) → most_slots * n ≤ p → (shelf_of n s).names p ≡ 0
  unfolding shelf_of
  names_out p l = below_out (most_slots * n) (naming s n) p l

  pub names_below : (p : ℕ) → (shelf_of n s).names p ≢ 0 → p < most_slots * n
  unfolding shelf_of
  names_below p h = below_some (most_slots * n) (naming s n) p h

  pub names_low : (p : ℕ) → (shelf_of n s).names p ≢ 0 → 1 ≤ naming s n p
  names_low p h = let e = names_in p (names_below p h) in omega arith

  pub entry_in : (p : ℕ) → (shelf_of n s).entry p ≡ entry_at s n p
  unfolding shelf_of
  entry_in p = refl

  -- ---- inodes
  pub kind_some : (i : ℕ) → (shelf_of n s).kind i ≢ 0 → (1 ≤ i) × (i ≤ n)
  unfolding shelf_of
  kind_some i h = within_some n (kind_of s) i h

  pub bytes_in : (i : ℕ) → (shelf_of n s).bytes i ≡ file_bytes s n i 0 (size_of s i)
  unfolding shelf_of
  bytes_in i = refl

  module _ (i : ℕ) (l : 1 ≤ i) (m : i ≤ n) where
    pub kind_in : (shelf_of n s).kind i ≡ kind_of s i
    unfolding shelf_of
    kind_in = within_in n (kind_of s) i l m

    pub parent_in : (shelf_of n s).parent i ≡ parent_of s i
    unfolding shelf_of
    parent_in = within_in n (parent_of s) i l m

    pub size_in : (shelf_of n s).size i ≡ size_of s i
    unfolding shelf_of
    size_in = within_in n (size_of s) i l m

  module _ (i : ℕ) (o : 1 ≤ i → i ≤ n → ⊥) where
    pub kind_out : (shelf_of n s).kind i ≡ 0
    unfolding shelf_of
    kind_out = within_out n (kind_of s) i o

    pub parent_out : (shelf_of n s).parent i ≡ 0
    unfolding shelf_of
    parent_out = within_out n (parent_of s) i o

    pub size_out : (shelf_of n s).size i ≡ 0
    unfolding shelf_of
    size_out = within_out n (size_of s) i o

-- ---- the bytes of a file, in blocks of the same bytes
pub bytes_same : (s t : List ℕ) (n i : ℕ) → size_of t i ≡ size_of s i → ((k : ℕ) → k < blocks_used (size_of s i) → (most_direct_bytes < size_of s i → k ≢ address_place) → block_of t n (kth_block t n i k) ≡ block_of s n (kth_block s n i k))
    → file_bytes t n i 0 (size_of t i) ≡ file_bytes s n i 0 (size_of s i)
unfolding file_bytes file_byte
bytes_same s t n i z e =
    rw z
    (table_ext _ _ (size_of s i) (λ j l. ap (λ (y : List ℕ). get_or y ((0 + j) % block_bytes) 0) (e (bytes_place (size_of s i) ((0 + j) / block_bytes)) (place_used (size_of s i) ((0 + j) / block_bytes) (omega arith)) (place_bytes (size_of s i) ((0 + j) / block_bytes)))))

-- an inode with the same bytes in its blocks
pub alike : (s t : List ℕ) (n b i : ℕ) → (1 ≤ i → i ≤ n → SameBody s t n i) → (1 ≤ i → i ≤ n → parent_of t i ≡ parent_of s i) → ((c : ℕ) → SameBlock s t n c) → (1 ≤ i → i ≤ n → InodeSound s n b i)
    → Alike (shelf_of n s) (shelf_of n t) i
unfolding blocks_used
alike s t n b i e f g h =
    record {
      kind = in_range n i (λ l m. kind_in n t i l m ∙ (e l m).kind ∙ sym (kind_in n s i l m)) (λ o. kind_out n t i o ∙ sym (kind_out n s i o));
      parent = in_range n i (λ l m. parent_in n t i l m ∙ f l m ∙ sym (parent_in n s i l m)) (λ o. parent_out n t i o ∙ sym (parent_out n s i o));
      size = in_range n i (λ l m. size_in n t i l m ∙ (e l m).size ∙ sym (size_in n s i l m)) (λ o. size_out n t i o ∙ sym (size_out n s i o));
      bytes = λ k.
          let r = kind_some n s i (λ z. let y = sym k ∙ z in omega arith) in
          let v = e r.0 r.1 in
          let w = size_most (h r.0 r.1) in
          bytes_in n t i
          ∙ bytes_same s t n i v.size (λ j l _. ap (block_of t n) (v.blocks j (omega arith)) ∙ g (kth_block s n i j))
          ∙ sym (bytes_in n s i);
    }

-- a place of the marks, in range
pub marked_in : (n : ℕ) (d : List ℕ) (p : ℕ) → p < most_slots * n → marked_at n d p ≡ mark_of d n (dir_of p) (slot_of p)
unfolding marked_at
marked_in n d p l = rw (lt-ltb p (most_slots * n) l)

-- marks that are the same
pub marked_same : (n : ℕ) (d e : List ℕ) (p : ℕ) → ((i t : ℕ) → mark_of e n i t ≡ mark_of d n i t) → marked_at n e p ≡ marked_at n d p
unfolding marked_at
marked_same n d e p h = rw (h (dir_of p) (slot_of p))

-- number 0 is no copied inode
pub zero_new : (d : List ℕ) (n : ℕ) → is_copied d n 0 ≡ false
unfolding is_copied
zero_new d n = refl

-- a copied inode
pub copied_is : (d : List ℕ) (n i : ℕ) → 1 ≤ i → i ≤ n → copied_of d i ≡ 1 → is_copied d n i ≡ true
unfolding is_copied
copied_is d n i l m e = and-true _ _ (le-leb 1 i l) (and-true _ _ (le-leb i n m) (eq-eqb (copied_of d i) 1 e))

-- copied bytes that are the same in range tell the same
pub copied_like : (d e : List ℕ) (n i : ℕ) → (1 ≤ i → i ≤ n → copied_of e i ≡ copied_of d i) → is_copied e n i ≡ is_copied d n i
unfolding is_copied
copied_like d e n i h =
    reflects_ext
    (r_says (λ p. (p.0, (p.1.0, sym (h p.0 p.1.0) ∙ p.1.1))) (λ p. (p.0, (p.1.0, h p.0 p.1.0 ∙ p.1.1))) (r_and (r_le 1 i) (r_and (r_le i n) (r_eq (copied_of e i) 1))))
    (r_and (r_le 1 i) (r_and (r_le i n) (r_eq (copied_of d i) 1)))
