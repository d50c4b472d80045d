-- What the image's directories name stays while a short file is copied: for the counts of names that a burst keeps. m and t are the image before and after a step, n is the inode count, l the locked inode.
use Prim.Native.Nat.{ℕ, ◌*◌, ◌/◌, ◌≤◌, ◌<◌}
use mathlib.Core.Path.{◌≡◌, refl, sym, ap, ◌∙◌}
use mathlib.Core.Logic.{◌≢◌}
use mathlib.Core.Bool.{Bool, true, false, not, ◌&&◌}
use mathlib.Core.List.{List}
use native.Mathlib.Decide.{ℕ_discrete}
use native.Mathlib.Omega.{arith}
use borrow.Author.Tests.{eqb-false, ne_eqb, not-true}
use lib.Dec.{eqb}
use Rattle.bounded.specs.Search.{pick}
use Rattle.layout.specs.Sizes.{address_count}
use Rattle.layout.specs.Inode.{kind_of, address_of, address_index, directory_kind}
use Rattle.blocks.specs.Block.{block_of, is_long, kth_block}
use Rattle.blocks.proofs.KthLaws.{kth_direct}
use Rattle.names.specs.Entry.{entry_inode}
use Rattle.directory.specs.Slot.{most_slots, entry_of}
use Rattle.sound.specs.Place.{dir_of, slot_of}
use Rattle.preservation.proofs.SameLaws.{InInode}
use Rattle.preservation.proofs.KeepLaws.{entry_kept}
use Rattle.checkpoint.specs.Image.{slot_names, has_slot, image_naming}
use Rattle.checkpoint.proofs.Step.BlockLaws.{SameAttributes}

-- ---- slot u of inode d
-- of one that is no directory
no_names : (m : List ℕ) (n d u : ℕ) → kind_of m d ≢ directory_kind → slot_names m n d u ≡ 0
unfolding slot_names has_slot
no_names m n d u q = rw (ne_eqb (kind_of m d) directory_kind q)

-- of one with the same kind, addresses and entries
same_names_lem : (m t : List ℕ) (n d u : ℕ) → kind_of t d ≡ kind_of m d → kth_block t n d (u / 4) ≡ kth_block m n d (u / 4) → (kth_block m n d (u / 4) ≢ 0 → entry_of t n d u ≡ entry_of m n d u) → slot_names t n d u ≡ slot_names m n d u
unfolding slot_names has_slot
same_names_lem m t n d u a b h = rw (a, b) (go (eqb (kind_of m d) directory_kind) (not (eqb (kth_block m n d (u / 4)) 0)) (λ y. ap entry_inode (h (eqb-false (kth_block m n d (u / 4)) 0 (not-true _ y)))))
  where
    go : (x y : Bool) → (y ≡ true → entry_inode (entry_of t n d u) ≡ entry_inode (entry_of m n d u)) → pick (x && y) (entry_inode (entry_of t n d u)) 0 ≡ pick (x && y) (entry_inode (entry_of m n d u)) 0
    go true true h = h refl
    go true false h = refl
    go false y h = refl

-- ---- a block step: block c, which no address names, is taken, and the k-th address of l names it
module _ {m t : List ℕ} {n : ℕ} (w : SameAttributes m t n) (l k c : ℕ) (bytes : (a : ℕ) → 1 ≤ a → a ≢ c → block_of t n a ≡ block_of m n a)
    (else : (x : ℕ) → x < address_count * n → x ≢ address_index l k → address_of t n x ≡ address_of m n x) (free : (x : ℕ) → x < address_count * n → address_of m n x ≢ c)
    (low : 1 ≤ l) (few : k < address_count) (file : kind_of m l ≢ directory_kind) where
  pub copy_naming : (p : ℕ) → p < most_slots * n → image_naming t n p ≡ image_naming m n p
  copy_naming p u = go (ℕ_discrete (dir_of p) l)
    where
      place : (s : List ℕ) → kth_block s n (dir_of p) (slot_of p / 4) ≡ address_of s n (address_index (dir_of p) (slot_of p / 4))
      place s = kth_direct (is_long s (dir_of p)) s n (dir_of p) (slot_of p / 4) (omega arith)

      go : Dec (dir_of p ≡ l) → image_naming t n p ≡ image_naming m n p
      go (yes q) =
          let a = w.kinds (dir_of p) (omega arith) (omega arith) in
          let b : kind_of m (dir_of p) ≢ directory_kind = λ y. file (ap (kind_of m) (sym q) ∙ y) in
          no_names t n (dir_of p) (slot_of p) (λ y. b (sym a ∙ y)) ∙ sym (no_names m n (dir_of p) (slot_of p) b)
      go (no q) =
          let a = place t ∙ else (address_index (dir_of p) (slot_of p / 4)) (omega arith) (λ y. q (omega arith)) ∙ sym (place m) in
          same_names_lem m t n (dir_of p) (slot_of p) (w.kinds (dir_of p) (omega arith) (omega arith)) a
          (λ y. entry_kept m t n (dir_of p) (slot_of p) a (bytes (kth_block m n (dir_of p) (slot_of p / 4)) (omega arith) (λ z. free (address_index (dir_of p) (slot_of p / 4)) (omega arith) (sym (place m) ∙ z))))

-- ---- the step that closes l, which was no directory and is none
module _ {m t : List ℕ} {n l : ℕ} (w : InInode m t n l) (file : kind_of m l ≢ directory_kind) (still : kind_of t l ≢ directory_kind) where
  pub close_naming : (p : ℕ) → p < most_slots * n → image_naming t n p ≡ image_naming m n p
  close_naming p u = go (ℕ_discrete (dir_of p) l)
    where
      go : Dec (dir_of p ≡ l) → image_naming t n p ≡ image_naming m n p
      go (yes q) = no_names t n (dir_of p) (slot_of p) (λ y. still (ap (kind_of t) (sym q) ∙ y)) ∙ sym (no_names m n (dir_of p) (slot_of p) (λ y. file (ap (kind_of m) (sym q) ∙ y)))
      go (no q) =
          let o = w.others (dir_of p) (omega arith) (omega arith) q in
          same_names_lem m t n (dir_of p) (slot_of p) o.kind (o.blocks (slot_of p / 4) (omega arith)) (λ _. entry_kept m t n (dir_of p) (slot_of p) (o.blocks (slot_of p / 4) (omega arith)) (w.bytes (kth_block m n (dir_of p) (slot_of p / 4))))
