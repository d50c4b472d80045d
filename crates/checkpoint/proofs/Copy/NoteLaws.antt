-- What a header written to the desk leaves: copied inodes, marks, and what a step would copy. s is the store, m the image, d the desk, n the inode count.
use Prim.Native.Nat.{ℕ, zero, suc, ◌+◌, ◌*◌, ◌≤◌, ◌<◌}
use mathlib.Core.Path.{◌≡◌, refl, ap, ap₂, ◌∙◌}
use mathlib.Core.Bool.{Bool, true, false, ◌&&◌}
use mathlib.Core.List.{List}
use borrow.Author.Tests.{eq-eqb}
use lib.Dec.{eqb, leb}
use lib.ListN.{length, replicate, length-replicate}
use native.Mathlib.Omega.{arith}
use Rattle.bounded.specs.Search.{pick}
use Rattle.bounded.specs.Sum.{sum}
use Rattle.octets.specs.Octets.{part, splice}
use Rattle.octets.proofs.PartLaws.{length_splice}
use Rattle.layout.specs.Sizes.{address_place, block_bytes}
use Rattle.layout.specs.Inode.{kind_of, size_of, directory_kind}
use Rattle.blocks.specs.Block.{block_of, blocks_used, is_long, kth_block}
use Rattle.names.specs.Entry.{entry_bytes, entry_inode}
use Rattle.directory.specs.Slot.{slots_in_block}
use Rattle.desk.specs.declared.Desk.{Desk}
use Rattle.desk.specs.Desk.{put_desk, mark_of, is_copied}
use Rattle.desk.proofs.DeskLaws.{copied_put_desk, mark_put_desk}
use Rattle.checkpoint.specs.Copier.{copied_entry, copied_entries, copied_block}
use Rattle.checkpoint.proofs.Copy.Seen.{marked_at}
use Rattle.checkpoint.proofs.Copy.Laid.{cost}
use Rattle.checkpoint.proofs.Copy.SeenLaws.{marked_same}
use Rattle.bounded.proofs.SumLaws.{sum_ext}

-- ---- desks with the same copied inodes and the same marks
pub record SameNotes (d e : List ℕ) (n : ℕ) : Type 0 where
  pub copied : (i : ℕ) → is_copied e n i ≡ is_copied d n i
  pub marks : (i t : ℕ) → mark_of e n i t ≡ mark_of d n i t

pub put_desk_lem : (d : List ℕ) (h : Desk) (n : ℕ) → SameNotes d (put_desk d h) n
unfolding is_copied
put_desk_lem d h n = record {
  copied = λ i. ap (λ (x : ℕ). leb 1 i && (leb i n && eqb x 1)) (copied_put_desk d h i);
  marks = λ i t. mark_put_desk d h n i t;
}

-- ---- the block that a step copies
-- "it starts zeroed in the image"
pub address_block_lem : (s d : List ℕ) (n i k : ℕ) → is_long s i ≡ true → k ≡ address_place → copied_block s d n i k ≡ replicate block_bytes 0
unfolding copied_block
address_block_lem s d n i k p q = rw (p, eq-eqb k address_place q)

-- it depends on the marks of its directory and on the copied inodes
module _ (d e : List ℕ) (n i k : ℕ) (copied : (j : ℕ) → is_copied e n j ≡ is_copied d n j)
    (marks : (t : ℕ) → t < slots_in_block → mark_of e n i (slots_in_block * k + t) ≡ mark_of d n i (slots_in_block * k + t)) where
  copied_entry_lem : (x : List ℕ) (j : ℕ) → j < slots_in_block → copied_entry e n i k x j ≡ copied_entry d n i k x j
  unfolding copied_entry
  copied_entry_lem x j l = rw (marks j l, copied (entry_inode (part x (entry_bytes * j) entry_bytes)))

  copied_entries_lem : (x : List ℕ) (j : ℕ) → j ≤ slots_in_block → copied_entries e n i k x j ≡ copied_entries d n i k x j
  unfolding copied_entries
  copied_entries_lem x zero l = refl
  copied_entries_lem x (suc j) l =
      copied_entry_lem (copied_entries e n i k x j) j (omega arith) ∙ ap (λ (y : List ℕ). copied_entry d n i k y j) (copied_entries_lem x j (omega arith))

  pub copied_block_lem : (s : List ℕ) → copied_block s e n i k ≡ copied_block s d n i k
  unfolding copied_block
  copied_block_lem s = rw (copied_entries_lem (block_of s n (kth_block s n i k)) slots_in_block (omega arith))

-- its length is that of a block
module _ (d : List ℕ) (n i k : ℕ) where
  length_entry : (x : List ℕ) (j : ℕ) → length (copied_entry d n i k x j) ≡ length x
  unfolding copied_entry
  length_entry x j = go (mark_of d n i (slots_in_block * k + j) && is_copied d n (entry_inode (part x (entry_bytes * j) entry_bytes)))
    where
      go : (t : Bool) → length (pick t (splice x (entry_bytes * j) (replicate entry_bytes 0)) x) ≡ length x
      go true = length_splice x (entry_bytes * j) (replicate entry_bytes 0)
      go false = refl

  pub length_entries : (x : List ℕ) (j : ℕ) → length (copied_entries d n i k x j) ≡ length x
  unfolding copied_entries
  length_entries x zero = refl
  length_entries x (suc j) = length_entry (copied_entries d n i k x j) j ∙ length_entries x j

  pub length_copied_block : (s : List ℕ) → length (block_of s n (kth_block s n i k)) ≡ block_bytes → length (copied_block s d n i k) ≡ block_bytes
  unfolding copied_block
  length_copied_block s f = blank (is_long s i && eqb k address_place)
    where
      go : (t : Bool) → length (pick t (copied_entries d n i k (block_of s n (kth_block s n i k)) slots_in_block) (block_of s n (kth_block s n i k))) ≡ length (block_of s n (kth_block s n i k))
      go true = length_entries (block_of s n (kth_block s n i k)) slots_in_block
      go false = refl

      blank : (t : Bool) → length (pick t (replicate {A = ℕ} block_bytes 0) (pick (eqb (kind_of s i) directory_kind) (copied_entries d n i k (block_of s n (kth_block s n i k)) slots_in_block) (block_of s n (kth_block s n i k)))) ≡ block_bytes
      blank true = length-replicate {A = ℕ} block_bytes 0
      blank false = go (eqb (kind_of s i) directory_kind) ∙ f

-- ---- the marks that are seen
pub same_marked : {d e : List ℕ} {n : ℕ} → SameNotes d e n → (p : ℕ) → marked_at n e p ≡ marked_at n d p
same_marked {d} {e} {n} h p = marked_same n d e p h.marks

-- ---- the steps that were taken: the same where the copied inodes and the image's sizes are
pub same_costs : (m t d e : List ℕ) (n : ℕ) → ((i : ℕ) → is_copied e n i ≡ is_copied d n i) → ((i : ℕ) → 1 ≤ i → i ≤ n → size_of t i ≡ size_of m i) → sum (cost t e n) n ≡ sum (cost m d n) n
unfolding cost
same_costs m t d e n c z =
    sum_ext (cost t e n) (cost m d n) n
    (λ k l. ap₂ (λ (a : Bool) (b : ℕ). pick a (2 + blocks_used b) 0) (c (k + 1)) (z (k + 1) (omega arith) (omega arith)))
