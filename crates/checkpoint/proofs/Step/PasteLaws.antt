-- The entries of a directory block as it is copied. d is the desk, n the inode count, i the directory, k its block, x the block's bytes.
use Prim.Native.Nat.{ℕ, zero, suc, ◌+◌, ◌*◌, ◌/◌, ◌%◌, ◌≤◌, ◌<◌}
use mathlib.Core.Path.{◌≡◌, refl, sym, ap, ◌∙◌}
use mathlib.Core.Logic.{◌≢◌}
use mathlib.Core.Bool.{Bool, true, false, ◌&&◌}
use mathlib.Core.List.{List}
use native.Mathlib.Decide.{ℕ_discrete}
use native.Mathlib.Omega.{arith}
use lib.Dec.{eqb}
use borrow.Author.Tests.{eq-eqb, ne_eqb, eqb-true}
use lib.ListN.{length, replicate, length-replicate}
use Rattle.bounded.specs.Search.{pick}
use Rattle.bounded.proofs.BoolLaws.{clash, fails, and_left, and_right}
use Rattle.octets.specs.Octets.{part, splice}
use Rattle.octets.proofs.PartLaws.{part_apart, part_same}
use Rattle.layout.specs.Sizes.{address_place, block_bytes}
use Rattle.layout.specs.Inode.{kind_of, directory_kind}
use Rattle.blocks.specs.Block.{block_of, is_long, kth_block}
use Rattle.preservation.proofs.StoreLaws.{dir_short}
use Rattle.names.specs.Entry.{entry_bytes, entry_inode}
use Rattle.directory.specs.Slot.{slots_in_block, entry_of}
use Rattle.desk.specs.Desk.{mark_of, is_copied}
use Rattle.preservation.proofs.KeepLaws.{entry_in}
use Rattle.checkpoint.specs.Copier.{copied_entry, copied_entries, copied_block}
use Rattle.checkpoint.proofs.Copy.NoteLaws.{length_entries}

-- "a marked entry that names a copied inode is zeroed": the entry e of slot t
unfoldable pub pasted : List ℕ → ℕ → ℕ → ℕ → List ℕ → List ℕ
pasted d n i t e = pick (mark_of d n i t && is_copied d n (entry_inode e)) (replicate entry_bytes 0) e

-- it is zeroed, or it stays
pub pasted_either : (d : List ℕ) (n i t : ℕ) (e : List ℕ) {P : Type 0} → (mark_of d n i t ≡ true → is_copied d n (entry_inode e) ≡ true → pasted d n i t e ≡ replicate entry_bytes 0 → P)
    → ((mark_of d n i t ≡ true → is_copied d n (entry_inode e) ≡ true → ⊥) → pasted d n i t e ≡ e → P) → P
unfolding pasted
pasted_either d n i t e {P} f g = go (mark_of d n i t) (is_copied d n (entry_inode e)) refl refl
  where
    go : (a b : Bool) → mark_of d n i t ≡ a → is_copied d n (entry_inode e) ≡ b → P
    go true true p q = f p q (rw (p, q))
    go true false p q = g (λ _ z. clash (is_copied d n (entry_inode e)) z q) (rw (p, q))
    go false b p q = g (λ z _. clash (mark_of d n i t) z p) (rw p)

module _ (d : List ℕ) (n i k : ℕ) where
  -- ---- one entry
  module _ (x : List ℕ) (j : ℕ) where
    abbrev test : Bool
    test = mark_of d n i (slots_in_block * k + j) && is_copied d n (entry_inode (part x (entry_bytes * j) entry_bytes))

    zeros : length (replicate {A = ℕ} entry_bytes 0) ≡ entry_bytes
    zeros = length-replicate {A = ℕ} entry_bytes 0

    one_other : (t : ℕ) → t ≢ j → part (copied_entry d n i k x j) (entry_bytes * t) entry_bytes ≡ part x (entry_bytes * t) entry_bytes
    unfolding copied_entry
    one_other t h = go test
      where
        go : (b : Bool) → part (pick b (splice x (entry_bytes * j) (replicate entry_bytes 0)) x) (entry_bytes * t) entry_bytes ≡ part x (entry_bytes * t) entry_bytes
        go true = let z = zeros in part_apart x (entry_bytes * t) entry_bytes (entry_bytes * j) (replicate entry_bytes 0) (omega arith)
        go false = refl

    one_same : entry_bytes * j + entry_bytes ≤ length x → part (copied_entry d n i k x j) (entry_bytes * j) entry_bytes ≡ pasted d n i (slots_in_block * k + j) (part x (entry_bytes * j) entry_bytes)
    unfolding copied_entry pasted
    one_same l = go test
      where
        go : (b : Bool) → part (pick b (splice x (entry_bytes * j) (replicate entry_bytes 0)) x) (entry_bytes * j) entry_bytes ≡ pick b (replicate entry_bytes 0) (part x (entry_bytes * j) entry_bytes)
        go true = part_same x (entry_bytes * j) (replicate entry_bytes 0) entry_bytes zeros l
        go false = refl

  -- ---- the first m entries
  module _ (x : List ℕ) where
    past : (m t : ℕ) → m ≤ t → part (copied_entries d n i k x m) (entry_bytes * t) entry_bytes ≡ part x (entry_bytes * t) entry_bytes
    unfolding copied_entries
    past zero t l = refl
    past (suc m) t l = one_other (copied_entries d n i k x m) m t (λ z. omega arith) ∙ past m t (omega arith)

    pub entry_pasted : (m t : ℕ) → t < m → entry_bytes * m ≤ length x → part (copied_entries d n i k x m) (entry_bytes * t) entry_bytes ≡ pasted d n i (slots_in_block * k + t) (part x (entry_bytes * t) entry_bytes)
    unfolding copied_entries
    entry_pasted zero t l f = absurd (omega arith)
    entry_pasted (suc m) t l f = go (ℕ_discrete t m) (λ z. entry_pasted m t z (omega arith))
      where
        go : Dec (t ≡ m) → (t < m → part (copied_entries d n i k x m) (entry_bytes * t) entry_bytes ≡ pasted d n i (slots_in_block * k + t) (part x (entry_bytes * t) entry_bytes))
            → part (copied_entry d n i k (copied_entries d n i k x m) m) (entry_bytes * t) entry_bytes ≡ pasted d n i (slots_in_block * k + t) (part x (entry_bytes * t) entry_bytes)
        go (yes e) r =
            let z = length_entries d n i k x m in
            rw e (one_same (copied_entries d n i k x m) m (omega arith) ∙ ap (pasted d n i (slots_in_block * k + m)) (past m m (omega arith)))
        go (no e) r = one_other (copied_entries d n i k x m) m t e ∙ r (omega arith)

-- ---- a block as it is copied
module _ (s d : List ℕ) (n i k : ℕ) where
  pub file_block : kind_of s i ≢ directory_kind → (is_long s i ≡ true → k ≢ address_place) → copied_block s d n i k ≡ block_of s n (kth_block s n i k)
  unfolding copied_block
  file_block h f = rw (fails (is_long s i && eqb k address_place) (λ e. f (and_left (is_long s i) (eqb k address_place) e) (eqb-true k address_place (and_right (is_long s i) (eqb k address_place) e))), ne_eqb (kind_of s i) directory_kind h)

  pub dir_block : kind_of s i ≡ directory_kind → copied_block s d n i k ≡ copied_entries d n i k (block_of s n (kth_block s n i k)) slots_in_block
  unfolding copied_block
  dir_block h = rw (dir_short s i h, eq-eqb (kind_of s i) directory_kind h)

-- the entry in slot t of a directory i, where its image block is as a step would copy it
pub slot_pasted : (s m d : List ℕ) (n i t : ℕ) → kind_of s i ≡ directory_kind → length (block_of s n (kth_block s n i (t / 4))) ≡ block_bytes
    → block_of m n (kth_block m n i (t / 4)) ≡ copied_block s d n i (t / 4) → entry_of m n i t ≡ pasted d n i t (entry_of s n i t)
slot_pasted s m d n i t h f e =
    let x = block_of s n (kth_block s n i (t / 4)) in
    let q : slots_in_block * (t / 4) + t % 4 ≡ t = omega arith in
    entry_in m n i t ∙ ap (λ (y : List ℕ). part y (16 * (t % 4)) 16) (e ∙ dir_block s d n i (t / 4) h)
    ∙ entry_pasted d n i (t / 4) x slots_in_block (t % 4) (omega arith) (omega arith)
    ∙ ap (λ (u : ℕ). pasted d n i u (part x (16 * (t % 4)) 16)) q ∙ ap (pasted d n i t) (sym (entry_in s n i t))
