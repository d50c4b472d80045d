-- What is free in a store: the lowest free inode and block, and the counts of them. n and b are the counts of inodes and blocks.
use Rattle.std.specs.Prelude.{Some}
use Prim.Native.Nat.{ℕ, ◌+◌, ◌-◌, ◌≤◌, ◌<◌}
use mathlib.Core.Path.{◌≡◌, ap, subst}
use mathlib.Core.Bool.{Bool, true, false, not}
use mathlib.Core.List.{List}
use native.Mathlib.Omega.{arith}
use borrow.Author.Tests.{eqb-true, not-true}
use lib.Dec.{eqb}
use Rattle.bounded.specs.Count.{count_to}
use Rattle.bounded.proofs.CountLaws.{count_ext, count_le, count_pos, count_some}
use Rattle.bounded.proofs.SearchLaws.{found_lowest, lowest_of, lowest_found}
use Rattle.layout.specs.Sizes.{most_inodes, most_store_blocks}
use Rattle.layout.specs.Header.{header_of}
use Rattle.layout.specs.Inode.{kind_of, free_kind, inode_free, free_inode}
use Rattle.blocks.specs.Free.{lowest_by, block_named, free_block, block_free}
use Rattle.sound.specs.Sound.{Sound, inodes_in, blocks_in}
use Rattle.sound.specs.declared.Form.TheVariants.{Store}

-- ---- inodes
pub record FreeInode (s : List ℕ) (n i : ℕ) : Type 0 where
  pub low : 1 ≤ i
  pub high : i ≤ n
  pub kind : kind_of s i ≡ free_kind

-- the lowest one
pub free_inode_lem : (s : List ℕ) (n i : ℕ) → free_inode s n ≡ Some i → FreeInode s n i
unfolding free_inode
free_inode_lem s n i e =
    let r = found_lowest (inode_free s) 1 n i e in
    let l = r.below in
    record { low = r.from; high = omega arith; kind = eqb-true (kind_of s i) free_kind r.holds }

-- it is counted
pub inode_counted : (s : List ℕ) (n i : ℕ) → free_inode s n ≡ Some i → 1 ≤ count_to (inode_free s) n
unfolding free_inode
inode_counted s n i e =
    let r = found_lowest (inode_free s) 1 n i e in
    let l = r.from in
    let m = r.below in
    let q : i ≡ i - 1 + 1 = omega arith in
    count_pos (λ k. inode_free s (k + 1)) n (i - 1) (omega arith) (subst (λ (j : ℕ). eqb (kind_of s j) 0 ≡ true) q r.holds)

-- kinds that are the same give the same free inodes
pub same_free : (s t : List ℕ) (n : ℕ) → ((j : ℕ) → 1 ≤ j → j ≤ n → kind_of t j ≡ kind_of s j) → count_to (inode_free t) n ≡ count_to (inode_free s) n
same_free s t n h = count_ext (λ k. inode_free t (k + 1)) (λ k. inode_free s (k + 1)) n (λ k l. ap (λ (x : ℕ). eqb x free_kind) (h (k + 1) (omega arith) (omega arith)))

-- ---- blocks
module _ (s : List ℕ) (n b : ℕ) where
  pub record FreeBlock (c : ℕ) : Type 0 where
    pub low : 1 ≤ c
    pub high : c ≤ b
    pub free : block_named s n c ≡ false

  -- the lowest one
  pub free_block_lem : (c : ℕ) → free_block s n b ≡ Some c → FreeBlock c
  unfolding lowest_by
  free_block_lem c e =
      let r = found_lowest (λ a. not (block_named s n a)) 1 b c e in
      let l = r.below in
      record { low = r.from; high = omega arith; free = not-true (block_named s n c) r.holds }

  -- one that is free is counted
  pub block_counted : (c : ℕ) → FreeBlock c → 1 ≤ count_to (block_free s n) b
  block_counted c w =
      let l = w.low in
      let m = w.high in
      let q : c ≡ c - 1 + 1 = omega arith in
      let u : block_named s n (c - 1 + 1) ≡ false = subst (λ (j : ℕ). block_named s n j ≡ false) q w.free in
      count_pos (λ k. block_free s n (k + 1)) b (c - 1) (omega arith) (rw u)

  -- and where one is counted, one is found
  pub block_found : 1 ≤ count_to (block_free s n) b → (c : ℕ) × (free_block s n b ≡ Some c)
  unfolding lowest_by
  block_found l =
      let f : ℕ → Bool = λ a. not (block_named s n a) in
      let r = count_some (λ k. block_free s n (k + 1)) b l in
      let k = r.0 in
      let a : k < b = r.1 in
      let d = lowest_of f 1 b (k + 1) (omega arith) (omega arith) r.2 in
      (d.0, lowest_found f 1 b d.0 d.1)

-- ---- the counts of a sound store are small
module _ (s : List ℕ) (h : Sound Store s) where
  pub few_free_inodes : (header_of s).free_inodes ≤ most_inodes
  few_free_inodes =
      let a = h.free_inodes in
      let b = count_le (λ k. inode_free s (k + 1)) (inodes_in s) in
      let c = h.framed.most_inodes_lem in
      omega arith

  pub few_free_blocks : (header_of s).free_blocks ≤ most_store_blocks
  few_free_blocks =
      let a = h.free_blocks in
      let b = count_le (λ k. block_free s (inodes_in s) (k + 1)) (blocks_in s) in
      let c = h.framed.most_blocks_lem in
      omega arith
