-- Where the blocks of an inode of a sound store stand, as the code finds them. n and b are the counts of inodes and blocks.
use Prim.Native.Nat.{ℕ, ◌+◌, ◌-◌, ◌*◌, ◌≤◌, ◌<◌}
use mathlib.Core.Path.{◌≡◌, sym, ap, ◌∙◌}
use mathlib.Core.Bool.{true, false}
use mathlib.Core.List.{List}
use native.Mathlib.Decide.{ℕ_discrete, dec_lt}
use native.Mathlib.Omega.{arith}
use lib.ListN.{length}
use Rattle.bounded.proofs.BoolLaws.{clash}
use Rattle.layout.specs.Sizes.{address_count, address_place, block_bytes, further_count, most_direct_bytes, most_image_blocks, most_inodes}
use Rattle.layout.specs.Inode.{kind_of, size_of, file_kind, directory_kind}
use Rattle.blocks.specs.Block.{block_at, blocks_used, is_long, further_of, kth_block, bytes_block}
use Rattle.blocks.proofs.KthLaws.{kth_direct, kth_further}
use Rattle.ledger.proofs.BytesLaws.{used_short, place_short, place_low, place_high}
use Rattle.sound.specs.Counted.{SoundStore}
use Rattle.sound.proofs.SoundLaws.{size_directory}
use Rattle.preservation.proofs.StoreLaws.{sized_at, blocks_of_lem}
use Rattle.preservation.proofs.KeepLaws.{body_of}
use Rattle.content.proofs.FileLaws.{long_over, over_long}

-- ---- the p-th block of bytes of a file
module _ (s : List ℕ) (n i p : ℕ) where
  pub bytes_low : p < address_place → kth_block s n i p ≡ bytes_block s n i p
  bytes_low l = ap (kth_block s n i) (sym (place_low (size_of s i) p l))

  pub bytes_high : is_long s i ≡ true → address_place ≤ p → kth_block s n i (p + 1) ≡ bytes_block s n i p
  bytes_high e l = ap (kth_block s n i) (sym (place_high (size_of s i) p (long_over s i e) l))

  module _ (k : kind_of s i ≡ file_kind) (e : is_long s i ≡ false) where
    pub short_under : size_of s i ≤ most_direct_bytes
    short_under = go (dec_lt 768 (size_of s i))
      where
        go : Dec (768 < size_of s i) → size_of s i ≤ 768
        go (yes l) = absurd (clash (is_long s i) (over_long s i k l) e)
        go (no l) = omega arith

    pub bytes_short : kth_block s n i p ≡ bytes_block s n i p
    bytes_short = ap (kth_block s n i) (sym (place_short (size_of s i) p short_under))

-- ---- behind twelve blocks there is an address block, and it lies inside
module _ {s : List ℕ} {n b : ℕ} (h : SoundStore s n b) (i : ℕ) (low : 1 ≤ i) (high : i ≤ n) (k : ℕ) (used : k < blocks_used (size_of s i)) (behind : address_count ≤ k) where
  over : address_count * block_bytes < size_of s i
  over = go (dec_lt 768 (size_of s i))
    where
      go : Dec (768 < size_of s i) → 768 < size_of s i
      go (yes a) = a
      go (no a) = let u = used_short (size_of s i) (omega arith) in absurd (omega arith)

  file : kind_of s i ≡ file_kind
  file = go (ℕ_discrete (kind_of s i) 0) (ℕ_discrete (kind_of s i) directory_kind)
    where
      go : Dec (kind_of s i ≡ 0) → Dec (kind_of s i ≡ 2) → kind_of s i ≡ 1
      go (yes a) _ = let z = (((body_of h).inodes i low high).free a).1.0 in let o = over in absurd (omega arith)
      go (no a) (yes d) = let z = size_directory ((body_of h).inodes i low high) d in let o = over in absurd (omega arith)
      go (no a) (no d) = let z = ((body_of h).inodes i low high).kind in omega arith

  is_long_lem : is_long s i ≡ true
  is_long_lem = over_long s i file over

  pub far_block : (a : ℕ) → a ≡ kth_block s n i address_place → (n ≤ most_inodes) × (1 ≤ a) × (a ≤ most_image_blocks) × (block_at n a + block_bytes ≤ length s) × (k - address_count < further_count)
  far_block a e =
      let z = sized_at h in
      let x = z.inodes in
      let y = z.blocks in
      let l = z.long in
      let w = (blocks_of_lem h i low high).few in
      let u = (((body_of h).inodes i low high).used 11 (omega arith) (omega arith)).0 in
      let v = (((body_of h).inodes i low high).used 11 (omega arith) (omega arith)).1 in
      (omega arith, omega arith, omega arith, omega arith, omega arith)

  pub far_is : (a r : ℕ) → a ≡ kth_block s n i address_place → r ≡ further_of s n a (k - address_count) → r ≡ kth_block s n i k
  far_is a r e d = d ∙ ap (λ (x : ℕ). further_of s n x (k - 12)) (e ∙ kth_direct (is_long s i) s n i 11 (omega arith)) ∙ sym (kth_further (is_long s i) s n i k is_long_lem behind)
