-- The free blocks that a growing file takes, as the code finds them in one map. n and b are the counts of inodes and blocks.
use Rattle.std.specs.Prelude.{None, Option, Some}
use Prim.Native.Nat.{ℕ, zero, suc, ◌+◌, ◌*◌, ◌-◌, ◌≤◌, ◌<◌}
use mathlib.Core.Path.{◌≡◌, refl, sym, ap, ◌∙◌, subst}
use mathlib.Core.Logic.{◌≢◌}
use mathlib.Core.Bool.{Bool, false, not}
use mathlib.Core.List.{List}
use native.Mathlib.Numerals.{add-one}
use native.Mathlib.Omega.{arith}
use lib.ListN.{length, replicate}
use Rattle.bounded.specs.Count.{count_to}
use Rattle.bounded.specs.Search.{first_from, on_found}
use Rattle.bounded.proofs.SearchLaws.{first_ext}
use Rattle.octets.specs.Octets.{zeroed}
use Rattle.octets.proofs.PartLaws.{length_zeroed}
use Rattle.layout.specs.Sizes.{most_blocks, most_image_blocks, block_bytes}
use Rattle.layout.specs.Header.{header_of}
use Rattle.blocks.specs.Block.{block_at, zero_block, is_long, address_block, kth_block}
use Rattle.blocks.specs.Free.{named_by, lowest_by, block_named, block_free, free_block, long_but}
use Rattle.blocks.specs.Fits.{RowsFit, Sized}
use Rattle.blocks.specs.Map.{lacks, Maps}
use Rattle.blocks.proofs.KthLaws.{kth_direct, row_kth}
use Rattle.blocks.proofs.MapLaws.{map_free}
use Rattle.blocks.proofs.FrameLaws.{header_past}
use Rattle.blocks.proofs.LongLaws.{row_flags, named_flags, long_own}
use Rattle.ledger.specs.Nth.{lowest_from, nth_free}
use Rattle.ledger.proofs.NthLaws.{nth_is}
use Rattle.ledger.proofs.TallyLaws.{ledger_bound}
use Rattle.sound.specs.Counted.{SoundStore}
use Rattle.preservation.proofs.StoreLaws.{sized_at, ledger_at, rows_most}
use Rattle.preservation.proofs.KeepLaws.{body_of}
use Rattle.growth.specs.Extend.{zero_blocks}

-- ---- each inode of a store is long by its own size
named_own : (s : List ℕ) (n c : ℕ) → named_by (long_but s 0 false) s n c ≡ block_named s n c
named_own s n = named_flags (is_long s) (long_but s 0 false) s n (long_own s false)

pub lowest_own : (s : List ℕ) (n b : ℕ) → lowest_by (long_but s 0 false) s n b ≡ free_block s n b
unfolding lowest_by
lowest_own s n b = first_ext (λ c. not (named_by (long_but s 0 false) s n c)) (λ c. not (block_named s n c)) 1 b (λ c _ _. ap not (named_own s n c))

module _ {s : List ℕ} {n b : ℕ} (h : SoundStore s n b) where
  sizes : Sized s n b
  sizes = sized_at h

  -- an address of a sound store is a block's, or 0
  reach : (i : ℕ) → 1 ≤ i → i ≤ n → address_block s n i ≢ 0 → block_at n (address_block s n i) + block_bytes ≤ length s
  reach i l m q =
      let z = sizes.long in
      let e = kth_direct (is_long s i) s n i 11 (omega arith) in
      let w : kth_block s n i 11 ≤ b = subst (λ (y : ℕ). y ≤ b) (row_kth (is_long s) s n i 11 l (omega arith)) (ledger_bound (ledger_at h) (44 * (i - 1) + 11) (omega arith)) in
      omega arith

  pub rows_fit : RowsFit (long_but s 0 false) s n
  rows_fit =
      let z = sizes.long in
      record {
        few = sizes.inodes;
        area = omega arith;
        most = λ x l. subst (λ (y : ℕ). y ≤ most_image_blocks) (sym (row_flags (is_long s) (long_but s 0 false) s n (long_own s false) x)) (rows_most h x l);
        inside = λ i l m _ q. reach i l m q;
      }

  -- the map of all blocks
  pub map_own : (map : List ℕ) → Maps (long_but s 0 false) s n (most_blocks * n) map → (c : ℕ) → 1 ≤ c → c ≤ b → lacks map c ≡ block_free s n c
  map_own map y c l m = let z = sizes.blocks in map_free (long_but s 0 false) s n map y c l (omega arith) ∙ ap not (named_own s n c)

-- ---- the last block taken, where j were
unfoldable pub last_taken : (ℕ → Bool) → ℕ → ℕ → ℕ
last_taken free b zero = 0
last_taken free b (suc j) = nth_free free b j

module _ (free : ℕ → Bool) (b : ℕ) where
  pub last_next : (j : ℕ) → last_taken free b (j + 1) ≡ nth_free free b j
  unfolding last_taken
  last_next j = ap (last_taken free b) (add-one j)

  nth_last : (j : ℕ) → nth_free free b j ≡ lowest_from free b (last_taken free b j + 1)
  unfolding nth_free last_taken
  nth_last zero = refl
  nth_last (suc j) = refl

  pub last_high : (j : ℕ) → j ≤ count_to free b → last_taken free b j ≤ b
  unfolding last_taken
  last_high zero l = omega arith
  last_high (suc j) l = (nth_is free b j (omega arith)).high

  -- a search from behind the last one finds the next
  module _ (f : ℕ → Bool) (j : ℕ) (same : (c : ℕ) → 1 ≤ c → c ≤ b → f c ≡ free c) (t : ℕ) (e : t ≡ last_taken free b j) where
    search : first_from f (t + 1) (b + 1 - (t + 1)) ≡ first_from free (last_taken free b j + 1) (b + 1 - (last_taken free b j + 1))
    search =
        first_ext f free (t + 1) (b + 1 - (t + 1)) (λ c l m. same c (omega arith) (omega arith))
        ∙ ap (λ (x : ℕ). first_from free (x + 1) (b + 1 - (x + 1))) e

    found : (x : Option ℕ) → first_from f (t + 1) (b + 1 - (t + 1)) ≡ x → nth_free free b j ≡ on_found x (λ c. c) 0
    unfolding lowest_from
    found x q = nth_last j ∙ ap (λ (y : Option ℕ). on_found y (λ c. c) 0) (sym search ∙ q)

    pub next_is : (r : ℕ) → first_from f (t + 1) (b + 1 - (t + 1)) ≡ Some r → r ≡ nth_free free b j
    next_is r q = sym (found (Some r) q)

    pub next_some : j < count_to free b → first_from f (t + 1) (b + 1 - (t + 1)) ≡ None → ⊥
    next_some l q = let z = (nth_is free b j l).low in let w : nth_free free b j ≡ 0 = found None q in omega arith

-- ---- a sound store has as many as it says, each one of its blocks
module _ {s : List ℕ} {n b : ℕ} (h : SoundStore s n b) (j : ℕ) (l : j < (header_of s).free_blocks) where
  pub nth_counted : j < count_to (block_free s n) b
  nth_counted = let e = (body_of h).free_blocks in omega arith

  pub nth_in : (1 ≤ nth_free (block_free s n) b j) × (nth_free (block_free s n) b j ≤ b)
  nth_in = let r = nth_is (block_free s n) b j nth_counted in (r.low, r.high)

-- ---- blocks zeroed one after the other
length_zero_block : (s : List ℕ) (n c : ℕ) → length (zero_block s n c) ≡ length s
unfolding zero_block
length_zero_block s n c = length_zeroed s (block_at n c) 64

pub header_zero_block : (s : List ℕ) (n c : ℕ) → header_of (zero_block s n c) ≡ header_of s
unfolding zero_block zeroed
header_zero_block s n c = header_past s (block_at n c) (replicate 64 0) (omega arith)

module _ (s : List ℕ) (n : ℕ) (c : ℕ → ℕ) where
  pub zeros_begin : s ≡ zero_blocks s n c 0
  unfolding zero_blocks
  zeros_begin = refl

  pub zeros_turn : (j r : ℕ) → r ≡ c j → zero_block (zero_blocks s n c j) n r ≡ zero_blocks s n c (j + 1)
  unfolding zero_blocks
  zeros_turn j r e = ap (zero_block (zero_blocks s n c j) n) e ∙ ap (zero_blocks s n c) (sym (add-one j))

  pub length_zeros : (m : ℕ) → length (zero_blocks s n c m) ≡ length s
  unfolding zero_blocks
  length_zeros zero = refl
  length_zeros (suc m) = length_zero_block (zero_blocks s n c m) n (c m) ∙ length_zeros m

  pub header_zeros : (m : ℕ) → header_of (zero_blocks s n c m) ≡ header_of s
  unfolding zero_blocks
  header_zeros zero = refl
  header_zeros (suc m) = header_zero_block (zero_blocks s n c m) n (c m) ∙ header_zeros m

pub sized_same : (s t : List ℕ) (n b : ℕ) → length t ≡ length s → Sized s n b → Sized t n b
sized_same s t n b e z = record { inodes = z.inodes; blocks = z.blocks; long = e ∙ z.long }
