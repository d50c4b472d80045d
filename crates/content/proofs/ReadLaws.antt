-- Files that fit, and their bytes read block by block. n is the inode count, i the file.
use Prim.Native.Nat.{ℕ, ◌+◌, ◌-◌, ◌*◌, ◌/◌, ◌%◌, ◌≤◌, ◌<◌}
use mathlib.Core.Path.{◌≡◌, refl, sym, ap, ◌∙◌, subst}
use mathlib.Core.Bool.{Bool, true, false}
use mathlib.Core.List.{List, ◌++◌}
use native.Mathlib.Nat.{zero-add}
use native.Mathlib.Omega.{arith}
use lib.ListN.{length, get_or}
use lib.Seq.{ext_get_or}
use Rattle.bounded.specs.Table.{table}
use Rattle.bounded.proofs.TableLaws.{length_table, get_or_table, table_ext, table_append}
use Rattle.octets.specs.Octets.{part, splice, pasted}
use Rattle.octets.proofs.PartLaws.{length_inside, get_d_part, splice_append}
use Rattle.layout.specs.Sizes.{address_count, address_place, block_bytes, most_blocks, most_file_bytes}
use Rattle.layout.specs.Inode.{size_of, file_kind}
use Rattle.layout.specs.Fits.{InodeFits}
use Rattle.blocks.specs.Block.{block_at, block_of, blocks_used, is_long, kth_block, bytes_block}
use Rattle.ledger.proofs.BytesLaws.{place_high}
use Rattle.sound.specs.Sound.{blocks_in}
use Rattle.preservation.proofs.StoreLaws.{uncounted, kind_fits, kind_size}
use Rattle.growth.specs.Extend.{file_byte}
use Rattle.content.specs.Fits.{byte_at, FileFits}
use Rattle.content.specs.Content.{file_bytes}
use Rattle.content.proofs.FileLaws.{Holds, holds_of, holds_file, long_over, byte_place, byte_fits}
use Rattle.content.proofs.PlaceLaws.{bytes_short, bytes_high, short_under}

-- ---- files that fit
pub fits_holds : {s : List ℕ} {n i z : ℕ} → FileFits s n i z → Holds s n (blocks_in s) i z
fits_holds f = holds_of f.sound f.file f.size

pub holds_fits : {s : List ℕ} {n b i z : ℕ} → Holds s n b i z → FileFits s n i z
holds_fits h = record { sound = uncounted h.sound; file = holds_file h; size = h.size }

pub fits_less : {s : List ℕ} {n i z : ℕ} (y : ℕ) → y ≤ z → FileFits s n i z → FileFits s n i y
fits_less y l f = record { sound = f.sound; file = f.file; size = let w = f.size in omega arith }

pub fits_inode : {s : List ℕ} {n i z : ℕ} → FileFits s n i z → InodeFits s n i
fits_inode f = kind_fits f.sound file_kind _ f.file

pub fits_most : {s : List ℕ} {n i z : ℕ} → FileFits s n i z → z ≤ most_file_bytes
fits_most f = let a = kind_size f.sound file_kind _ f.file in let b = f.size in omega arith

-- byte x below z: its block, and the bytes from it on in the block
module _ {s : List ℕ} {n i z : ℕ} (f : FileFits s n i z) (x : ℕ) (l : block_bytes * (x / block_bytes) < z) where
  pub byte_in : FileFits s n i (block_bytes * (x / block_bytes) + 1)
  byte_in = fits_less (block_bytes * (x / block_bytes) + 1) (omega arith) f

  pub byte_inside : (m : ℕ) → m ≤ block_bytes - x % block_bytes → byte_at s n i x + m ≤ length s
  unfolding byte_at
  byte_inside m h =
      let w = f.size in
      let b = byte_fits (fits_holds f) (x / 64) (omega arith) in
      let c = b.low in
      let d = b.inside in
      omega arith

-- the p-th block of bytes, where the code looks for it
module _ {s : List ℕ} {n i : ℕ} (p : ℕ) (f : FileFits s n i (block_bytes * p + 1)) where
  inside : block_bytes * p < size_of s i
  inside = let z = f.size in omega arith

  pub block_short : (long : Bool) → long ≡ is_long s i → long ≡ false → (p < address_count) × (kth_block s n i p ≡ bytes_block s n i p)
  block_short long e d =
      let q = sym e ∙ d in
      let k = (fits_holds f).kind in
      let u = short_under s n i p k q in
      let w = inside in
      (omega arith, bytes_short s n i p k q)

  pub block_high : (long : Bool) → long ≡ is_long s i → long ≡ true → address_place ≤ p → (p + 1 < blocks_used (size_of s i)) × (kth_block s n i (p + 1) ≡ bytes_block s n i p)
  block_high long e d l =
      let q = sym e ∙ d in
      let u = place_high (size_of s i) p (long_over s i q) l in
      let w = byte_place (fits_holds f) p inside in
      (omega arith, bytes_high s n i p q l)

  pub block_few : p < most_blocks
  block_few = let m = fits_most f in omega arith

  pub block_some : (c : ℕ) → c ≡ bytes_block s n i p → 1 ≤ c
  block_some c e = subst (λ (a : ℕ). 1 ≤ a) (sym e) (byte_fits (fits_holds f) p inside).low

pub byte_is : (s : List ℕ) (n i x c r : ℕ) → c ≡ bytes_block s n i (x / block_bytes) → r ≡ block_at n c → r + x % block_bytes ≡ byte_at s n i x
unfolding byte_at
byte_is s n i x c r e d = omega arith

-- ---- bytes of a file
module _ (s : List ℕ) (n i : ℕ) where
  pub length_file : (o k : ℕ) → length (file_bytes s n i o k) ≡ k
  unfolding file_bytes
  length_file o k = length_table (λ j. file_byte s n i (o + j)) k

  -- j bytes, and then m more
  file_join : (o j m : ℕ) → file_bytes s n i o (j + m) ≡ file_bytes s n i o j ++ file_bytes s n i (o + j) m
  unfolding file_bytes
  file_join o j m =
      table_append (λ k. file_byte s n i (o + k)) j m
      ∙ ap (λ (l : List ℕ). table (λ k. file_byte s n i (o + k)) j ++ l)
      (table_ext (λ k. file_byte s n i (o + (j + k))) (λ k. file_byte s n i (o + j + k)) m (λ k l. ap (file_byte s n i) (omega arith)))

  -- m bytes in one block
  file_run : (x m : ℕ) → m ≤ 64 - x % 64 → byte_at s n i x + m ≤ length s → file_bytes s n i x m ≡ part s (byte_at s n i x) m
  unfolding file_bytes byte_at file_byte block_of
  file_run x m h f =
      ext_get_or 0 _ _ (length_table (λ j. file_byte s n i (x + j)) m ∙ sym (length_inside s (byte_at s n i x) m f))
      (λ j b.
      let c = length_table (λ k. file_byte s n i (x + k)) m in
      let l : j < m = omega arith in
      let d : (x + j) / 64 ≡ x / 64 = omega arith in
      let r : (x + j) % 64 ≡ x % 64 + j = omega arith in
      let p : block_at n (bytes_block s n i (x / 64)) + (x % 64 + j) ≡ byte_at s n i x + j = omega arith in
      get_or_table (λ k. file_byte s n i (x + k)) m j l
      ∙ rw (d, r) (get_d_part s (block_at n (bytes_block s n i (x / 64))) 64 (x % 64 + j) (omega arith))
      ∙ ap (λ (q : ℕ). get_or s q 0) p
      ∙ sym (get_d_part s (byte_at s n i x) m j l))

  -- ---- a loop that reads them to out: before it, and a turn, which reads m bytes of one block
  module _ (out : List ℕ) (o : ℕ) where
    pub read_begin : out ≡ splice out 0 (file_bytes s n i o 0)
    unfolding splice file_bytes table
    read_begin = refl

    pub read_turn : (j m : ℕ) → m ≤ 64 - (o + j) % 64 → byte_at s n i (o + j) + m ≤ length s
        → pasted (splice out 0 (file_bytes s n i o j)) j s (byte_at s n i (o + j)) m ≡ splice out 0 (file_bytes s n i o (j + m))
    unfolding pasted
    read_turn j m h f =
        let q : j ≡ 0 + length (file_bytes s n i o j) = sym (zero-add (length (file_bytes s n i o j)) ∙ length_file o j) in
        rw (← file_run (o + j) m h f, file_join o j m)
        (ap (λ (p : ℕ). splice (splice out 0 (file_bytes s n i o j)) p (file_bytes s n i (o + j) m)) q
        ∙ splice_append out 0 (file_bytes s n i o j) (file_bytes s n i (o + j) m))
