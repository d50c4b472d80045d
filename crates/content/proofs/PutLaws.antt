-- Bytes put in a file block by block. n and b are the counts of inodes and blocks, i is the file.
use Prim.Native.Nat.{ℕ, suc, ◌+◌, ◌-◌, ◌/◌, ◌%◌, ◌≤◌, ◌<◌}
use mathlib.Core.Path.{◌≡◌, refl, sym, ap, ◌∙◌}
use mathlib.Core.List.{List, [], ◌∷◌, ◌++◌}
use native.Mathlib.Nat.{add-zero}
use native.Mathlib.Omega.{arith}
use lib.ListN.{length}
use Rattle.octets.specs.Octets.{part, splice, pasted}
use Rattle.octets.proofs.PartLaws.{length_inside, part_all, part_join}
use Rattle.blocks.specs.Block.{put_in_block, bytes_block, is_long}
use Rattle.sound.specs.Sound.{blocks_in}
use Rattle.preservation.proofs.SameLaws.{same_long}
use Rattle.content.specs.Fits.{byte_at, FileFits}
use Rattle.content.specs.Content.{put_file}
use Rattle.content.proofs.FileLaws.{Holds, holds_less, byte_few, same_bytes}
use Rattle.content.proofs.ReadLaws.{fits_holds, holds_fits}
use Rattle.content.proofs.WriteLaws.{Relaid, relaid_holds, relaid_byte, put_file_relaid}

-- ---- xs, and then ys
pub put_join : (n i : ℕ) (s : List ℕ) (o : ℕ) (xs ys : List ℕ) → put_file s n i o (xs ++ ys) ≡ put_file (put_file s n i o xs) n i (o + length xs) ys
unfolding put_file
put_join n i s o [] ys = rw add-zero
put_join n i s o (x ∷ xs) ys =
    let e : o + suc (length xs) ≡ o + 1 + length xs = omega arith in
    rw e (put_join n i (put_in_block s n (bytes_block s n i (o / 64)) (o % 64) (x ∷ [])) (o + 1) xs ys)

-- the byte after one that was put, in the same block
byte_next : (s : List ℕ) (n b i o x : ℕ) → Holds s n b i (suc o) → o % 64 < 63 → byte_at (splice s (byte_at s n i o) (x ∷ [])) n i (o + 1) ≡ byte_at s n i o + 1
unfolding byte_at put_in_block
byte_next s n b i o x h l =
    let d : (o + 1) / 64 ≡ o / 64 = omega arith in
    let r : (o + 1) % 64 ≡ o % 64 + 1 = omega arith in
    let z = h.size in
    let g = (relaid_byte s n b i o x h).inodes i h.low h.high in
    rw (d, r, same_bytes g (o / 64) (byte_few h (o / 64) (omega arith))) (omega arith)

-- bytes in one block
pub put_run : (s : List ℕ) (n b i o : ℕ) (xs : List ℕ) → Holds s n b i (o + length xs) → length xs ≤ 64 - o % 64 → put_file s n i o xs ≡ splice s (byte_at s n i o) xs
unfolding put_file splice put_in_block byte_at
put_run s n b i o [] h m = refl
put_run s n b i o (x ∷ []) h m = refl
put_run s n b i o (x ∷ y ∷ ys) h m =
    let t : List ℕ = splice s (byte_at s n i o) (x ∷ []) in
    let w = holds_less (suc o) (omega arith) h in
    let g = relaid_byte s n b i o x w in
    put_run t n b i (o + 1) (y ∷ ys) (holds_less (o + 1 + length (y ∷ ys)) (omega arith) (relaid_holds h g)) (omega arith)
    ∙ ap (λ (p : ℕ). splice t p (y ∷ ys)) (byte_next s n b i o x w (omega arith))

-- ---- a loop that puts xs: before it, and a turn, which puts m bytes in one block
module _ (s : List ℕ) (n i o : ℕ) (xs : List ℕ) where
  pub put_begin : s ≡ put_file s n i o (part xs 0 0)
  unfolding put_file part
  put_begin = refl

  pub put_end : (j : ℕ) → j ≡ length xs → put_file s n i o (part xs 0 j) ≡ put_file s n i o xs
  put_end j e = ap (put_file s n i o) (part_all xs j (sym e))

  module _ (f : FileFits s n i (o + length xs)) (j : ℕ) (l : j ≤ length xs) where
    abbrev t : List ℕ
    t = put_file s n i o (part xs 0 j)

    so_far : Relaid s t n (blocks_in s) i
    so_far = let q : length (part xs 0 j) ≡ j = length_inside xs 0 j (omega arith) in put_file_relaid (part xs 0 j) s n (blocks_in s) i o (holds_less (o + length (part xs 0 j)) (omega arith) (fits_holds f))

    -- the file fits on
    pub put_fits : FileFits (put_file s n i o (part xs 0 j)) n i (o + length xs)
    put_fits = holds_fits (relaid_holds (fits_holds f) so_far)

    pub put_long : is_long (put_file s n i o (part xs 0 j)) i ≡ is_long s i
    put_long = let h = fits_holds f in let g = so_far.inodes i h.low h.high in same_long s t i g.kind g.size

    pub put_turn : (m : ℕ) → m ≤ 64 - (o + j) % 64 → j + m ≤ length xs → pasted (put_file s n i o (part xs 0 j)) (byte_at (put_file s n i o (part xs 0 j)) n i (o + j)) xs j m ≡ put_file s n i o (part xs 0 (j + m))
    unfolding pasted
    put_turn m h b =
        let q : length (part xs 0 j) ≡ j = length_inside xs 0 j (omega arith) in
        let c : length (part xs j m) ≡ m = length_inside xs j m b in
        sym (put_run t n (blocks_in t) i (o + j) (part xs j m) (holds_less (o + j + length (part xs j m)) (omega arith) (fits_holds put_fits)) (omega arith))
        ∙ ap (λ (k : ℕ). put_file t n i (o + k) (part xs j m)) (sym q)
        ∙ sym (put_join n i s o (part xs 0 j) (part xs j m))
        ∙ ap (put_file s n i o) (sym (part_join xs j m))
