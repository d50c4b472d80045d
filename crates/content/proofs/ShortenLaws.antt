-- A shortened file keeps a store sound: the rest of its last block is zeroed, then it gives back the blocks past it. n and b are the counts of inodes and blocks, i is a file.
use Rattle.std.specs.Prelude.{Ok}
use Prim.Native.Nat.{ℕ, ◌+◌, ◌-◌, ◌*◌, ◌/◌, ◌%◌, ◌≤◌, ◌<◌}
use mathlib.Core.Path.{◌≡◌, refl, ap, ◌∙◌}
use mathlib.Core.Logic.{◌≢◌}
use mathlib.Core.List.{List}
use native.Mathlib.Decide.{ℕ_discrete}
use native.Mathlib.Omega.{arith}
use borrow.Author.Tests.{eq-eqb, ne_eqb}
use lib.ListN.{length, get_or, replicate, length-replicate, get_or-replicate}
use Rattle.layout.specs.Sizes.{block_bytes}
use Rattle.layout.specs.Header.{header_of}
use Rattle.layout.specs.Inode.{size_of}
use Rattle.blocks.specs.Block.{block_at, block_of, bytes_block, put_in_block}
use Rattle.sound.specs.Sound.{Sound}
use Rattle.sound.specs.Counted.{SoundStore}
use Rattle.sound.specs.declared.Form.TheVariants.{Store}
use Rattle.preservation.proofs.StoreLaws.{same_counts, blocks_of_lem}
use Rattle.preservation.proofs.SameLaws.{SameInode, InBlock, inode_stays, put_in_block_lem, in_block_in}
use Rattle.preservation.proofs.KeepLaws.{body_of}
use Rattle.growth.specs.Extend.{file_byte}
use Rattle.growth.proofs.FileFrame.{InFile, file_stays, file_then}
use Rattle.growth.proofs.CutLaws.{cut_keeps, cut_file}
use Rattle.content.specs.Content.{zero_rest, cut_to}
use Rattle.content.specs.Plan.{shorten_plan}
use Rattle.content.proofs.FileLaws.{Holds, holds_of, byte_few, byte_fits, byte_none, same_bytes, ZeroPast, tail_past, other_byte, content_file, content_sound}
use Rattle.content.proofs.PlanFacts.{shortens}

-- ---- r is s with zeros past z in the block that z ends in
pub record Trimmed (s r : List ℕ) (n b i z : ℕ) : Type 0 where
  pub sound : SoundStore r n b
  pub header : header_of r ≡ header_of s
  pub inodes : (j : ℕ) → 1 ≤ j → j ≤ n → SameInode s r n j
  pub file : InFile s r n i (size_of s i)
  -- the zeros
  pub past : z % block_bytes ≢ 0 → (o : ℕ) → o < block_bytes → z % block_bytes ≤ o → get_or (block_of r n (bytes_block r n i (z / block_bytes))) o 0 ≡ 0

module _ (s : List ℕ) (n b i z : ℕ) (h : Holds s n b i z) where
  -- z ends inside of a block
  module _ (e : z % block_bytes ≢ 0) where
    abbrev p : ℕ
    p = z / block_bytes

    abbrev last : ℕ
    last = bytes_block s n i p

    abbrev zeros : List ℕ
    zeros = replicate (block_bytes - z % block_bytes) 0

    abbrev rest : List ℕ
    rest = put_in_block s n last (z % block_bytes) zeros

    long : length zeros ≡ block_bytes - z % block_bytes
    long = length-replicate {A = ℕ} (block_bytes - z % block_bytes) 0

    used : block_bytes * p < size_of s i
    used = let a = h.size in omega arith

    in_rest : InBlock s rest n last
    in_rest = let l = long in put_in_block_lem s n last (byte_fits h p used).low (byte_none h p used) (z % block_bytes) zeros (omega arith)

    inside : block_at n last + z % block_bytes + length zeros ≤ length s
    inside = let l = long in let c = (byte_fits h p used).inside in let d = (byte_fits h p used).low in omega arith

    same_last : bytes_block rest n i p ≡ last
    same_last = same_bytes (in_rest.inodes i h.low h.high) p (byte_few h p used)

    -- the rest of the block
    zero_at_lem : (o : ℕ) → o < block_bytes → z % block_bytes ≤ o → get_or (block_of rest n (bytes_block rest n i p)) o 0 ≡ 0
    zero_at_lem o l m =
        let w = long in
        ap (λ (c : ℕ). get_or (block_of rest n c) o 0) same_last
        ∙ in_block_in s n last (z % 64) zeros o l inside m (omega arith)
        ∙ get_or-replicate (64 - z % 64) (o - z % 64) 0 0 (omega arith)

    -- zeros past the size, too
    rest_past : ZeroPast rest n i (size_of s i)
    unfolding file_byte
    rest_past o l q = elim (ℕ_discrete (o / block_bytes) p) as (λ _. file_byte rest n i o ≡ 0) [
      | yes a ↦ let m = h.size in ap (λ (c : ℕ). get_or (block_of rest n (bytes_block rest n i c)) (o % 64) 0) a ∙ zero_at_lem (o % 64) (omega arith) (omega arith)
      | no a ↦ other_byte rest h p used in_rest o q a ∙ tail_past s n i ((body_of h.sound).inodes i h.low h.high).tail h.kind o l q
    ]

    trimmed_rest : Trimmed s rest n b i z
    trimmed_rest = record {
      sound = same_counts h.sound in_rest.frame (content_sound rest h p used in_rest rest_past);
      header = in_rest.header;
      inodes = in_rest.inodes;
      file = content_file rest h p used in_rest;
      past = λ _. zero_at_lem;
    }

  pub zero_rest_lem : Trimmed s (zero_rest s n i z) n b i z
  unfolding zero_rest
  zero_rest_lem = elim (ℕ_discrete (z % block_bytes) 0) as (λ _. Trimmed s (zero_rest s n i z) n b i z) [
    | yes e ↦ rw (eq-eqb (z % block_bytes) 0 e) (record { sound = h.sound; header = refl; inodes = λ j _ _. inode_stays s n j; file = file_stays s n i; past = λ q. absurd (q e) })
    | no e ↦ rw (ne_eqb (z % block_bytes) 0 e) (trimmed_rest e)
  ]

  pub trimmed_holds : Holds (zero_rest s n i z) n b i z
  trimmed_holds =
      let a = zero_rest_lem in
      let o = a.inodes i h.low h.high in
      record { sound = a.sound; low = h.low; high = h.high; kind = o.kind ∙ h.kind; size = let x = o.size in let y = h.size in omega arith }

  -- ---- and its blocks given back
  pub cut_sound : Sound Store (cut_to s n i z)
  unfolding cut_to
  cut_sound = let r = trimmed_holds in cut_keeps r.sound i r.low r.high r.kind z r.size zero_rest_lem.past

  -- all but file i stays
  pub cut_to_lem : InFile s (cut_to s n i z) n i z
  unfolding cut_to
  cut_to_lem =
      let r = trimmed_holds in
      file_then (λ j l m. (blocks_of_lem h.sound j l m).few) zero_rest_lem.file (cut_file r.sound i r.low r.high r.kind z r.size zero_rest_lem.past)

-- ---- the call
pub shorten_sound : (s : List ℕ) (n b i z y : ℕ) → SoundStore s n b
    → shorten_plan s n i z ≡ Ok y → Sound Store (cut_to s n i y)
shorten_sound s n b i z y h e =
    let w = shortens s n i z y e in
    let m = w.inside in
    let o = w.size in
    cut_sound s n b i y (holds_of h w.file (omega arith))
