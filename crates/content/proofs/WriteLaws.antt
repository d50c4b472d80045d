-- A write keeps a store sound: the file takes its blocks and its size in one go, then its bytes. n and b are the counts of inodes and blocks, i is a file.
use Rattle.std.specs.Prelude.{Ok}
use Prim.Native.Nat.{ℕ, suc, ◌+◌, ◌*◌, ◌/◌, ◌%◌, ◌≤◌, ◌<◌}
use mathlib.Core.Path.{◌≡◌, refl, sym, ap, ◌∙◌, subst}
use mathlib.Core.Logic.{◌≢◌}
use mathlib.Core.List.{List, [], ◌∷◌}
use native.Mathlib.Decide.{ℕ_discrete}
use native.Mathlib.Omega.{arith}
use lib.ListN.{length, get_or}
use Rattle.layout.specs.Sizes.{block_bytes, most_file_bytes}
use Rattle.layout.specs.Header.{header_of}
use Rattle.layout.specs.Inode.{size_of, file_kind}
use Rattle.blocks.specs.Block.{block_of, bytes_block, put_in_block}
use Rattle.ledger.proofs.BytesLaws.{bytes_blocks}
use Rattle.sound.specs.Sound.{Sound}
use Rattle.sound.specs.Counted.{SoundStore}
use Rattle.sound.specs.declared.Form.TheVariants.{Store}
use Rattle.preservation.proofs.StoreLaws.{same_counts, blocks_of_lem, kind_size}
use Rattle.preservation.proofs.SameLaws.{SameFrame, SameInode, InBlock, frame_stays, frame_then, inode_stays, inode_then, put_in_block_lem, in_block_out}
use Rattle.preservation.proofs.KeepLaws.{body_of}
use Rattle.growth.specs.Extend.{file_byte, extended}
use Rattle.growth.proofs.FileFrame.{InFile, file_stays, file_then}
use Rattle.content.specs.Content.{put_file}
use Rattle.content.specs.Plan.{write_plan}
use Rattle.content.specs.Apply.{written}
use Rattle.content.proofs.FileLaws.{Holds, holds_less, holds_of, byte_few, byte_fits, byte_none, same_bytes, tail_past, other_byte, content_file, content_sound}
use Rattle.content.proofs.SizeLaws.{extended_file, extended_holds}
use Rattle.content.proofs.PlanFacts.{Writes, writes}

-- ---- t is s with other bytes in file i, and sound
pub record Relaid (s t : List ℕ) (n b i : ℕ) : Type 0 where
  pub sound : SoundStore t n b
  pub frame : SameFrame s t
  pub header : header_of t ≡ header_of s
  pub inodes : (j : ℕ) → 1 ≤ j → j ≤ n → SameInode s t n j
  pub file : InFile s t n i (size_of s i)

pub relaid_holds : {s t : List ℕ} {n b i o : ℕ} → Holds s n b i o → Relaid s t n b i → Holds t n b i o
relaid_holds {s} {t} {n} {b} {i} h g =
    let e = g.inodes i h.low h.high in
    let z = h.size in
    let y = e.size in
    record { sound = g.sound; low = h.low; high = h.high; kind = e.kind ∙ h.kind; size = omega arith }

relaid_none : {s : List ℕ} {n b : ℕ} (i : ℕ) → SoundStore s n b → Relaid s s n b i
relaid_none {s} {n} i h = record { sound = h; frame = frame_stays s; header = refl; inodes = λ j _ _. inode_stays s n j; file = file_stays s n i }

relaid_then : {s t r : List ℕ} {n b i o : ℕ} → Holds s n b i o → Relaid s t n b i → Relaid t r n b i → Relaid s r n b i
relaid_then {s} {t} {r} {n} {b} {i} h f g = record {
  sound = g.sound;
  frame = frame_then f.frame g.frame;
  header = g.header ∙ f.header;
  inodes = λ j l m. inode_then (f.inodes j l m) (g.inodes j l m);
  file = subst (InFile s r n i) (f.inodes i h.low h.high).size (file_then (λ j l m. (blocks_of_lem h.sound j l m).few) f.file g.file);
}

-- ---- one byte of a file
abbrev one_byte : List ℕ → ℕ → ℕ → ℕ → ℕ → List ℕ
one_byte s n i o v = put_in_block s n (bytes_block s n i (o / block_bytes)) (o % block_bytes) (v ∷ [])

module _ (s : List ℕ) (n b i o v : ℕ) (h : Holds s n b i (suc o)) where
  abbrev p : ℕ
  p = o / block_bytes

  abbrev after : List ℕ
  after = one_byte s n i o v

  used : block_bytes * p < size_of s i
  used = let z = h.size in omega arith

  put_byte : InBlock s after n (bytes_block s n i p)
  put_byte = put_in_block_lem s n (bytes_block s n i p) (byte_fits h p used).low (byte_none h p used) (o % block_bytes) (v ∷ []) (omega arith)

  -- the others stay
  put_byte_other : (a : ℕ) → a < block_bytes * bytes_blocks (size_of s i) → a ≢ o → file_byte after n i a ≡ file_byte s n i a
  unfolding file_byte
  put_byte_other a l e = go (ℕ_discrete (a / 64) p)
    where
      go : Dec (a / 64 ≡ p) → file_byte after n i a ≡ file_byte s n i a
      go (no z) = other_byte after h p used put_byte a l z
      go (yes z) =
          let c : bytes_block after n i (a / 64) ≡ bytes_block s n i p = same_bytes (put_byte.inodes i h.low h.high) (a / 64) (byte_few h (a / 64) (omega arith)) ∙ ap (bytes_block s n i) z in
          ap (λ (d : ℕ). get_or (block_of after n d) (a % 64) 0) c
          ∙ in_block_out s n (bytes_block s n i p) (o % 64) (v ∷ []) (a % 64) (omega arith) (omega arith)
          ∙ ap (λ (d : ℕ). get_or (block_of s n (bytes_block s n i d)) (a % 64) 0) (sym z)

  pub relaid_byte : Relaid s (put_in_block s n (bytes_block s n i (o / block_bytes)) (o % block_bytes) (v ∷ [])) n b i
  relaid_byte =
      let g = put_byte in
      record {
        sound = same_counts h.sound g.frame (content_sound after h p used g
            (λ a l m. let z = h.size in put_byte_other a m (λ e. omega arith) ∙ tail_past s n i ((body_of h.sound).inodes i h.low h.high).tail h.kind a l m));
        frame = g.frame;
        header = g.header;
        inodes = g.inodes;
        file = content_file after h p used g;
      }

-- ---- all bytes
pub put_file_relaid : (xs : List ℕ) (s : List ℕ) (n b i o : ℕ) → Holds s n b i (o + length xs) → Relaid s (put_file s n i o xs) n b i
unfolding put_file
put_file_relaid [] s n b i o h = relaid_none i h.sound
put_file_relaid (v ∷ xs) s n b i o h =
    let f = relaid_byte s n b i o v (holds_less (suc o) (omega arith) h) in
    relaid_then h f (put_file_relaid xs (one_byte s n i o v) n b i (o + 1) (holds_less (o + 1 + length xs) (omega arith) (relaid_holds h f)))

-- ---- the call
module _ (s : List ℕ) (n b i o : ℕ) (xs : List ℕ) (z : ℕ) (h : SoundStore s n b) (w : Writes s n i o (length xs) z) where
  old : Holds s n b i o
  old = holds_of h w.file w.inside

  more : size_of s i ≤ z
  more = let e = w.size in omega arith

  most : z ≤ most_file_bytes
  most = let e = w.size in let a = w.most in let c = kind_size h file_kind i w.file in omega arith

  -- with its blocks and its size
  pub sized_holds : Holds (extended s n b i z) n b i (o + length xs)
  sized_holds = let e = w.size in holds_less (o + length xs) (omega arith) (extended_holds old z more most w.blocks)

  put : Relaid (extended s n b i z) (written s n b i o xs z) n b i
  unfolding written
  put = put_file_relaid xs (extended s n b i z) n b i o sized_holds

  pub written_sound : SoundStore (written s n b i o xs z) n b
  written_sound = put.sound

  -- all but file i stays
  pub written_file : InFile s (written s n b i o xs z) n i z
  written_file =
      let g = extended_file old z more most w.blocks in
      subst (InFile s (written s n b i o xs z) n i) g.size (file_then (λ j l m. (blocks_of_lem h j l m).few) g put.file)

pub write_sound : (s : List ℕ) (n b i o : ℕ) (xs : List ℕ) (z : ℕ) → SoundStore s n b
    → write_plan s n i o (length xs) ≡ Ok z → Sound Store (written s n b i o xs z)
write_sound s n b i o xs z h e = (written_sound s n b i o xs z h (writes s n i o (length xs) z e)).sound
