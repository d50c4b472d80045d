-- The inodes, blocks and free counts of a store, and what the changes of entries and of one inode keep of them. n and b are the counts of inodes and blocks.
use Prim.Native.Nat.{ℕ, ◌*◌, ◌/◌, ◌%◌, ◌≤◌, ◌<◌}
use mathlib.Core.Path.{◌≡◌, sym, ap, ◌∙◌}
use mathlib.Core.List.{List}
use native.Mathlib.Omega.{arith}
use Rattle.bounded.specs.Count.{Differ, count_to}
use Rattle.bounded.proofs.CaseLaws.{each_else}
use Rattle.layout.specs.Sizes.{most_blocks, block_bytes}
use Rattle.layout.specs.Header.{header_of}
use Rattle.layout.specs.declared.header.Header.{Header}
use Rattle.layout.specs.Inode.{kind_of, size_of, parent_of, free_kind, file_kind, inode_free}
use Rattle.blocks.specs.Block.{blocks_used, bytes_place, bytes_block, row_of}
use Rattle.ledger.proofs.BytesLaws.{place_used}
use Rattle.blocks.specs.Free.{block_free}
use Rattle.sound.specs.Inode.{InodeSound}
use Rattle.sound.specs.Sound.{Sound}
use Rattle.sound.specs.Counted.{SoundStore}
use Rattle.sound.specs.declared.Form.TheVariants.{Store}
use Rattle.preservation.proofs.SameLaws.{SameFrame, SameBody, SameBlock}
use Rattle.preservation.proofs.KeepLaws.{Body, sound_of, inode_like, tail_kept, inode_kept}
use Rattle.preservation.proofs.AddressLaws.{same_differ, same_unnamed}
use Rattle.preservation.proofs.FreeLaws.{same_free}
use Rattle.preservation.proofs.ChangeLaws.{NamesSound}
use Rattle.preservation.proofs.TreeLaws.{Tree}
use Rattle.preservation.proofs.SoundTreeLaws.{nodes_of, entries_back, links_back}
use Rattle.preservation.proofs.EntryWriteLaws.{EntriesAlone}
use Rattle.preservation.proofs.InodeWriteLaws.{Relinked, body_all}

-- inodes are sound by themselves, no block is named twice, and the free counts are true
pub record Stock (t : List ℕ) (n b : ℕ) : Type 0 where
  pub inodes : (i : ℕ) → 1 ≤ i → i ≤ n → InodeSound t n b i
  pub once : Differ (row_of t n) (most_blocks * n)
  pub free_inodes : (header_of t).free_inodes ≡ count_to (inode_free t) n
  pub free_blocks : (header_of t).free_blocks ≡ count_to (block_free t n) b

-- the block that a size ends in is one that it uses
last_used : (z : ℕ) → (z % block_bytes ≡ 0 → ⊥) → bytes_place z (z / block_bytes) < blocks_used z
last_used z h = place_used z (z / 64) (omega arith)

-- ---- entries alone change
pub entries_stock : (s t : List ℕ) (n b : ℕ) → Body s n b → EntriesAlone s t n → Stock t n b
entries_stock s t n b h a = record {
  inodes = λ i l m. inode_kept s t n b i (a.inodes i l m) (λ k z. a.files i (bytes_place (size_of s i) (size_of s i / block_bytes)) l m k (last_used (size_of s i) z)) (h.inodes i l m);
  once = same_differ s t n (λ j l m. (a.inodes j l m).blocks) h.once;
  free_inodes = ap (λ (v : Header). v.free_inodes) a.header ∙ h.free_inodes ∙ sym (same_free s t n (λ j l m. (a.inodes j l m).kind));
  free_blocks = ap (λ (v : Header). v.free_blocks) a.header ∙ h.free_blocks ∙ sym (same_unnamed s t n (λ j l m. (a.inodes j l m).blocks) b);
}

-- ---- a store with the frame of a sound one that has its stock, sound names and a tree is sound
pub stock_sound : {s t : List ℕ} {n b : ℕ} → SoundStore s n b → SameFrame s t → Stock t n b → NamesSound t n → Tree n (nodes_of t n) → Sound Store t
stock_sound {t = t} {n} h f k a r =
    sound_of h f
    (record {
      inodes = k.inodes;
      once = k.once;
      root = r.root;
      root_parent = r.root_parent;
      entries = entries_back t n a r;
      links = links_back t n a r;
      free_inodes = k.free_inodes;
      free_blocks = k.free_blocks;
    })

-- ---- an inode in use has other links, or a directory another parent
module _ (s t : List ℕ) (n b i : ℕ) (e : SameBody s t n i) (g : (c : ℕ) → SameBlock s t n c)
    (used : kind_of s i ≡ free_kind → ⊥) (file : kind_of s i ≡ file_kind → parent_of t i ≡ parent_of s i) where
  inode_relinked : InodeSound s n b i → InodeSound t n b i
  inode_relinked h = inode_like s t n b i e (λ k. absurd (used k)) file (tail_kept s t n b i e (λ _ _. g (bytes_block s n i (size_of s i / block_bytes))) h) h

module _ (s t : List ℕ) (n b i : ℕ) (a : Relinked s t n i)
    (used : kind_of s i ≡ free_kind → ⊥) (file : kind_of s i ≡ file_kind → parent_of t i ≡ parent_of s i) where
  pub relinked_stock : 1 ≤ i → i ≤ n → Stock s n b → Stock t n b
  relinked_stock low high h =
      let o = a.inode in
      let e = body_all a in
      record {
        inodes = λ j l m. each_else (InodeSound t n b) i j (inode_relinked s t n b i a.body o.bytes used file (h.inodes i low high))
            (λ z. inode_kept s t n b j (o.others j l m z) (λ _ _. o.bytes (bytes_block s n j (size_of s j / block_bytes))) (h.inodes j l m));
        once = same_differ s t n (λ j l m. (e j l m).blocks) h.once;
        free_inodes = ap (λ (v : Header). v.free_inodes) o.header ∙ h.free_inodes ∙ sym (same_free s t n (λ j l m. (e j l m).kind));
        free_blocks = ap (λ (v : Header). v.free_blocks) o.header ∙ h.free_blocks ∙ sym (same_unnamed s t n (λ j l m. (e j l m).blocks) b);
      }
