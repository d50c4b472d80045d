-- The step that finishes a copy: the image but for link counts and header stays as it is. m is the image, n and b the counts of inodes and image blocks.
use Prim.Native.Nat.{ℕ, zero, suc, ◌+◌, ◌*◌, ◌≤◌, ◌<◌}
use mathlib.Core.Path.{◌≡◌, refl, ap, ap₂, ◌∙◌}
use mathlib.Core.Bool.{◌&&◌}
use mathlib.Core.List.{List}
use native.Mathlib.Omega.{arith}
use lib.Dec.{eqb}
use lib.ListN.{length}
use Rattle.bounded.specs.Count.{tally, count_to}
use Rattle.bounded.proofs.CaseLaws.{each_else}
use Rattle.octets.specs.Octets.{put_num, to_bytes}
use Rattle.octets.proofs.PartLaws.{part_apart}
use Rattle.octets.proofs.NumLaws.{num_other, length_to_bytes}
use Rattle.layout.specs.Sizes.{most_inodes, is_complete}
use Rattle.layout.specs.declared.header.Header.{Header}
use Rattle.layout.specs.Header.{header_of, header_rest_zero, put_free, put_complete}
use Rattle.layout.specs.Inode.{address_index, links_of, parent_of, put_links, inode_free}
use Rattle.blocks.specs.Block.{block_at, block_of, address_block}
use Rattle.blocks.proofs.View.{completion}
use Rattle.blocks.proofs.FrameLaws.{length_complete, kind_apart, spare_apart, size_apart, links_apart, parent_apart, address_apart}
use Rattle.blocks.proofs.ViewLaws.{header_complete}
use Rattle.blocks.specs.Free.{block_free}
use Rattle.layout.specs.Fits.{InodeFits}
use Rattle.directory.specs.Slot.{most_slots}
use Rattle.preservation.proofs.SameLaws.{SameFrame, SameInode, SameBody, SameBlock, same_body, same_blocks, body_then, frame_then, frame_stays, inode_stays, put_links_lem, links_new, links_body, links_parent, put_free_lem}
use Rattle.checkpoint.specs.Image.{image_naming}
use Rattle.checkpoint.specs.Copier.{put_counts, finish_image}

-- ---- byte 8
pub complete_reserved : (s : List ℕ) (v : ℕ) → header_rest_zero (put_complete s v) ≡ header_rest_zero s
unfolding put_complete header_rest_zero
complete_reserved s v = ap₂ (λ (x y : ℕ). eqb x 0 && eqb y 0) (num_other 1 1 s 9 8 v (omega arith)) (num_other 4 1 s 12 8 v (omega arith))

module _ (s : List ℕ) (n v : ℕ) where
  pub complete_block : (c : ℕ) → SameBlock s (put_complete s v) n c
  unfolding put_complete put_num block_of
  complete_block c = let e = length_to_bytes 1 v in part_apart s (block_at n c) 64 8 (to_bytes 1 v) (omega arith)

  pub complete_inode : (j : ℕ) → SameInode s (put_complete s v) n j
  unfolding put_complete put_num
  complete_inode j =
      let e = length_to_bytes 1 v in
      record {
        kind = kind_apart s 8 (to_bytes 1 v) j (omega arith);
        spare = spare_apart s 8 (to_bytes 1 v) j (omega arith);
        links = links_apart s 8 (to_bytes 1 v) j (omega arith);
        size = size_apart s 8 (to_bytes 1 v) j (omega arith);
        parent = parent_apart s 8 (to_bytes 1 v) j (omega arith);
        blocks = same_blocks s (put_complete s v) n j (kind_apart s 8 (to_bytes 1 v) j (omega arith)) (size_apart s 8 (to_bytes 1 v) j (omega arith))
            (λ k l. address_apart s 8 (to_bytes 1 v) n (address_index j k) (omega arith)) (λ _ _. complete_block (address_block s n j));
      }

-- ---- the link counts of the first k inodes are put, and all else of t is as in m
pub record Counts (m t : List ℕ) (n k : ℕ) : Type 0 where
  pub frame : SameFrame m t
  pub bodies : (j : ℕ) → 1 ≤ j → j ≤ n → SameBody m t n j
  pub parents : (j : ℕ) → 1 ≤ j → j ≤ n → parent_of t j ≡ parent_of m j
  pub bytes : (c : ℕ) → SameBlock m t n c
  pub links : (j : ℕ) → 1 ≤ j → j ≤ k → links_of t j ≡ tally (image_naming m n) (most_slots * n) j

module _ (m : List ℕ) (n : ℕ) (few : n ≤ most_inodes) (area : 16 + 32 * n ≤ length m) where
  -- one more
  counts_more : (t : List ℕ) (k : ℕ) → k < n → Counts m t n k → Counts m (put_links t (k + 1) (tally (image_naming m n) (most_slots * n) (k + 1))) n (suc k)
  counts_more t k l h =
      let v = tally (image_naming m n) (most_slots * n) (k + 1) in
      let u = put_links t (k + 1) v in
      let e = h.frame.long in
      let f : InodeFits t n (k + 1) = record { low = omega arith; high = omega arith; few = few; area = omega arith } in
      let p = put_links_lem t n (k + 1) f v in
      record {
        frame = frame_then h.frame p.frame;
        bodies = λ j a b. each_else (λ j. 1 ≤ j → j ≤ n → SameBody m u n j) (k + 1) j (λ a b. body_then (h.bodies (k + 1) a b) (links_body t n (k + 1) f v)) (λ z a b. body_then (h.bodies j a b) (same_body (p.others j a b z))) a b;
        parents = λ j a b. each_else (λ j. 1 ≤ j → j ≤ n → parent_of u j ≡ parent_of m j) (k + 1) j (λ a b. links_parent t n (k + 1) f v ∙ h.parents (k + 1) a b) (λ z a b. (p.others j a b z).parent ∙ h.parents j a b) a b;
        bytes = λ c. p.bytes c ∙ h.bytes c;
        links = λ j a b. each_else (λ j. 1 ≤ j → j ≤ suc k → links_of u j ≡ tally (image_naming m n) (most_slots * n) j) (k + 1) j (λ _ _. links_new t n (k + 1) f v) (λ z a b. (p.others j a (omega arith) z).links ∙ h.links j a (omega arith)) a b;
      }

  counts : (k : ℕ) → k ≤ n → Counts m (put_counts m m n k) n k
  unfolding put_counts
  counts zero l = record { frame = frame_stays m; bodies = λ j _ _. same_body (inode_stays m n j); parents = λ j _ _. refl; bytes = λ c. refl; links = λ j a b. absurd (omega arith) }
  counts (suc k) l = counts_more (put_counts m m n k) k (omega arith) (counts k (omega arith))

-- ---- the whole: the image with true counts, and complete
pub record Finished (m t : List ℕ) (n b : ℕ) : Type 0 where
  pub long : length t ≡ length m
  pub inodes : (header_of t).inodes ≡ (header_of m).inodes
  pub blocks : (header_of t).blocks ≡ (header_of m).blocks
  pub free_inodes : (header_of t).free_inodes ≡ count_to (inode_free m) n
  pub free_blocks : (header_of t).free_blocks ≡ count_to (block_free m n) b
  pub complete : (header_of t).complete ≡ is_complete
  pub root : (header_of t).root ≡ (header_of m).root
  pub reserved : header_rest_zero t ≡ header_rest_zero m
  pub bodies : (j : ℕ) → 1 ≤ j → j ≤ n → SameBody m t n j
  pub parents : (j : ℕ) → 1 ≤ j → j ≤ n → parent_of t j ≡ parent_of m j
  pub bytes : (c : ℕ) → SameBlock m t n c
  pub links : (j : ℕ) → 1 ≤ j → j ≤ n → links_of t j ≡ tally (image_naming m n) (most_slots * n) j

-- for any x in byte 8, once x is 1: so that this is what is asked first
pub finished : (m : List ℕ) (n b : ℕ) → n ≤ most_inodes → 16 + 32 * n ≤ length m → Finished m (finish_image m n b) n b
unfolding finish_image
finished m n b few area = with_byte _ refl
  where
    with_byte : (x : ℕ) → x ≡ is_complete → Finished m (put_complete (put_free (put_counts m m n n) (count_to (inode_free m) n) (count_to (block_free m n) b)) x) n b
    with_byte x is =
        let t = put_counts m m n n in
        let u = put_free t (count_to (inode_free m) n) (count_to (block_free m n) b) in
        let h = counts m n few area n (omega arith) in
        let a = h.frame.long in
        let p = put_free_lem t n (omega arith) (count_to (inode_free m) n) (count_to (block_free m n) b) in
        let c = p.frame.long in
        let e : header_of (put_complete u x) ≡ completion (header_of u) x = header_complete u (omega arith) x in
        record {
          long = length_complete u x ∙ p.frame.long ∙ h.frame.long;
          inodes = ap (λ (v : Header). v.inodes) e ∙ p.frame.inodes ∙ h.frame.inodes;
          blocks = ap (λ (v : Header). v.blocks) e ∙ p.frame.blocks ∙ h.frame.blocks;
          free_inodes = ap (λ (v : Header). v.free_inodes) e ∙ p.free_inodes;
          free_blocks = ap (λ (v : Header). v.free_blocks) e ∙ p.free_blocks;
          complete = ap (λ (v : Header). v.complete) e ∙ is;
          root = ap (λ (v : Header). v.root) e ∙ p.frame.root ∙ h.frame.root;
          reserved = complete_reserved u x ∙ p.frame.reserved ∙ h.frame.reserved;
          bodies = λ j l k. body_then (body_then (h.bodies j l k) (same_body (p.inodes j l k))) (same_body (complete_inode u n x j));
          parents = λ j l k. (complete_inode u n x j).parent ∙ (p.inodes j l k).parent ∙ h.parents j l k;
          bytes = λ q. complete_block u n x q ∙ p.bytes q ∙ h.bytes q;
          links = λ j l k. (complete_inode u n x j).links ∙ (p.inodes j l k).links ∙ h.links j l k;
        }
