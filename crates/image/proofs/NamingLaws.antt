-- Laws of the pass over the image's slots: what each place names, and what the counts say. m is the image, n the inode count.
use Prim.Native.Nat.{ℕ, zero, suc, ◌+◌, ◌*◌, ◌-◌, ◌/◌, ◌%◌, ◌≤◌, ◌<◌}
use mathlib.Core.Path.{◌≡◌, refl, sym, ap, ap₂, ◌∙◌, subst}
use mathlib.Core.Logic.{◌≢◌}
use mathlib.Core.Bool.{Bool, false, not, ◌&&◌}
use mathlib.Core.List.{List}
use native.Mathlib.Numerals.{add-one}
use native.Mathlib.Decide.{dec_lt}
use native.Mathlib.Omega.{arith}
use lib.Dec.{eqb}
use lib.ListN.{length, get_or, set, take, drop}
use Rattle.bounded.specs.Count.{Tallied, tally, count_to}
use Rattle.bounded.specs.Search.{pick, first_from}
use Rattle.bounded.proofs.CountLaws.{tally_skip, tally_one, tally_skips, tally_past, count_some_is}
use Rattle.bounded.proofs.ReflectLaws.{r_fails}
use Rattle.bounded.proofs.SearchLaws.{first_ext}
use Rattle.octets.specs.Octets.{part}
use Rattle.octets.proofs.PartLaws.{cut}
use Rattle.octets.proofs.NumLaws.{length_num}
use Rattle.layout.specs.Sizes.{most_inodes, most_image_blocks, most_blocks, address_count, is_complete}
use Rattle.layout.specs.Header.{put_free, put_complete}
use Rattle.layout.specs.Inode.{kind_of, directory_kind, address_index, put_links, inode_free}
use Rattle.blocks.specs.Block.{block_at, is_long, kth_block, row_by, row_of}
use Rattle.blocks.specs.Free.{long_but}
use Rattle.blocks.specs.Fits.{RowsFit}
use Rattle.blocks.specs.Map.{lacks, Maps}
use Rattle.blocks.proofs.KthLaws.{kth_direct}
use Rattle.blocks.proofs.MapLaws.{map_ext, map_count}
use Rattle.blocks.proofs.LongLaws.{but_else, row_flags, fit_flags}
use Rattle.names.specs.Entry.{entry_inode}
use Rattle.directory.specs.Slot.{most_slots, slot_at, entry_of}
use Rattle.desk.specs.Desk.{is_copied}
use Rattle.sound.specs.Place.{place_of}
use Rattle.sound.proofs.PlaceLaws.{place_dir, place_slot}
use Rattle.checkpoint.specs.Image.{has_slot, slot_names, image_naming, inode_named}
use Rattle.checkpoint.specs.Copier.{next_inode, put_counts, finish_image}
use Rattle.checkpoint.proofs.Copy.NamingLaws.{has_slot_is}
use Rattle.image.specs.Addressed.{Addressed}

-- ---- one entry
-- the 16 bytes at o name i
module _ (m : List ℕ) (o i : ℕ) (counts : List ℕ) (a : i ≡ entry_inode (take (o + 16 - o) (drop o m)))
    (f : ℕ → ℕ) (p : ℕ) (e : f p ≡ entry_inode (part m o 16)) (t : Tallied f 1 257 p counts) where
  read : f p ≡ i
  read = e ∙ ap entry_inode (sym (cut m o 16)) ∙ sym a

  pub entry_out : (1 ≤ i → i ≤ 256 → ⊥) → Tallied f 1 257 (p + 1) counts
  entry_out h =
      let r = read in
      elim (dec_lt i 1) as (λ _. Tallied f 1 257 (p + 1) counts) [
        | yes l ↦ tally_skip f 1 257 p counts (omega arith) t
        | no l ↦ tally_past f 1 257 p counts (elim (dec_lt 256 i) as (λ _. 257 ≤ f p) [ yes u ↦ omega arith | no u ↦ absurd (h (omega arith) (omega arith)) ]) t
      ]

  pub entry_one : 1 ≤ i → i ≤ 256 → Tallied f 1 257 (p + 1) (set counts i (get_or counts i 0 + 1))
  entry_one l h = tally_one f 1 257 p i counts (sym read) l (omega arith) t

-- ---- what a place names
module _ (m : List ℕ) (n e t : ℕ) (l : 1 ≤ e) (h : t < most_slots) where
  naming_place : image_naming m n (place_of e t) ≡ slot_names m n e t
  naming_place = ap₂ (slot_names m n) (place_dir e t l h) (place_slot e t l h)

  no_slot : has_slot m n e t ≡ false → image_naming m n (place_of e t) ≡ 0
  unfolding slot_names
  no_slot q = naming_place ∙ ap (λ (b : Bool). pick b (entry_inode (entry_of m n e t)) 0) q

  -- no directory has no slot, and a block that is not there has none
  pub other_kind : kind_of m e ≢ directory_kind → image_naming m n (place_of e t) < 1
  other_kind q = let z = no_slot (r_fails (has_slot_is m n e t) (λ w. q w.0)) in omega arith

  pub no_block : kth_block m n e (t / 4) ≡ 0 → image_naming m n (place_of e t) < 1
  no_block q = let z = no_slot (r_fails (has_slot_is m n e t) (λ w. w.1 q)) in omega arith

  slot_names_lem : kind_of m e ≡ directory_kind → kth_block m n e (t / 4) ≢ 0 → image_naming m n (place_of e t) ≡ entry_inode (entry_of m n e t)
  unfolding slot_names
  slot_names_lem k q = naming_place ∙ ap (λ (b : Bool). pick b (entry_inode (entry_of m n e t)) 0) ((has_slot_is m n e t).from (k, q))

pub block_inside : (m : List ℕ) (n e k : ℕ) → Addressed m n → 1 ≤ e → e ≤ n → k < address_count → (16 + 32 * n + 64 * kth_block m n e k ≤ length m) × (kth_block m n e k ≤ 4096)
block_inside m n e k h l u b = rw (kth_direct (is_long m e) m n e k b) (h.inside (address_index e k) (omega arith), h.most (address_index e k) (omega arith))

-- slot j of the k-th block, which starts at o
module _ (m : List ℕ) (n e k : ℕ) (l : 1 ≤ e) (h : k < address_count) where
  pub entry_names : (a o j : ℕ) → a ≡ kth_block m n e k → 1 ≤ a → o ≡ block_at n a → j < 4 → kind_of m e ≡ directory_kind
      → image_naming m n (place_of e (4 * k) + j) ≡ entry_inode (part m (o + 16 * j) 16)
  unfolding entry_of slot_at
  entry_names a o j p q r s d =
      let x : (4 * k + j) / 4 ≡ k = omega arith in
      let y : (4 * k + j) % 4 ≡ j = omega arith in
      let w : place_of e (4 * k) + j ≡ place_of e (4 * k + j) = omega arith in
      let z : kth_block m n e ((4 * k + j) / 4) ≡ a = ap (kth_block m n e) x ∙ sym p in
      ap (image_naming m n) w
      ∙ slot_names_lem m n e (4 * k + j) l (omega arith) d (λ v. omega arith)
      ∙ ap₂ (λ (u v : ℕ). entry_inode (part m (block_at n u + 16 * v) 16)) z y
      ∙ ap (λ (u : ℕ). entry_inode (part m (u + 16 * j) 16)) (sym r)

  -- a block that is not there
  pub empty_block : (counts : List ℕ) → kth_block m n e k ≡ 0 → Tallied (image_naming m n) 1 257 (place_of e (4 * k)) counts → Tallied (image_naming m n) 1 257 (place_of e (4 * (k + 1))) counts
  empty_block counts z t =
      let w : place_of e (4 * k) + 4 ≡ place_of e (4 * (k + 1)) = omega arith in
      subst (λ (p : ℕ). Tallied (image_naming m n) 1 257 p counts) w (tally_skips (image_naming m n) 1 257 (place_of e (4 * k)) 4 counts none t)
    where
      none : (j : ℕ) → j < 4 → image_naming m n (place_of e (4 * k) + j) < 1
      none j b =
          let x : (4 * k + j) / 4 ≡ k = omega arith in
          let w : place_of e (4 * k + j) ≡ place_of e (4 * k) + j = omega arith in
          subst (λ (p : ℕ). image_naming m n p < 1) w (no_block m n e (4 * k + j) l (omega arith) (ap (kth_block m n e) x ∙ z))

-- an inode that is no directory
pub other_inode : (m : List ℕ) (n e : ℕ) → 1 ≤ e → kind_of m e ≢ directory_kind → (counts : List ℕ) → Tallied (image_naming m n) 1 257 (most_slots * (e - 1)) counts → Tallied (image_naming m n) 1 257 (most_slots * e) counts
other_inode m n e l k counts t =
    let w : most_slots * (e - 1) + most_slots ≡ most_slots * e = omega arith in
    subst (λ (p : ℕ). Tallied (image_naming m n) 1 257 p counts) w (tally_skips (image_naming m n) 1 257 (most_slots * (e - 1)) most_slots counts (λ j b. other_kind m n e j l b k) t)

-- ---- what the counts say
-- the search over the counts is the search over the slots
module _ (m d counts : List ℕ) (n : ℕ) (few : n ≤ most_inodes) (t : Tallied (image_naming m n) 1 257 (most_slots * n) counts) where
  pub next_read : first_from (λ i. not (is_copied d n i) && not (eqb (get_or counts i 0) 0)) 1 n ≡ next_inode m d n
  unfolding next_inode inode_named
  next_read =
      first_ext (λ i. not (is_copied d n i) && not (eqb (get_or counts i 0) 0)) (λ i. not (is_copied d n i) && inode_named m n i) 1 n
      (λ i l h. ap (λ (b : Bool). not (is_copied d n i) && b)
      (ap (λ (x : ℕ). not (eqb x 0)) (t.each i l (omega arith)) ∙ count_some_is (λ p. eqb (image_naming m n p) i) (most_slots * n)))

-- ---- what the finish writes
pub counts_none : (m : List ℕ) (n : ℕ) → m ≡ put_counts m m n 0
unfolding put_counts
counts_none m n = refl

pub counts_more : (m t : List ℕ) (n k v : ℕ) → t ≡ put_counts m m n k → v ≡ tally (image_naming m n) (most_slots * n) (k + 1) → put_links t (k + 1) v ≡ put_counts m m n (k + 1)
unfolding put_counts
counts_more m t n k v e f =
    ap₂ (λ (x : List ℕ) (y : ℕ). put_links x (k + 1) y) e f ∙ ap (put_counts m m n) (sym (add-one k))

pub length_counts : (m : List ℕ) (n k : ℕ) → length (put_counts m m n k) ≡ length m
unfolding put_counts put_links
length_counts m n zero = refl
length_counts m n (suc k) = length_num 2 (put_counts m m n k) _ _ ∙ length_counts m n k

-- ---- nothing is locked: no inode has the number 0, so each is long by its own size
module _ (m : List ℕ) (n none : ℕ) (told : Bool) (e : none ≡ 0) where
  own : (i : ℕ) → 1 ≤ i → long_but m none told i ≡ is_long m i
  own i l = but_else m none told i (λ z. omega arith)

  pub rows_free : RowsFit (is_long m) m n → RowsFit (long_but m none told) m n
  rows_free = fit_flags (is_long m) (long_but m none told) m n own

  pub maps_free : (map : List ℕ) → Maps (long_but m none told) m n (most_blocks * n) map → Maps (is_long m) m n (most_blocks * n) map
  maps_free map h = map_ext (row_by (long_but m none told) m n) (row_of m n) (most_blocks * n) map h (λ x _. sym (row_flags (is_long m) (long_but m none told) m n own x))

pub finish_read : (m map t u v : List ℕ) (n b i k : ℕ) → b ≤ most_image_blocks → Maps (is_long m) m n (most_blocks * n) map
    → i ≡ count_to (inode_free m) n → k ≡ count_to (lacks map) b → t ≡ put_counts m m n n → u ≡ put_free t i k → v ≡ put_complete u is_complete → v ≡ finish_image m n b
unfolding finish_image
finish_read m map t u v n b i k l s e f p q r =
    r ∙ ap (λ (x : List ℕ). put_complete x 1) (q ∙ rw (p, e, f, map_count (is_long m) m n map s b l))
