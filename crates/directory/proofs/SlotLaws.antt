-- Laws of a directory's slots: where they lie, how they are searched block by block, and what a write leaves. n is the inode count.
use Rattle.std.specs.Prelude.{None, Option, Some}
use Prim.Native.Nat.{ℕ, ◌+◌, ◌*◌, ◌-◌, ◌/◌, ◌%◌, ◌≤◌, ◌<◌}
use mathlib.Core.Path.{◌≡◌, sym, ap, ◌∙◌}
use mathlib.Core.Logic.{◌≢◌}
use mathlib.Core.Bool.{Bool, true, false}
use mathlib.Core.List.{List}
use native.Mathlib.Omega.{arith}
use lib.ListN.{length, take, drop, replicate, length-replicate}
use Rattle.bounded.specs.Search.{first, first_from, on_found}
use Rattle.bounded.proofs.SearchLaws.{Lowest, found_lowest, none_below, first_begin, first_end, first_ext, first_skip, first_hit, first_shift}
use Rattle.octets.specs.Octets.{Octets, part, splice, Apart}
use Rattle.octets.proofs.PartLaws.{length_splice, cut, part_part, part_apart, part_same, octets_part}
use Rattle.octets.proofs.OverlayLaws.{overlay}
use Rattle.layout.specs.Inode.{size_of, address_index}
use Rattle.blocks.specs.Block.{block_at, blocks_used, kth_block, put_in_block}
use Rattle.blocks.proofs.KthLaws.{kth_direct}
use Rattle.blocks.proofs.View.{view_of, with_content}
use Rattle.blocks.proofs.FrameLaws.{size_apart, address_apart}
use Rattle.blocks.proofs.ViewLaws.{inode_fits, view_in_block}
use Rattle.names.specs.declared.Name.{Name}
use Rattle.names.specs.Entry.{is_empty, same_name, entry_for}
use Rattle.names.proofs.EntryLaws.{same_words_lem, length_entry}
use Rattle.names.specs.Words.{words_at, same_words}
use Rattle.directory.specs.Slot.{most_slots, slots, slot_at, entry_of, slot_has_name, find_slot, slot_empty, empty_slot, put_entry, clear_entry}
use Rattle.blocks.specs.Fits.{BlockFits}
use Rattle.directory.specs.Fits.{DirFits}

-- ---- where slots lie
pub slot_low : (s : List ℕ) (n d t : ℕ) → 16 + 32 * n ≤ slot_at s n d t
unfolding slot_at
slot_low s n d t = omega arith

-- the slots of a directory that fits, and its blocks
module _ (s : List ℕ) (n d : ℕ) (f : DirFits s n d) where
  -- "at most 48"
  pub few_slots : slots s d ≤ most_slots
  unfolding slots
  few_slots = let b = f.few in omega arith

  pub few_blocks : (k : ℕ) → 4 * k < slots s d → k < 12
  few_blocks k l = let b = few_slots in omega arith

  pub block_fits : (k : ℕ) → 4 * k < slots s d → BlockFits s n (kth_block s n d k)
  unfolding slots
  block_fits k l = f.blocks k (omega arith)

  pub slot_fits : (t : ℕ) → t < slots s d → slot_at s n d t + 16 ≤ length s
  unfolding slot_at
  slot_fits t l = let b = block_fits (t / 4) (omega arith) in omega arith

-- two slots in different blocks, two in one block, and two of one directory's block
module _ (s : List ℕ) (n d t e u : ℕ) where
  pub apart_blocks : kth_block s n d (t / 4) ≢ kth_block s n e (u / 4) → 1 ≤ kth_block s n d (t / 4) → 1 ≤ kth_block s n e (u / 4) → Apart (slot_at s n d t) 16 (slot_at s n e u) 16
  unfolding slot_at
  apart_blocks q a b = omega arith

  pub apart_in_block : kth_block s n d (t / 4) ≡ kth_block s n e (u / 4) → t % 4 ≢ u % 4 → Apart (slot_at s n d t) 16 (slot_at s n e u) 16
  unfolding slot_at
  apart_in_block q r = omega arith

pub apart_slots : (s : List ℕ) (n d t e u : ℕ) → d ≡ e → t / 4 ≡ u / 4 → t ≢ u → Apart (slot_at s n d t) 16 (slot_at s n e u) 16
apart_slots s n d t e u p q r = apart_in_block s n d t e u (cc) (λ m. r (omega arith))

-- ---- searches
-- what a search that ended says
module _ (s : List ℕ) (n d : ℕ) (name : List ℕ) where
  pub find_lowest : (t : ℕ) → find_slot s n d name ≡ Some t → Lowest (slot_has_name s n d name) 0 (slots s d) t
  unfolding find_slot first
  find_lowest t e = found_lowest (slot_has_name s n d name) 0 (slots s d) t e

  pub find_below : (t : ℕ) → find_slot s n d name ≡ Some t → t < slots s d
  find_below t e = let l = find_lowest t e in omega arith

  pub find_named : (t : ℕ) → find_slot s n d name ≡ Some t → same_name (entry_of s n d t) name ≡ true
  find_named t e = unfold slot_has_name in (find_lowest t e).holds

  pub find_absent : find_slot s n d name ≡ None → (t : ℕ) → t < slots s d → slot_has_name s n d name t ≡ false
  unfolding find_slot first
  find_absent e t l = none_below (slot_has_name s n d name) 0 (slots s d) e t (omega arith) (omega arith)

module _ (s : List ℕ) (n d : ℕ) where
  pub empty_lowest : (t : ℕ) → empty_slot s n d ≡ Some t → Lowest (slot_empty s n d) 0 (slots s d) t
  unfolding empty_slot first
  empty_lowest t e = found_lowest (slot_empty s n d) 0 (slots s d) t e

  pub empty_below : (t : ℕ) → empty_slot s n d ≡ Some t → t < slots s d
  empty_below t e = let l = empty_lowest t e in omega arith

  pub empty_at : (t : ℕ) → empty_slot s n d ≡ Some t → is_empty (entry_of s n d t) ≡ true
  empty_at t e = unfold slot_empty in (empty_lowest t e).holds

  pub empty_absent : empty_slot s n d ≡ None → (t : ℕ) → t < slots s d → slot_empty s n d t ≡ false
  unfolding empty_slot first
  empty_absent e t l = none_below (slot_empty s n d) 0 (slots s d) e t (omega arith) (omega arith)

-- ---- searches block by block, of a test p on entries
-- what is left to search from block k on
unfoldable pub from_block : (List ℕ → Bool) → List ℕ → ℕ → ℕ → ℕ → Option ℕ
from_block p s n d k = first_from (λ t. p (entry_of s n d t)) (4 * k) (slots s d - 4 * k)

module _ (p : List ℕ → Bool) (s : List ℕ) (n d : ℕ) where
  pub blocks_begin : first (λ t. p (entry_of s n d t)) (slots s d) ≡ from_block p s n d 0
  unfolding from_block
  blocks_begin = first_begin (λ t. p (entry_of s n d t)) (slots s d)

  pub blocks_end : (k : ℕ) → slots s d / 4 ≤ k → from_block p s n d k ≡ None
  unfolding from_block slots
  blocks_end k l = first_end (λ t. p (entry_of s n d t)) (4 * k) (slots s d) (omega arith)

  -- block k starts at o, and r is what the search of its four entries says
  module _ (k : ℕ) {o : ℕ} {r : Option ℕ} (h : o ≡ block_at n (kth_block s n d k)) (g : r ≡ first (λ j. p (part (take (o + 64 - o) (drop o s)) (16 * j) 16)) 4) where
    entry_in_block : (j : ℕ) → j < 4 → part (take (o + 64 - o) (drop o s)) (16 * j) 16 ≡ entry_of s n d (4 * k + j)
    unfolding entry_of slot_at
    entry_in_block j m =
        let a : (4 * k + j) / 4 ≡ k = omega arith in
        let b : (4 * k + j) % 4 ≡ j = omega arith in
        rw (a, b, cut, ← h) (part_part s o 64 (16 * j) 16 (omega arith))

    four : on_found r (λ j. Some (4 * k + j)) None ≡ first_from (λ t. p (entry_of s n d t)) (4 * k) 4
    unfolding first
    four =
        let z : 4 * k + 0 ≡ 4 * k = omega arith in
        ap (λ (x : Option ℕ). on_found x (λ j. Some (4 * k + j)) None)
        (g ∙ first_ext (λ j. p (part (take (o + 64 - o) (drop o s)) (16 * j) 16)) (λ j. p (entry_of s n d (4 * k + j))) 0 4 (λ j a b. ap p (entry_in_block j (omega arith))))
        ∙ first_shift (λ t. p (entry_of s n d t)) (4 * k) 0 4
        ∙ ap (λ (i : ℕ). first_from (λ t. p (entry_of s n d t)) i 4) z

    pub block_hit : k < slots s d / 4 → {j : ℕ} → r ≡ Some j → from_block p s n d k ≡ Some (4 * k + j)
    unfolding from_block
    block_hit l {j} e =
        first_hit (λ t. p (entry_of s n d t)) (4 * k) 4 (slots s d - 4 * k) (4 * k + j) (omega arith) (sym four ∙ rw e)

    pub block_skip : k < slots s d / 4 → r ≡ None → from_block p s n d k ≡ from_block p s n d (k + 1)
    unfolding from_block
    block_skip l e =
        let a : 4 * k + 4 ≡ 4 * (k + 1) = omega arith in
        let b : slots s d - 4 * k - 4 ≡ slots s d - 4 * (k + 1) = omega arith in
        first_skip (λ t. p (entry_of s n d t)) (4 * k) 4 (slots s d - 4 * k) (omega arith) (sym four ∙ rw e) ∙ rw (a, b)

-- names are compared as words
abbrev pub words_test : Name → List ℕ → Bool
words_test w e = same_words (words_at e 2) w

pub find_words : (s : List ℕ) (n d : ℕ) (name : List ℕ) (w : Name) → Octets s → Octets name → w ≡ words_at name 0 → first (λ t. words_test w (entry_of s n d t)) (slots s d) ≡ find_slot s n d name
unfolding find_slot first slot_has_name entry_of
find_words s n d name w hs hn e =
    ap (λ (v : Name). first (λ t. words_test v (entry_of s n d t)) (slots s d)) e
    ∙ first_ext (λ t. words_test (words_at name 0) (entry_of s n d t)) (slot_has_name s n d name) 0 (slots s d)
    (λ t a b. same_words_lem (entry_of s n d t) name (octets_part s (slot_at s n d t) 16 hs) hn)

-- ---- a write past the inodes
module _ (s : List ℕ) (n p : ℕ) (xs : List ℕ) (h : 16 + 32 * n ≤ p) where
  module _ (e : ℕ) (l : 1 ≤ e) (m : e ≤ n) where
    pub size_past : size_of (splice s p xs) e ≡ size_of s e
    size_past = size_apart s p xs e (omega arith)

    pub slots_past : slots (splice s p xs) e ≡ slots s e
    unfolding slots
    slots_past = rw size_past

    pub block_past : (k : ℕ) → k < 12 → kth_block (splice s p xs) n e k ≡ kth_block s n e k
    block_past k b = kth_direct _ (splice s p xs) n e k b ∙ address_apart s p xs n (address_index e k) (omega arith) ∙ sym (kth_direct _ s n e k b)

    pub slot_past : (u : ℕ) → u < 48 → slot_at (splice s p xs) n e u ≡ slot_at s n e u
    unfolding slot_at
    slot_past u b = rw (block_past (u / 4) (omega arith))

    pub entry_past : (u : ℕ) → u < 48 → Apart (slot_at s n e u) 16 p (length xs) → entry_of (splice s p xs) n e u ≡ entry_of s n e u
    unfolding entry_of
    entry_past u b a = rw (slot_past u b) (part_apart s (slot_at s n e u) 16 p xs a)

  pub fits_past : (e : ℕ) → DirFits s n e → DirFits (splice s p xs) n e
  fits_past e f =
      let l = f.inode.low in
      let m = f.inode.high in
      let g = f.few in
      let z = size_past e l m in
      let w = length_splice s p xs in
      record {
        inode = inode_fits s (splice s p xs) n e w f.inode;
        few = rw z g;
        blocks = λ k b.
            let b' : k < blocks_used (size_of s e) = rw z at b in
            let r = f.blocks k b' in
            rw (block_past e l m k (omega arith)) (record { low = r.low; inside = omega arith });
      }

-- ---- a write of 16 bytes to slot t of d
module _ (s : List ℕ) (n d t : ℕ) (xs : List ℕ) (z : length xs ≡ 16) where
  view_slot : slot_at s n d t + 16 ≤ length s → view_of n (splice s (slot_at s n d t) xs) ≡ with_content (view_of n s) (overlay (view_of n s).content (slot_at s n d t - (16 + 32 * n)) xs)
  unfolding slot_at put_in_block
  view_slot f =
      let b = kth_block s n d (t / 4) in
      let o : 64 * (b - 1) + 16 * (t % 4) ≡ block_at n b + 16 * (t % 4) - (16 + 32 * n) = omega arith in
      let v : view_of n (put_in_block s n b (16 * (t % 4)) xs) ≡ with_content (view_of n s) (overlay (view_of n s).content (64 * (b - 1) + 16 * (t % 4)) xs) = view_in_block n s b (16 * (t % 4)) xs (omega arith) in
      v ∙ ap (λ (q : ℕ). with_content (view_of n s) (overlay (view_of n s).content q xs)) o

  entry_same : 1 ≤ d → d ≤ n → t < 48 → slot_at s n d t + 16 ≤ length s → entry_of (splice s (slot_at s n d t) xs) n d t ≡ xs
  unfolding entry_of
  entry_same l m b f =
      rw (slot_past s n (slot_at s n d t) xs (slot_low s n d t) d l m t b) (part_same s (slot_at s n d t) xs 16 z f)

  entry_other : (e u : ℕ) → 1 ≤ e → e ≤ n → u < 48 → Apart (slot_at s n e u) 16 (slot_at s n d t) 16 → entry_of (splice s (slot_at s n d t) xs) n e u ≡ entry_of s n e u
  entry_other e u l m b a = entry_past s n (slot_at s n d t) xs (slot_low s n d t) e l m u b (omega arith)

-- an entry put
module _ (s : List ℕ) (n d t i : ℕ) (name : List ℕ) where
  pub length_put : length (put_entry s n d t i name) ≡ length s
  unfolding put_entry
  length_put = length_splice s (slot_at s n d t) (entry_for i name)

  pub slots_put : (e : ℕ) → 1 ≤ e → e ≤ n → slots (put_entry s n d t i name) e ≡ slots s e
  unfolding put_entry
  slots_put = slots_past s n (slot_at s n d t) (entry_for i name) (slot_low s n d t)

  pub slot_put : (e : ℕ) → 1 ≤ e → e ≤ n → (u : ℕ) → u < 48 → slot_at (put_entry s n d t i name) n e u ≡ slot_at s n e u
  unfolding put_entry
  slot_put = slot_past s n (slot_at s n d t) (entry_for i name) (slot_low s n d t)

  pub fits_put : (e : ℕ) → DirFits s n e → DirFits (put_entry s n d t i name) n e
  unfolding put_entry
  fits_put = fits_past s n (slot_at s n d t) (entry_for i name) (slot_low s n d t)

  pub view_put : slot_at s n d t + 16 ≤ length s → view_of n (put_entry s n d t i name) ≡ with_content (view_of n s) (overlay (view_of n s).content (slot_at s n d t - (16 + 32 * n)) (entry_for i name))
  unfolding put_entry
  view_put = view_slot s n d t (entry_for i name) (length_entry i name)

  pub entry_put : 1 ≤ d → d ≤ n → t < 48 → slot_at s n d t + 16 ≤ length s → entry_of (put_entry s n d t i name) n d t ≡ entry_for i name
  unfolding put_entry
  entry_put = entry_same s n d t (entry_for i name) (length_entry i name)

  pub entry_put_other : (e u : ℕ) → 1 ≤ e → e ≤ n → u < 48 → Apart (slot_at s n e u) 16 (slot_at s n d t) 16 → entry_of (put_entry s n d t i name) n e u ≡ entry_of s n e u
  unfolding put_entry
  entry_put_other = entry_other s n d t (entry_for i name) (length_entry i name)

-- an entry cleared
module _ (s : List ℕ) (n d t : ℕ) where
  pub length_clear : length (clear_entry s n d t) ≡ length s
  unfolding clear_entry
  length_clear = length_splice s (slot_at s n d t) (replicate 16 0)

  pub slots_clear : (e : ℕ) → 1 ≤ e → e ≤ n → slots (clear_entry s n d t) e ≡ slots s e
  unfolding clear_entry
  slots_clear = slots_past s n (slot_at s n d t) (replicate 16 0) (slot_low s n d t)

  pub slot_clear : (e : ℕ) → 1 ≤ e → e ≤ n → (u : ℕ) → u < 48 → slot_at (clear_entry s n d t) n e u ≡ slot_at s n e u
  unfolding clear_entry
  slot_clear = slot_past s n (slot_at s n d t) (replicate 16 0) (slot_low s n d t)

  pub fits_clear : (e : ℕ) → DirFits s n e → DirFits (clear_entry s n d t) n e
  unfolding clear_entry
  fits_clear = fits_past s n (slot_at s n d t) (replicate 16 0) (slot_low s n d t)

  pub view_clear : slot_at s n d t + 16 ≤ length s → view_of n (clear_entry s n d t) ≡ with_content (view_of n s) (overlay (view_of n s).content (slot_at s n d t - (16 + 32 * n)) (replicate 16 0))
  unfolding clear_entry
  view_clear = view_slot s n d t (replicate 16 0) (length-replicate {A = ℕ} 16 0)

  pub entry_clear : 1 ≤ d → d ≤ n → t < 48 → slot_at s n d t + 16 ≤ length s → entry_of (clear_entry s n d t) n d t ≡ replicate 16 0
  unfolding clear_entry
  entry_clear = entry_same s n d t (replicate 16 0) (length-replicate {A = ℕ} 16 0)

  pub entry_clear_other : (e u : ℕ) → 1 ≤ e → e ≤ n → u < 48 → Apart (slot_at s n e u) 16 (slot_at s n d t) 16 → entry_of (clear_entry s n d t) n e u ≡ entry_of s n e u
  unfolding clear_entry
  entry_clear_other = entry_other s n d t (replicate 16 0) (length-replicate {A = ℕ} 16 0)
