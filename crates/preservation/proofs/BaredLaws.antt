-- An inode is written with no blocks: a new one, or one that is freed. What that keeps. n and b are the counts of inodes and blocks.
use Prim.Native.Nat.{ℕ, ◌+◌, ◌-◌, ◌*◌, ◌/◌, ◌%◌, ◌≤◌, ◌<◌}
use mathlib.Core.Path.{◌≡◌, refl, sym, ap, ◌∙◌}
use mathlib.Core.Bool.{false}
use mathlib.Core.List.{List}
use native.Mathlib.Decide.{ℕ_discrete, dec_lt}
use native.Mathlib.Omega.{arith}
use lib.Dec.{eqb}
use lib.ListN.{length, get_or, replicate, get_or-replicate, length-replicate}
use Rattle.bounded.specs.Count.{one, Differ, count_to}
use Rattle.bounded.proofs.BoolLaws.{clash, fails}
use Rattle.bounded.proofs.ReflectLaws.{r_fails}
use Rattle.bounded.proofs.CaseLaws.{each_else}
use Rattle.bounded.proofs.DifferLaws.{differ_less}
use Rattle.bounded.proofs.TallyLaws.{count_but}
use Rattle.layout.specs.Sizes.{address_count, most_blocks, block_bytes}
use Rattle.layout.specs.Header.{header_of}
use Rattle.layout.specs.declared.inode.Inode.{Inode}
use Rattle.layout.specs.Inode.{kind_of, size_of, put_inode, free_kind, file_kind, directory_kind, inode_free}
use Rattle.blocks.specs.Block.{is_long, blocks_used, kth_block, bytes_block, row_of}
use Rattle.blocks.proofs.KthLaws.{kth_direct, kth_none, few_alike}
use Rattle.blocks.specs.Free.{block_free}
use Rattle.layout.specs.Fits.{InodeFits}
use Rattle.directory.specs.Slot.{most_slots, slots}
use Rattle.sound.specs.Place.{dir_of, is_slot, filled, naming}
use Rattle.sound.specs.Inode.{InodeSound}
use Rattle.sound.proofs.PlaceLaws.{slot_is, filled_is, naming_filled}
use Rattle.preservation.proofs.SameLaws.{OtherInodes, SameFrame, SameBlock, same_body, NewInode, InCounts, frame_then, inode_then, put_inode_lem, inode_new, inode_blocks}
use Rattle.preservation.proofs.KeepLaws.{SamePlace, place_kept, inode_kept}
use Rattle.preservation.proofs.AddressLaws.{row_at, unnamed_change}
use Rattle.preservation.proofs.StockLaws.{Stock}

-- inode i is v, which has no blocks; the other inodes and the bytes of blocks stay
pub record Bared (s t : List ℕ) (n i : ℕ) (v : Inode) : Type 0 where
  pub frame : SameFrame s t
  pub others : OtherInodes s t n i
  pub bytes : (c : ℕ) → SameBlock s t n c
  pub new : NewInode t i v
  pub none : (k : ℕ) → k < most_blocks → kth_block t n i k ≡ 0

-- the inode is written, and then the free counts
pub put_bared : (s t : List ℕ) (n i a c : ℕ) (v : Inode) → InodeFits s n i → v.addresses ≡ replicate address_count 0 → InCounts (put_inode s n i v) t n a c → Bared s t n i v
put_bared s t n i a c v f e r =
    let l : length v.addresses ≡ address_count = ap length e ∙ length-replicate {A = ℕ} address_count 0 in
    let p = put_inode_lem s n i f v l in
    let w = inode_new s n i f v l in
    let q = r.inodes i f.low f.high in
    record {
      frame = frame_then p.frame r.frame;
      others = λ j y z o. inode_then (p.others j y z o) (r.inodes j y z);
      bytes = λ g. r.bytes g ∙ p.bytes g;
      new = record { kind = q.kind ∙ w.kind; spare = q.spare ∙ w.spare; links = q.links ∙ w.links; size = q.size ∙ w.size; parent = q.parent ∙ w.parent };
      none = λ k o. at k o (dec_lt k 12);
    }
  where
    twelve : (k : ℕ) → k < 12 → kth_block t n i k ≡ 0
    twelve k o =
        let l : length v.addresses ≡ address_count = ap length e ∙ length-replicate {A = ℕ} address_count 0 in
        (r.inodes i f.low f.high).blocks k (omega arith) ∙ inode_blocks s n i f v l k o ∙ ap (λ (g : List ℕ). get_or g k 0) e ∙ get_or-replicate address_count k 0 0 o

    -- with no address block there is nothing behind it
    at : (k : ℕ) → k < most_blocks → Dec (k < 12) → kth_block t n i k ≡ 0
    at k o (yes m) = twelve k m
    at k o (no m) = few_alike t n i k (is_long t i) false (sym (kth_direct (is_long t i) t n i 11 (omega arith)) ∙ twelve 11 (omega arith)) o ∙ kth_none false t n i k refl (omega arith)

-- an inode of size 0 has no slots
no_slots : (s : List ℕ) (q : ℕ) → size_of s (dir_of q) ≡ 0 → is_slot s q ≡ false
unfolding slots blocks_used
no_slots s q z = r_fails (slot_is s q) (λ r. let l = r.1 in omega arith)

pub no_blocks : (z : ℕ) → z ≡ 0 → blocks_used z ≡ 0
unfolding blocks_used
no_blocks z e = omega arith

-- a place at which no entry stands names nothing
pub naming_none : (s : List ℕ) (n q : ℕ) → filled s n q ≡ false → naming s n q ≡ 0
naming_none s n q g = elim (ℕ_discrete (naming s n q) 0) as (λ _. naming s n q ≡ 0) [ yes z ↦ z | no z ↦ absurd (clash (filled s n q) (naming_filled s n q (omega arith)) g) ]

-- and stays where none stands after
pub place_none : (s t : List ℕ) (n q : ℕ) → filled s n q ≡ false → filled t n q ≡ false → SamePlace s t n q
place_none s t n q e f = record {
  stands = f ∙ sym e;
  names = naming_none t n q f ∙ sym (naming_none s n q e);
  entry = λ z. absurd (clash (filled s n q) z e);
}

module _ (s t : List ℕ) (n i : ℕ) (v : Inode) (a : Bared s t n i v) (empty : v.size ≡ 0) where
  size_none : size_of t i ≡ 0
  size_none = a.new.size ∙ empty

  -- no entry stood in i: all places stay
  pub bared_places : ((q : ℕ) → q < most_slots * n → dir_of q ≡ i → filled s n q ≡ false) → (q : ℕ) → q < most_slots * n → SamePlace s t n q
  bared_places bare q l = elim (ℕ_discrete (dir_of q) i) as (λ _. SamePlace s t n q) [
    | yes e ↦ place_none s t n q (bare q l e)
        (fails (filled t n q) (λ z. clash (is_slot t q) ((filled_is t n q).to z).0 (no_slots t q (ap (size_of t) e ∙ size_none))))
    | no e ↦ place_kept s t n q (same_body (a.others (dir_of q) (omega arith) (omega arith) e)) (λ k _ _. a.bytes (kth_block s n (dir_of q) k))
  ]

  module _ (b : ℕ) (low : 1 ≤ i) (high : i ≤ n) (h : Stock s n b) (kind : v.kind ≤ directory_kind)
      (free : v.kind ≡ free_kind → (v.links ≡ 0) × (v.parent ≡ 0)) (file : v.kind ≡ file_kind → v.parent ≡ 0) where
    new_inode_lem : InodeSound t n b i
    unfolding blocks_used
    new_inode_lem =
        let r = a.new in
        let z = size_none in
        record {
          kind = rw r.kind kind;
          spare = r.spare;
          free = λ k. let f = free (sym r.kind ∙ k) in (r.links ∙ f.0, (z, r.parent ∙ f.1));
          size = omega arith;
          used = λ k l w. absurd (omega arith);
          rest = λ k l w. a.none k l;
          directory = λ _. omega arith;
          tail = λ _ q o l w. absurd (q (omega arith));
          parent = λ k. r.parent ∙ file (sym r.kind ∙ k);
        }

    inodes : (j : ℕ) → 1 ≤ j → j ≤ n → InodeSound t n b j
    inodes j l m = each_else (InodeSound t n b) i j new_inode_lem
        (λ z. inode_kept s t n b j (a.others j l m z) (λ _ _. a.bytes (bytes_block s n j (size_of s j / block_bytes))) (h.inodes j l m))

    once : Differ (row_of t n) (most_blocks * n)
    once = differ_less (row_of s n) (row_of t n) (most_blocks * n) h.once (λ y l o. at y l o (ℕ_discrete (y / 44 + 1) i))
      where
        at : (y : ℕ) → y < most_blocks * n → 0 < row_of t n y → Dec (y / 44 + 1 ≡ i) → row_of t n y ≡ row_of s n y
        at y l o (yes e) =
            let z : row_of t n y ≡ 0 = row_at t n y ∙ ap (λ (j : ℕ). kth_block t n j (y % 44)) e ∙ a.none (y % 44) (omega arith) in
            absurd (omega arith)
        at y l o (no e) =
            row_at t n y ∙ (a.others (y / 44 + 1) (omega arith) (omega arith) e).blocks (y % 44) (omega arith) ∙ sym (row_at s n y)

    -- the blocks that i had are unnamed
    pub bared_unnamed : count_to (block_free t n) b ≡ count_to (block_free s n) b + blocks_used (size_of s i)
    bared_unnamed =
        let c = unnamed_change s t n b i low high h.inodes inodes h.once once (λ j l m z. (a.others j l m z).size) in
        let z = no_blocks (size_of t i) size_none in
        omega arith

    -- i is free or not
    pub bared_free : count_to (inode_free t) n + one (eqb (kind_of s i) free_kind) ≡ count_to (inode_free s) n + one (eqb v.kind free_kind)
    bared_free =
        let e : i - 1 + 1 ≡ i = omega arith in
        let c = count_but (λ k. inode_free s (k + 1)) (λ k. inode_free t (k + 1)) n (i - 1) (omega arith) (λ q l z. ap (λ (y : ℕ). eqb y free_kind) (a.others (q + 1) (omega arith) (omega arith) (λ o. z (omega arith))).kind) in
        let f : one (eqb (kind_of s (i - 1 + 1)) free_kind) ≡ one (eqb (kind_of s i) free_kind) = ap (λ (y : ℕ). one (eqb (kind_of s y) free_kind)) e in
        let g : one (eqb (kind_of t (i - 1 + 1)) free_kind) ≡ one (eqb v.kind free_kind) = ap (λ (y : ℕ). one (eqb (kind_of t y) free_kind)) e ∙ ap (λ (y : ℕ). one (eqb y free_kind)) a.new.kind in
        omega arith

    pub bared_stock : (header_of t).free_inodes ≡ count_to (inode_free t) n → (header_of t).free_blocks ≡ count_to (block_free t n) b → Stock t n b
    bared_stock x y = record { inodes = inodes; once = once; free_inodes = x; free_blocks = y }
