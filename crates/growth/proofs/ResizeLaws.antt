-- A file gets another size and other blocks, whichever: what changes, and that a sound store stays sound. n and b are the counts of inodes and blocks, i is the file, z its new size and f its new blocks.
use Prim.Native.Nat.{ℕ, ◌+◌, ◌*◌, ◌/◌, ◌%◌, ◌≤◌, ◌<◌}
use mathlib.Core.Path.{◌≡◌, refl, sym, ap, ◌∙◌, subst}
use mathlib.Core.Logic.{◌≢◌}
use mathlib.Core.Bool.{Bool, true, false}
use mathlib.Core.List.{List}
use native.Mathlib.Omega.{arith}
use borrow.Author.Tests.{eq-eqb, ltb-true, ltb-false}
use lib.Dec.{ltb}
use lib.ListN.{length, get_or}
use Rattle.bounded.specs.Count.{Differ}
use Rattle.bounded.proofs.CaseLaws.{each_else}
use Rattle.layout.specs.Sizes.{address_count, address_place, block_bytes, most_blocks, most_direct_bytes, most_file_bytes}
use Rattle.layout.specs.declared.inode.Inode.{Inode}
use Rattle.layout.specs.Header.{header_of}
use Rattle.layout.specs.Inode.{kind_of, spare_of, links_of, size_of, parent_of, inode_of, put_attributes, with_size, file_kind}
use Rattle.layout.specs.Fits.{InodeFits}
use Rattle.blocks.specs.Block.{store_length, block_of, blocks_used, bytes_place, is_long, kth_by, kth_block, bytes_block, row_of, put_row}
use Rattle.blocks.proofs.ViewLaws.{inode_fits}
use Rattle.ledger.proofs.Ledger.{Ledger}
use Rattle.ledger.proofs.LedgerLaws.{one_kth, ledger_same}
use Rattle.ledger.proofs.ChangeLaws.{Rewritten}
use Rattle.ledger.proofs.BytesLaws.{bytes_blocks, used_limits, used_short, used_long, place_used, place_bytes}
use Rattle.sound.specs.Inode.{InodeSound}
use Rattle.sound.specs.Sound.{Sound}
use Rattle.sound.specs.Counted.{SoundStore}
use Rattle.sound.proofs.SoundLaws.{most_file}
use Rattle.sound.specs.declared.Form.TheVariants.{Store}
use Rattle.preservation.proofs.SameLaws.{SameFrame, SameInode, SameBlock, OtherInodes, InInode, InCounts, same_long, frame_stays, frame_then, inode_stays, inode_then, put_attributes_lem, attributes_blocks, attributes_new}
use Rattle.preservation.proofs.KeepLaws.{Body, body_of, inode_kept, file_tree, sound_kept}
use Rattle.preservation.proofs.AddressLaws.{same_differ, unnamed_change}
use Rattle.preservation.proofs.StoreLaws.{sized_at, fits, blocks_of_lem, ledger_at}
use Rattle.growth.proofs.FileFrame.{InFile}
use Rattle.growth.proofs.RowFrame.{SameAttributes, row_attributes}

-- blocks that no inode has may change
pub record Unused (s t : List ℕ) (n : ℕ) : Type 0 where
  pub frame : SameFrame s t
  pub header : header_of t ≡ header_of s
  pub inodes : (j : ℕ) → 1 ≤ j → j ≤ n → SameInode s t n j
  pub used : (j u : ℕ) → 1 ≤ j → j ≤ n → u < blocks_used (size_of s j) → SameBlock s t n (kth_block s n j u)

pub unused_stay : (s : List ℕ) (n : ℕ) → Unused s s n
unused_stay s n = record { frame = frame_stays s; header = refl; inodes = λ j _ _. inode_stays s n j; used = λ j u _ _ _. refl }

-- s₂ is s with the size z for file i, and s₁ has the blocks that s had, from which those of s₂ are made
pub record Resize (s s₁ s₂ : List ℕ) (n b i z : ℕ) : Type 0 where
  pub frame : SameFrame s s₂
  pub header : header_of s₂ ≡ header_of s
  pub kind : (j : ℕ) → 1 ≤ j → j ≤ n → kind_of s₂ j ≡ kind_of s j
  pub links : (j : ℕ) → 1 ≤ j → j ≤ n → links_of s₂ j ≡ links_of s j
  pub parent : (j : ℕ) → 1 ≤ j → j ≤ n → parent_of s₂ j ≡ parent_of s j
  pub spare : spare_of s₂ i ≡ 0
  pub size : size_of s₂ i ≡ z
  pub spares : (j : ℕ) → 1 ≤ j → j ≤ n → j ≢ i → spare_of s₂ j ≡ spare_of s j
  pub sizes : (j : ℕ) → 1 ≤ j → j ≤ n → j ≢ i → size_of s₂ j ≡ size_of s j
  pub long : length s₁ ≡ store_length n b
  pub old : (j u : ℕ) → 1 ≤ j → j ≤ n → u < most_blocks → kth_by (is_long s j) s₁ n j u ≡ kth_block s n j u
  pub bytes : (j u : ℕ) → 1 ≤ j → j ≤ n → u < blocks_used (size_of s j) → SameBlock s s₁ n (kth_block s n j u)

-- by the flags of s, an inode that stays has the blocks that it had
by_flags : {s t : List ℕ} {n j : ℕ} → SameInode s t n j → (u : ℕ) → u < most_blocks → kth_by (is_long s j) t n j u ≡ kth_by (is_long s j) s n j u
by_flags {s} {t} {n} {j} e u l = ap (λ (x : Bool). kth_by x t n j u) (sym (same_long s t j e.kind e.size)) ∙ e.blocks u l

-- ---- the two writes: attributes, then addresses
module _ {s s₀ : List ℕ} {n b : ℕ} (h : SoundStore s n b) (free : Unused s s₀ n) (i : ℕ) (low : 1 ≤ i) (high : i ≤ n) (z : ℕ) (row : List ℕ) where
  abbrev v : Inode
  v = with_size (inode_of s₀ n i) z

  abbrev s₁ : List ℕ
  s₁ = put_attributes s₀ i v

  fits₀ : InodeFits s₀ n i
  fits₀ = inode_fits s s₀ n i free.frame.long (fits h i low high)

  attributes : InInode s₀ s₁ n i
  attributes = put_attributes_lem s₀ n i fits₀ v

  rows : SameAttributes s₁ (put_row (ltb most_direct_bytes z) s₁ n i row) n
  rows = row_attributes (ltb most_direct_bytes z) s₁ n i row

  -- a field of an inode, where i keeps it
  each : (g : List ℕ → ℕ → ℕ) → g s₁ i ≡ g s₀ i → ((x w : List ℕ) (j : ℕ) → SameInode x w n j → g w j ≡ g x j) → (j : ℕ) → 1 ≤ j → j ≤ n → g s₁ j ≡ g s j
  each g e d j l r =
      each_else (λ k. g s₁ k ≡ g s₀ k) i j e (λ q. d s₀ s₁ j (attributes.others j l r q))
      ∙ d s s₀ j (free.inodes j l r)

  -- and where it does not
  other : (g : List ℕ → ℕ → ℕ) → ((x w : List ℕ) (j : ℕ) → SameInode x w n j → g w j ≡ g x j) → (j : ℕ) → 1 ≤ j → j ≤ n → j ≢ i → g s₁ j ≡ g s j
  other g d j l r q = d s₀ s₁ j (attributes.others j l r q) ∙ d s s₀ j (free.inodes j l r)

  old : (j u : ℕ) → 1 ≤ j → j ≤ n → u < most_blocks → kth_by (is_long s j) s₁ n j u ≡ kth_block s n j u
  old j u l r q =
      each_else (λ x. kth_by (is_long s x) s₁ n x u ≡ kth_by (is_long s x) s₀ n x u) i j (attributes_blocks s₀ n i fits₀ v (is_long s i) u q)
      (λ e. ap (λ (x : Bool). kth_by x s₁ n j u) (flag e) ∙ (attributes.others j l r e).blocks u q ∙ ap (λ (x : Bool). kth_by x s₀ n j u) (same_long s s₀ j (free.inodes j l r).kind (free.inodes j l r).size))
      ∙ by_flags (free.inodes j l r) u q
    where
      flag : j ≢ i → is_long s j ≡ is_long s₁ j
      flag e = let w = inode_then (free.inodes j l r) (attributes.others j l r e) in sym (same_long s s₁ j w.kind w.size)

  pub resize : Resize s (put_attributes s₀ i (with_size (inode_of s₀ n i) z)) (put_row (ltb most_direct_bytes z) (put_attributes s₀ i (with_size (inode_of s₀ n i) z)) n i row) n b i z
  unfolding inode_of
  resize =
      let new = attributes_new s₀ n i fits₀ v in
      record {
        frame = frame_then free.frame (frame_then attributes.frame rows.frame);
        header = rows.header ∙ attributes.header ∙ free.header;
        kind = λ j l r. rows.kind j l r ∙ each kind_of new.kind (λ _ _ _ d. d.kind) j l r;
        links = λ j l r. rows.links j l r ∙ each links_of new.links (λ _ _ _ d. d.links) j l r;
        parent = λ j l r. rows.parent j l r ∙ each parent_of new.parent (λ _ _ _ d. d.parent) j l r;
        spare = rows.spare i low high ∙ new.spare;
        size = rows.size i low high ∙ new.size;
        spares = λ j l r q. rows.spare j l r ∙ other spare_of (λ _ _ _ d. d.spare) j l r q;
        sizes = λ j l r q. rows.size j l r ∙ other size_of (λ _ _ _ d. d.size) j l r q;
        long = attributes.frame.long ∙ free.frame.long ∙ (sized_at h).long;
        old = old;
        bytes = λ j u l r q. attributes.bytes (kth_block s n j u) ∙ free.used j u l r q;
      }

-- ---- what the ledger's laws ask for
module _ {s s₁ s₂ : List ℕ} {n b i z : ℕ} (h : SoundStore s n b) (file : kind_of s i ≡ file_kind) (low : 1 ≤ i) (high : i ≤ n) (w : Resize s s₁ s₂ n b i z) where
  pub before : Ledger (is_long s) (λ j. blocks_used (size_of s j)) s₁ n b
  before = ledger_same s₁ (ledger_at h) w.old

  -- it is long by its new size
  pub long_now : is_long s₂ i ≡ ltb most_direct_bytes z
  unfolding is_long
  long_now = rw (eq-eqb (kind_of s₂ i) file_kind (w.kind i low high ∙ file), w.size)

  pub has_now : blocks_used (size_of s₂ i) ≡ blocks_used z
  has_now = ap blocks_used w.size

  pub flags_stay : (j : ℕ) → 1 ≤ j → j ≤ n → j ≢ i → is_long s₂ j ≡ is_long s j
  flags_stay j l r q = same_long s s₂ j (w.kind j l r) (w.sizes j l r q)

  pub counts_stay : (j : ℕ) → 1 ≤ j → j ≤ n → j ≢ i → blocks_used (size_of s₂ j) ≡ blocks_used (size_of s j)
  counts_stay j l r q = ap blocks_used (w.sizes j l r q)

  pub long_enough : is_long s₂ i ≡ true → address_count ≤ blocks_used (size_of s₂ i)
  long_enough q = let e = has_now in let o = ltb-true most_direct_bytes z (sym long_now ∙ q) in let x = used_long z o in omega arith

  pub short_enough : is_long s₂ i ≡ false → blocks_used (size_of s₂ i) ≤ address_count
  short_enough q = let e = has_now in let o = ltb-false most_direct_bytes z (sym long_now ∙ q) in let x = used_short z o in omega arith

-- ---- the blocks are f now
module _ {s s₁ s₂ : List ℕ} {n b i z : ℕ} (h : SoundStore s n b) (low : 1 ≤ i) (high : i ≤ n) (file : kind_of s i ≡ file_kind) (most : z ≤ most_file_bytes) (w : Resize s s₁ s₂ n b i z)
    {g : ℕ → ℕ} (after : Rewritten (is_long s) (is_long s₂) (λ j. blocks_used (size_of s₂ j)) s₁ s₂ n b i g) (f : ℕ → ℕ) (same : (u : ℕ) → g u ≡ f u) where
  body : Body s n b
  body = body_of h

  limits : blocks_used z ≤ most_blocks
  limits = (used_limits z).0 most

  mine : (u : ℕ) → u < most_blocks → kth_block s₂ n i u ≡ f u
  mine u l = after.mine u l ∙ same u

  -- other inodes stay
  others₂ : OtherInodes s s₂ n i
  others₂ j l r q = record {
    kind = w.kind j l r;
    spare = w.spares j l r q;
    links = w.links j l r;
    size = w.sizes j l r q;
    parent = w.parent j l r;
    blocks = λ u x. after.others j u l r q x ∙ w.old j u l r x;
  }

  -- the bytes of blocks stay, but for an address block of i
  bytes₂ : (a : ℕ) → 1 ≤ a → (is_long s₂ i ≡ true → a ≢ f address_place) → SameBlock s₁ s₂ n a
  bytes₂ a l r = after.bytes a l (λ e d. r e (d ∙ same 11))

  -- of another inode
  other_block : (j u : ℕ) → 1 ≤ j → j ≤ n → j ≢ i → u < blocks_used (size_of s j) → SameBlock s s₂ n (kth_block s n j u)
  other_block j u l r q x =
      let k = (blocks_of_lem h j l r).few in
      let o = ((blocks_of_lem h j l r).blocks u x).low in
      bytes₂ (kth_block s n j u) o
      (λ e d. q (one_kth after.ledger j u i 11 l r low high (omega arith) (omega arith)
      (subst (λ (y : ℕ). 1 ≤ y) (sym ((others₂ j l r q).blocks u (omega arith))) o)
      ((others₂ j l r q).blocks u (omega arith) ∙ d ∙ sym (mine 11 (omega arith)))).0)
      ∙ w.bytes j u l r x

  -- the p-th block of bytes of i
  pub place_in : (p : ℕ) → p < bytes_blocks z → bytes_place z p < most_blocks
  place_in p l = let k = limits in let u = place_used z p l in omega arith

  pub bytes_now : (p : ℕ) → p < bytes_blocks z → bytes_block s₂ n i p ≡ f (bytes_place z p)
  bytes_now p l = ap (λ (x : ℕ). kth_block s₂ n i (bytes_place x p)) w.size ∙ mine (bytes_place z p) (place_in p l)

  -- it is not the address block, so its bytes stay
  not_address : (p : ℕ) → p < bytes_blocks z → is_long s₂ i ≡ true → f (bytes_place z p) ≢ f address_place
  not_address p l e d =
      let o = ltb-true most_direct_bytes z (sym (long_now h file low high w) ∙ e) in
      let u = place_used z p l in
      let g = has_now h file low high w in
      place_bytes z p o
      (one_kth after.ledger i (bytes_place z p) i 11 low high low high (place_in p l) (omega arith) (after.ledger.used i (bytes_place z p) low high (place_in p l) (omega arith)).0
      (mine (bytes_place z p) (place_in p l) ∙ d ∙ sym (mine 11 (omega arith)))).1

  pub bytes_stay : (p : ℕ) → p < bytes_blocks z → (a : ℕ) → f (bytes_place z p) ≡ a → 1 ≤ a → SameBlock s₁ s₂ n a
  bytes_stay p l a e o = bytes₂ a o (λ q r. not_address p l q (e ∙ r))

  -- one that it had
  pub old_block : (p : ℕ) → p < bytes_blocks (size_of s i) → p < bytes_blocks z → f (bytes_place z p) ≡ bytes_block s n i p
      → (bytes_block s₂ n i p ≡ bytes_block s n i p) × SameBlock s s₂ n (bytes_block s n i p)
  old_block p x l d =
      let u = place_used (size_of s i) p x in (
        bytes_now p l ∙ d,
        bytes_stay p l (bytes_block s n i p) d ((blocks_of_lem h i low high).blocks (bytes_place (size_of s i) p) u).low ∙ w.bytes i (bytes_place (size_of s i) p) low high u,
      )

  -- ---- soundness, where the bytes past the size are zero and the free blocks are counted
  module _ (tail : (z % block_bytes ≡ 0 → ⊥) → (o : ℕ) → o < block_bytes → z % block_bytes ≤ o → get_or (block_of s₂ n (bytes_block s₂ n i (z / block_bytes))) o 0 ≡ 0)
      {t : List ℕ} {x y : ℕ} (counts : InCounts s₂ t n x y) (inodes : x ≡ (header_of s).free_inodes) (blocks : y + blocks_used z ≡ (header_of s).free_blocks + blocks_used (size_of s i)) where
    inode₂ : InodeSound s₂ n b i
    inode₂ =
        let r = body.inodes i low high in
        let e = w.size in
        let k = w.kind i low high ∙ file in
        record {
          kind = omega arith;
          spare = w.spare;
          free = λ d. absurd (omega arith);
          size = omega (arith, most_file (kind_of s₂ i) k);
          used = λ u l o. after.ledger.used i u low high l o;
          rest = λ u l o. after.ledger.rest i u low high l o;
          directory = λ d. absurd (omega arith);
          tail = λ _. subst (λ (a : ℕ). (a % block_bytes ≡ 0 → ⊥) → (o : ℕ) → o < block_bytes → a % block_bytes ≤ o → get_or (block_of s₂ n (bytes_block s₂ n i (a / block_bytes))) o 0 ≡ 0) (sym e) tail;
          parent = λ _. w.parent i low high ∙ r.parent file;
        }

    inodes₂ : (j : ℕ) → 1 ≤ j → j ≤ n → InodeSound s₂ n b j
    inodes₂ j l r =
        each_else (InodeSound s₂ n b) i j inode₂
        (λ q. inode_kept s s₂ n b j (others₂ j l r q) (λ _ o. other_block j (bytes_place (size_of s j) (size_of s j / 64)) l r q (place_used (size_of s j) (size_of s j / 64) (omega arith))) (body.inodes j l r))

    inodesₜ : (j : ℕ) → 1 ≤ j → j ≤ n → InodeSound t n b j
    inodesₜ j l r = inode_kept s₂ t n b j (counts.inodes j l r) (λ _ _. counts.bytes _) (inodes₂ j l r)

    onceₜ : Differ (row_of t n) (most_blocks * n)
    onceₜ = same_differ s₂ t n (λ j l r. (counts.inodes j l r).blocks) after.ledger.once

    pub resized : InFile s t n i z
    resized =
        let o = counts.inodes i low high in
        record {
          frame = frame_then w.frame counts.frame;
          others = λ j l r q. inode_then (others₂ j l r q) (counts.inodes j l r);
          kind = o.kind ∙ w.kind i low high;
          links = o.links ∙ w.links i low high;
          parent = o.parent ∙ w.parent i low high;
          size = o.size ∙ w.size;
          bytes = λ j u l r q v. counts.bytes (kth_block s n j u) ∙ other_block j u l r q v;
        }

    pub resized_sound : Sound Store t
    resized_sound =
        let r = resized in
        let u = unnamed_change s t n b i low high body.inodes inodesₜ body.once onceₜ (λ j l r q. (resized.others j l r q).size) in
        let e : blocks_used (size_of t i) ≡ blocks_used z = ap blocks_used r.size in
        let p = body.free_blocks in
        let c = counts.free_blocks in
        sound_kept h r.frame
        (file_tree s t n i r.others r.kind r.links r.parent (λ d. omega arith)
        (λ d u l o k q. r.bytes d u l o (λ x. let k' = sym (ap (kind_of s) x) ∙ k in omega arith) q))
        inodesₜ onceₜ (counts.free_inodes ∙ inodes) (omega arith)
