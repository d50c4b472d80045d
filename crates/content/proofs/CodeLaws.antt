-- What the code makes of its parts: a directory's block, a file's size and blocks, fewer and more. n and b are the counts of inodes and blocks.
use Prim.Native.Nat.{ℕ, ◌+◌, ◌*◌, ◌-◌, ◌%◌, ◌≤◌, ◌<◌}
use mathlib.Core.Path.{◌≡◌, sym, ap, ◌∙◌, subst}
use mathlib.Core.Bool.{Bool, true, false, ◌&&◌}
use mathlib.Core.List.{List}
use native.Mathlib.Omega.{arith}
use borrow.Author.Tests.{lt-ltb, le-ltb, eq-eqb, ne_eqb, leb-true}
use lib.Dec.{ltb, leb}
use lib.ListN.{length, get_or, set, take, drop}
use Rattle.bounded.specs.Table.{table}
use Rattle.bounded.proofs.BoolLaws.{and_left, and_right}
use Rattle.bounded.proofs.TableLaws.{get_or_table}
use Rattle.octets.specs.Octets.{splice, zeroed, word_bytes}
use Rattle.octets.proofs.PartLaws.{length_splice}
use Rattle.layout.specs.Sizes.{address_count, address_place, block_bytes, most_blocks, most_direct_bytes, most_image_blocks}
use Rattle.layout.specs.declared.inode.Inode.{Inode}
use Rattle.layout.specs.Header.{header_of, less_free, more_free}
use Rattle.layout.specs.Inode.{attributes_at, attribute_entry, size_of, inode_of, put_attributes, put_inode, with_size, with_blocks}
use Rattle.blocks.specs.Block.{block_at, put_in_block, zero_block, blocks_used, is_long, kth_block, put_row}
use Rattle.blocks.specs.Free.{block_free}
use Rattle.blocks.proofs.FrameLaws.{header_past}
use Rattle.ledger.specs.Change.{added, grown, kept}
use Rattle.ledger.specs.Nth.{nth_free}
use Rattle.ledger.proofs.ChangeLaws.{across_11, added_by, grown_by}
use Rattle.ledger.proofs.BytesLaws.{used_long}
use Rattle.sound.specs.Counted.{SoundStore}
use Rattle.preservation.proofs.StoreLaws.{sized_at}
use Rattle.preservation.proofs.KeepLaws.{body_of}
use Rattle.preservation.proofs.RecordLaws.{header_inode}
use Rattle.growth.specs.Extend.{zero_blocks, put_size, put_blocks, taken, extended, cut_blocks}
use Rattle.growth.proofs.RowFrame.{row_attributes}
use Rattle.content.specs.Fits.{byte_at}
use Rattle.content.specs.Content.{add_block, zero_rest}
use Rattle.content.proofs.FileLaws.{long_over}
use Rattle.content.proofs.TakeLaws.{header_zero_block, header_zeros, nth_in}

-- ---- block c added to directory i: v was read, q has the block zeroed, p the record w
module _ (s : List ℕ) (n i c : ℕ) (w : Inode) (q p : List ℕ) (eq : q ≡ zero_block s n c) (ep : p ≡ put_inode q n i w) where
  pub add_header : 1 ≤ i → i ≤ n → header_of p ≡ header_of s
  add_header l m = ap header_of ep ∙ header_inode q n i l m w ∙ ap header_of eq ∙ header_zero_block s n c

  pub add_done : (v : Inode) (k : ℕ) (r : List ℕ) → v ≡ inode_of s n i → k ≡ blocks_used v.size → w ≡ with_blocks v (64 * (k + 1)) (set v.addresses k c) → r ≡ less_free p 0 1 → r ≡ add_block s n i c
  unfolding add_block
  add_done v k r ev ek ew er = rw (er, ep, eq, ew, ek, ev)

-- ---- the size z and the blocks of the row: v was read, p has the record w
module _ (s : List ℕ) (n i z : ℕ) (row : List ℕ) where
  pub header_blocks : header_of (put_blocks s n i z row) ≡ header_of s
  unfolding put_blocks put_size put_attributes
  header_blocks =
      (row_attributes (ltb 768 z) (put_attributes s i (with_size (inode_of s n i) z)) n i row).header ∙ header_past s (attributes_at i) (attribute_entry (with_size (inode_of s n i) z)) (omega arith)

  pub length_blocks : length (put_blocks s n i z row) ≡ length s
  unfolding put_blocks put_size put_attributes
  length_blocks =
      (row_attributes (ltb 768 z) (put_attributes s i (with_size (inode_of s n i) z)) n i row).frame.long ∙ length_splice s (attributes_at i) (attribute_entry (with_size (inode_of s n i) z))

  module _ (v w : Inode) (a p : List ℕ) (ev : v ≡ inode_of s n i) (ea : a ≡ take address_count row) (ew : w ≡ with_blocks v z a) (ep : p ≡ put_inode s n i w) where
    pub put_short : z ≤ most_direct_bytes → p ≡ put_blocks s n i z row
    unfolding put_blocks put_size put_row put_inode put_attributes attribute_entry
    put_short l = rw (ep, ew, ea, ev, le-ltb 768 z l)

    pub put_long : most_direct_bytes < z → (c o : ℕ) (r : List ℕ) → c ≡ get_or row address_place 0 → o ≡ block_at n c → r ≡ splice p o (word_bytes (drop address_count row)) → r ≡ put_blocks s n i z row
    unfolding put_blocks put_size put_row put_inode put_attributes attribute_entry put_in_block
    put_long l c o r ec eo er =
        let e : o ≡ block_at n (get_or row 11 0) + 0 = omega arith in
        rw (er, ep, ew, ea, ev, lt-ltb 768 z l, e)

-- ---- the address block of the row
-- a number of a block that lies inside
abbrev Lies : List ℕ → ℕ → ℕ → Type 0
Lies s n a = (1 ≤ a) × (a ≤ most_image_blocks) × (block_at n a + block_bytes ≤ length s)

lies : {s : List ℕ} {n b : ℕ} → SoundStore s n b → (a : ℕ) → 1 ≤ a → a ≤ b → Lies s n a
lies h a l m = let z = (sized_at h).long in let w = (sized_at h).blocks in (l, omega arith, omega arith)

module _ {s : List ℕ} {n b : ℕ} (h : SoundStore s n b) (i : ℕ) (low : 1 ≤ i) (high : i ≤ n) (z : ℕ) where
  used_in : (u : ℕ) → u < most_blocks → u < blocks_used (size_of s i) → Lies s n (kth_block s n i u)
  used_in u l m = let r = ((body_of h).inodes i low high).used u l m in lies h (kth_block s n i u) r.0 r.1

  -- of a file that grows by m blocks
  pub grown_address : (m : ℕ) → blocks_used z ≡ blocks_used (size_of s i) + m → m ≤ (header_of s).free_blocks → most_direct_bytes < z
      → (row : List ℕ) → row ≡ table (grown (kth_block s n i) (blocks_used (size_of s i)) m (nth_free (block_free s n) b)) most_blocks
      → (1 ≤ get_or row address_place 0) × (get_or row address_place 0 ≤ most_image_blocks) × (block_at n (get_or row address_place 0) + block_bytes ≤ length s)
  grown_address m e l q row d =
      subst (Lies s n) (sym (ap (λ (a : List ℕ). get_or a 11 0) d ∙ get_or_table (grown g k m c) 44 11 (omega arith)))
      (grown_by g k m c 11 (Lies s n) (λ w x. subst (λ (u : ℕ). Lies s n (added g k m c u)) (sym across_11) (at 12 (let y = used_long z q in omega arith) (omega arith))) (λ _. at 11 (let y = used_long z q in omega arith) (omega arith)))
    where
      g : ℕ → ℕ
      g = kth_block s n i

      k : ℕ
      k = blocks_used (size_of s i)

      c : ℕ → ℕ
      c = nth_free (block_free s n) b

      at : (u : ℕ) → u < k + m → u < 44 → Lies s n (added g k m c u)
      at u a f = added_by g k m c u (Lies s n) (λ w. used_in u f w) (λ w x. let r = nth_in h (u - k) (omega arith) in lies h (c (u - k)) r.0 r.1) (λ w. absurd (omega arith))

  -- of a file that is cut
  pub kept_address : z ≤ size_of s i → most_direct_bytes < z → (row : List ℕ) (x : Bool) (k : ℕ) → x ≡ is_long s i && leb z most_direct_bytes → k ≡ blocks_used z → row ≡ table (kept x (kth_block s n i) k) most_blocks
      → (1 ≤ get_or row address_place 0) × (get_or row address_place 0 ≤ most_image_blocks) × (block_at n (get_or row address_place 0) + block_bytes ≤ length s)
  kept_address l q row x k f w d = subst (Lies s n) (sym (ap (λ (a : List ℕ). get_or a 11 0) d ∙ get_or_table (kept x (kth_block s n i) k) 44 11 (omega arith) ∙ here x f)) (used_in 11 (omega arith) (let y = used_long (size_of s i) (omega arith) in omega arith))
    where
      here : (x : Bool) → x ≡ is_long s i && leb z most_direct_bytes → kept x (kth_block s n i) k 11 ≡ kth_block s n i 11
      here true f = let w = leb-true z most_direct_bytes (and_right (is_long s i) (leb z most_direct_bytes) (sym f)) in absurd (omega arith)
      here false f = unfold kept in (let y = used_long z q in rw (lt-ltb 11 k (omega arith)))

-- behind which there is more than the twelve, where it is there no longer
pub crosses_more : (s : List ℕ) (i z : ℕ) (x : Bool) → x ≡ is_long s i && leb z most_direct_bytes → x ≡ true → address_count < blocks_used (size_of s i)
crosses_more s i z x e f = let l = long_over s i (and_left (is_long s i) (leb z most_direct_bytes) (sym e ∙ f)) in let u = used_long (size_of s i) l in omega arith

-- ---- the rest of the last block
module _ (s : List ℕ) (n i z : ℕ) where
  pub rest_none : z % block_bytes ≡ 0 → s ≡ zero_rest s n i z
  unfolding zero_rest
  rest_none e = rw (eq-eqb (z % 64) 0 e)

  pub rest_some : (z % block_bytes ≡ 0 → ⊥) → zeroed s (byte_at s n i z) (block_bytes - z % block_bytes) ≡ zero_rest s n i z
  unfolding zero_rest zeroed put_in_block byte_at
  rest_some h = rw (ne_eqb (z % 64) 0 h)

-- ---- after the free counts were written
pub cut_done : (s : List ℕ) (n i z k u : ℕ) (x : Bool) (row p r : List ℕ) → k ≡ blocks_used z → u ≡ blocks_used (size_of s i) → x ≡ is_long s i && leb z most_direct_bytes
    → row ≡ table (kept x (kth_block s n i) k) most_blocks → p ≡ put_blocks s n i z row → r ≡ more_free p 0 (u - k) → r ≡ cut_blocks s n i z
unfolding cut_blocks
cut_done s n i z k u x row p r ek eu ex er ep e = rw (e, ep, er, ex, eu, ek)

pub grow_done : (s : List ℕ) (n b i z m : ℕ) (row q p r : List ℕ) → q ≡ zero_blocks s n (nth_free (block_free s n) b) m
    → row ≡ table (grown (kth_block s n i) (blocks_used (size_of s i)) m (nth_free (block_free s n) b)) most_blocks → p ≡ put_blocks q n i z row → r ≡ less_free p 0 m → r ≡ taken s n b i z m
unfolding taken
grow_done s n b i z m row q p r eq er ep e = rw (e, ep, er, eq)

pub grow_header : (s : List ℕ) (n i z m : ℕ) (c : ℕ → ℕ) (row q p : List ℕ) → q ≡ zero_blocks s n c m → p ≡ put_blocks q n i z row → header_of p ≡ header_of s
grow_header s n i z m c row q p eq ep = ap header_of ep ∙ header_blocks q n i z row ∙ ap header_of eq ∙ header_zeros s n c m

-- ---- with no block more, and with some
module _ (s : List ℕ) (n b i z m : ℕ) (e : m ≡ blocks_used z - blocks_used (size_of s i)) where
  pub extend_none : (r : List ℕ) → m ≡ 0 → r ≡ put_size s n i z → r ≡ extended s n b i z
  unfolding extended
  extend_none r q f = rw (eq-eqb (blocks_used z - blocks_used (size_of s i)) 0 (sym e ∙ q)) f

  pub extend_some : (r : List ℕ) → (m ≡ 0 → ⊥) → r ≡ taken s n b i z m → r ≡ extended s n b i z
  unfolding extended
  extend_some r q f = rw (ne_eqb (blocks_used z - blocks_used (size_of s i)) 0 (λ d. q (e ∙ d))) (f ∙ ap (taken s n b i z) e)
