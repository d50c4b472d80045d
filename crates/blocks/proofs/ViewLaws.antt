-- Each writer is one update of the view: a reader of any field, after any writer, reads off the view.
use Prim.Native.Nat.{ℕ, ◌+◌, ◌*◌, ◌-◌, ◌≤◌, ◌<◌}
use mathlib.Core.Path.{◌≡◌, refl, sym, ap, ap₂, ◌∙◌, fun_ext}
use mathlib.Core.Logic.{◌≢◌}
use mathlib.Core.List.{List}
use native.Mathlib.Omega.{arith}
use lib.ListN.{length, get_or}
use Rattle.bounded.proofs.CaseLaws.{is_below}
use Rattle.bounded.proofs.RangeLaws.{within, below, within_ext, within_upd, below_in, below_out, below_ext}
use Rattle.octets.specs.Octets.{splice, Apart, num_at, to_bytes, put_num, word_bytes}
use Rattle.octets.proofs.PartLaws.{splice_in, splice_out}
use Rattle.octets.proofs.NumLaws.{num_apart, num_in, num_same, num_other, length_num, length_to_bytes}
use Rattle.octets.proofs.WordLaws.{length_words, word_at}
use Rattle.octets.proofs.OverlayLaws.{overlay, is_overlay}
use Rattle.layout.specs.declared.header.Header.{Header}
use Rattle.layout.specs.declared.inode.Inode.{Inode}
use Rattle.layout.specs.Header.{header_of, put_header, put_free, put_complete}
use Rattle.layout.specs.Inode.{attributes_at, address_at, address_index, kind_of, spare_of, links_of, size_of, parent_of, address_of, attribute_entry, put_attributes, put_addresses, put_inode, put_links, put_address}
use Rattle.blocks.specs.Block.{block_at, put_in_block}
use Rattle.blocks.proofs.View.{View, view_of, content_of, with_header, with_links, with_attributes, with_address, with_content, free_counts, completion}
use Rattle.blocks.proofs.FrameLaws.{length_entry, length_attributes, header_past, kind_apart, spare_apart, links_apart, size_apart, parent_apart, address_apart, kind_put, spare_put, links_put, size_put, parent_put}
use Rattle.layout.specs.Fits.{InodeFits}

-- ---- what a splice leaves
module _ (n : ℕ) (s : List ℕ) (p : ℕ) (xs : List ℕ) where
  -- apart from all attributes
  module _ (h : Apart 16 (8 * n) p (length xs)) where
    kinds : within n (kind_of (splice s p xs)) ≡ within n (kind_of s)
    kinds = within_ext n _ _ (λ i l m. kind_apart s p xs i (omega arith))

    spares : within n (spare_of (splice s p xs)) ≡ within n (spare_of s)
    spares = within_ext n _ _ (λ i l m. spare_apart s p xs i (omega arith))

    linkss : within n (links_of (splice s p xs)) ≡ within n (links_of s)
    linkss = within_ext n _ _ (λ i l m. links_apart s p xs i (omega arith))

    sizes : within n (size_of (splice s p xs)) ≡ within n (size_of s)
    sizes = within_ext n _ _ (λ i l m. size_apart s p xs i (omega arith))

    parents : within n (parent_of (splice s p xs)) ≡ within n (parent_of s)
    parents = within_ext n _ _ (λ i l m. parent_apart s p xs i (omega arith))

  -- apart from all addresses
  addresses : Apart (16 + 8 * n) (24 * n) p (length xs) → below (12 * n) (address_of (splice s p xs) n) ≡ below (12 * n) (address_of s n)
  addresses h = below_ext (12 * n) _ _ (λ x l. address_apart s p xs n x (omega arith))

  -- before the blocks
  contents : p + length xs ≤ 16 + 32 * n → content_of n (splice s p xs) ≡ content_of n s
  unfolding content_of
  contents h = fun_ext (λ x. splice_out s p xs (16 + 32 * n + x) (omega arith))

-- ---- the header's writers
module _ (n : ℕ) where
  -- one number in the header, apart from its reserved bytes
  view_number : (k : ℕ) (s : List ℕ) (o v : ℕ) → o + k ≤ 12 → Apart o k 9 1 → view_of n (put_num k s o v) ≡ with_header (view_of n s) (header_of (put_num k s o v))
  unfolding view_of put_num
  view_number k s o v h g =
      let e : length (to_bytes k v) ≡ k = length_to_bytes k v in
      let a : Apart 16 (8 * n) o (length (to_bytes k v)) = omega arith in
      λ i. record {
        header = header_of (splice s o (to_bytes k v));
        reserved = num_apart 1 s 9 o (to_bytes k v) (omega arith) i;
        reserved4 = num_apart 4 s 12 o (to_bytes k v) (omega arith) i;
        kind = kinds n s o (to_bytes k v) a i;
        spare = spares n s o (to_bytes k v) a i;
        links = linkss n s o (to_bytes k v) a i;
        size = sizes n s o (to_bytes k v) a i;
        parent = parents n s o (to_bytes k v) a i;
        address = addresses n s o (to_bytes k v) (omega arith) i;
        content = contents n s o (to_bytes k v) (omega arith) i;
      }

  -- after another write in the header
  view_again : (k : ℕ) (s t : List ℕ) (h : Header) (o v : ℕ) → view_of n t ≡ with_header (view_of n s) h → o + k ≤ 12 → Apart o k 9 1 → view_of n (put_num k t o v) ≡ with_header (view_of n s) (header_of (put_num k t o v))
  view_again k s t h o v e a b =
      view_number k t o v a b ∙ ap (λ (w : View). with_header w (header_of (put_num k t o v))) e

  pub view_free : (s : List ℕ) (i b : ℕ) → view_of n (put_free s i b) ≡ with_header (view_of n s) (header_of (put_free s i b))
  unfolding put_free
  view_free s i b = view_again 2 s (put_num 2 s 4 i) _ 6 b (view_number 2 s 4 i (omega arith) (omega arith)) (omega arith) (omega arith)

  pub view_complete : (s : List ℕ) (v : ℕ) → view_of n (put_complete s v) ≡ with_header (view_of n s) (header_of (put_complete s v))
  unfolding put_complete
  view_complete s v = view_number 1 s 8 v (omega arith) (omega arith)

  pub view_header : (s : List ℕ) (h : Header) → view_of n (put_header s h) ≡ with_header (view_of n s) (header_of (put_header s h))
  unfolding put_header
  view_header s h =
      let s₁ = put_num 2 s 0 h.inodes in
      let s₂ = put_num 2 s₁ 2 h.blocks in
      let s₃ = put_free s₂ h.free_inodes h.free_blocks in
      let s₄ = put_complete s₃ h.complete in
      let e₁ = view_number 2 s 0 h.inodes (omega arith) (omega arith) in
      let e₂ = view_again 2 s s₁ _ 2 h.blocks e₁ (omega arith) (omega arith) in
      let e₃ : view_of n s₃ ≡ with_header (view_of n s) (header_of s₃) = view_free s₂ h.free_inodes h.free_blocks ∙ ap (λ (w : View). with_header w (header_of s₃)) e₂ in
      let e₄ : view_of n s₄ ≡ with_header (view_of n s) (header_of s₄) = view_complete s₃ h.complete ∙ ap (λ (w : View). with_header w (header_of s₄)) e₃ in
      view_again 2 s s₄ _ 10 h.root e₄ (omega arith) (omega arith)

-- what the header then is
module _ (s : List ℕ) (f : 16 ≤ length s) where
  pub header_put : (h : Header) → header_of (put_header s h) ≡ h
  unfolding header_of put_header put_free put_complete
  header_put h =
      let s₁ = put_num 2 s 0 h.inodes in
      let s₂ = put_num 2 s₁ 2 h.blocks in
      let s₃ = put_num 2 s₂ 4 h.free_inodes in
      let s₄ = put_num 2 s₃ 6 h.free_blocks in
      let s₅ = put_num 1 s₄ 8 h.complete in
      let r = h.root in
      λ i. record {
        inodes = (num_other 2 2 s₅ 0 10 r (omega arith) ∙ num_other 2 1 s₄ 0 8 h.complete (omega arith) ∙ num_other 2 2 s₃ 0 6 h.free_blocks (omega arith) ∙ num_other 2 2 s₂ 0 4 h.free_inodes (omega arith) ∙ num_other 2 2 s₁ 0 2 h.blocks (omega arith) ∙ num_same 2 s 0 h.inodes (omega arith) (omega arith)) i;
        blocks = (num_other 2 2 s₅ 2 10 r (omega arith) ∙ num_other 2 1 s₄ 2 8 h.complete (omega arith) ∙ num_other 2 2 s₃ 2 6 h.free_blocks (omega arith) ∙ num_other 2 2 s₂ 2 4 h.free_inodes (omega arith) ∙ num_same 2 s₁ 2 h.blocks (omega arith) (simp length_num (omega arith))) i;
        free_inodes = (num_other 2 2 s₅ 4 10 r (omega arith) ∙ num_other 2 1 s₄ 4 8 h.complete (omega arith) ∙ num_other 2 2 s₃ 4 6 h.free_blocks (omega arith) ∙ num_same 2 s₂ 4 h.free_inodes (omega arith) (simp length_num (omega arith))) i;
        free_blocks = (num_other 2 2 s₅ 6 10 r (omega arith) ∙ num_other 2 1 s₄ 6 8 h.complete (omega arith) ∙ num_same 2 s₃ 6 h.free_blocks (omega arith) (simp length_num (omega arith))) i;
        complete = (num_other 1 2 s₅ 8 10 r (omega arith) ∙ num_same 1 s₄ 8 h.complete (omega arith) (simp length_num (omega arith))) i;
        root = num_same 2 s₅ 10 r (omega arith) (simp length_num (omega arith)) i;
      }

  pub header_free : (a b : ℕ) → header_of (put_free s a b) ≡ free_counts (header_of s) a b
  unfolding header_of put_free
  header_free a b =
      let t = put_num 2 s 4 a in
      λ i. record {
        inodes = (num_other 2 2 t 0 6 b (omega arith) ∙ num_other 2 2 s 0 4 a (omega arith)) i;
        blocks = (num_other 2 2 t 2 6 b (omega arith) ∙ num_other 2 2 s 2 4 a (omega arith)) i;
        free_inodes = (num_other 2 2 t 4 6 b (omega arith) ∙ num_same 2 s 4 a (omega arith) (omega arith)) i;
        free_blocks = num_same 2 t 6 b (omega arith) (simp length_num (omega arith)) i;
        complete = (num_other 1 2 t 8 6 b (omega arith) ∙ num_other 1 2 s 8 4 a (omega arith)) i;
        root = (num_other 2 2 t 10 6 b (omega arith) ∙ num_other 2 2 s 10 4 a (omega arith)) i;
      }

  pub header_complete : (v : ℕ) → header_of (put_complete s v) ≡ completion (header_of s) v
  unfolding header_of put_complete
  header_complete v =
      λ i. record {
        inodes = num_other 2 1 s 0 8 v (omega arith) i;
        blocks = num_other 2 1 s 2 8 v (omega arith) i;
        free_inodes = num_other 2 1 s 4 8 v (omega arith) i;
        free_blocks = num_other 2 1 s 6 8 v (omega arith) i;
        complete = num_same 1 s 8 v (omega arith) (omega arith) i;
        root = num_other 2 1 s 10 8 v (omega arith) i;
      }

-- ---- an inode's writers
module _ (n : ℕ) (s : List ℕ) (i : ℕ) (f : InodeFits s n i) where
  pub view_links : (v : ℕ) → view_of n (put_links s i v) ≡ with_links (view_of n s) i v
  unfolding view_of put_links put_num kind_of spare_of links_of size_of parent_of
  view_links v =
      let p = attributes_at i + 2 in
      let xs = to_bytes 2 v in
      let e : length xs ≡ 2 = length_to_bytes 2 v in
      let a = f.low in
      let b = f.high in
      let g = f.area in
      λ k. record {
        header = header_past s p xs (omega arith) k;
        reserved = num_apart 1 s 9 p xs (omega arith) k;
        reserved4 = num_apart 4 s 12 p xs (omega arith) k;
        kind = within_ext n (kind_of (splice s p xs)) (kind_of s) (λ j l m. num_apart 1 s (attributes_at j) p xs (omega arith)) k;
        spare = within_ext n (spare_of (splice s p xs)) (spare_of s) (λ j l m. num_apart 1 s (attributes_at j + 1) p xs (omega arith)) k;
        links = within_upd n (links_of s) (links_of (splice s p xs)) i v a b (unfold put_num in num_same 2 s p v (omega arith) (omega arith)) (λ j l m q. num_apart 2 s (attributes_at j + 2) p xs (omega arith)) k;
        size = within_ext n (size_of (splice s p xs)) (size_of s) (λ j l m. num_apart 2 s (attributes_at j + 4) p xs (omega arith)) k;
        parent = within_ext n (parent_of (splice s p xs)) (parent_of s) (λ j l m. num_apart 2 s (attributes_at j + 6) p xs (omega arith)) k;
        address = addresses n s p xs (omega arith) k;
        content = contents n s p xs (omega arith) k;
      }

  pub view_attributes : (v : Inode) → view_of n (put_attributes s i v) ≡ with_attributes (view_of n s) i v
  unfolding view_of put_attributes
  view_attributes v =
      let p = attributes_at i in
      let xs = attribute_entry v in
      let e : length xs ≡ 8 = length_entry v in
      let a = f.low in
      let b = f.high in
      let g = f.area in
      let o : (j : ℕ) → 1 ≤ j → j ≢ i → Apart (attributes_at j) 8 p (length xs) = λ j l q. omega arith in
      let h : attributes_at i + 8 ≤ length s = omega arith in
      λ k. record {
        header = header_past s p xs (omega arith) k;
        reserved = num_apart 1 s 9 p xs (omega arith) k;
        reserved4 = num_apart 4 s 12 p xs (omega arith) k;
        kind = within_upd n (kind_of s) (kind_of (splice s p xs)) i v.kind a b (kind_put s i v h) (λ j l m q. kind_apart s p xs j (o j l q)) k;
        spare = within_upd n (spare_of s) (spare_of (splice s p xs)) i 0 a b (spare_put s i v h) (λ j l m q. spare_apart s p xs j (o j l q)) k;
        links = within_upd n (links_of s) (links_of (splice s p xs)) i v.links a b (links_put s i v h) (λ j l m q. links_apart s p xs j (o j l q)) k;
        size = within_upd n (size_of s) (size_of (splice s p xs)) i v.size a b (size_put s i v h) (λ j l m q. size_apart s p xs j (o j l q)) k;
        parent = within_upd n (parent_of s) (parent_of (splice s p xs)) i v.parent a b (parent_put s i v h) (λ j l m q. parent_apart s p xs j (o j l q)) k;
        address = addresses n s p xs (omega arith) k;
        content = contents n s p xs (omega arith) k;
      }

-- a splice past the attributes: all but addresses and bytes of blocks stays
view_past : (n : ℕ) (s : List ℕ) (p : ℕ) (xs : List ℕ) → 16 + 8 * n ≤ p
    → view_of n (splice s p xs) ≡ with_content (with_address (view_of n s) (below (12 * n) (address_of (splice s p xs) n))) (content_of n (splice s p xs))
unfolding view_of
view_past n s p xs l =
    let a : Apart 16 (8 * n) p (length xs) = omega arith in
    λ k. record {
      header = header_past s p xs (omega arith) k;
      reserved = num_apart 1 s 9 p xs (omega arith) k;
      reserved4 = num_apart 4 s 12 p xs (omega arith) k;
      kind = kinds n s p xs a k;
      spare = spares n s p xs a k;
      links = linkss n s p xs a k;
      size = sizes n s p xs a k;
      parent = parents n s p xs a k;
      address = below (12 * n) (address_of (splice s p xs) n);
      content = content_of n (splice s p xs);
    }

-- a splice inside of the addresses: all but them stays
module _ (n : ℕ) (s : List ℕ) (p : ℕ) (xs : List ℕ) (l : 16 + 8 * n ≤ p) (m : p + length xs ≤ 16 + 32 * n) where
  view_row : view_of n (splice s p xs) ≡ with_address (view_of n s) (below (12 * n) (address_of (splice s p xs) n))
  unfolding view_of
  view_row = view_past n s p xs l ∙ ap (with_content (with_address (view_of n s) (below (12 * n) (address_of (splice s p xs) n)))) (contents n s p xs m)

-- a splice inside of the blocks: all but their bytes stays
module _ (n : ℕ) (s : List ℕ) (o : ℕ) (xs : List ℕ) (fits : 16 + 32 * n + o + length xs ≤ length s) where
  contents_over : content_of n (splice s (16 + 32 * n + o) xs) ≡ overlay (content_of n s) o xs
  unfolding content_of
  contents_over =
      is_overlay (content_of n s) (content_of n (splice s (16 + 32 * n + o) xs)) o xs
      (λ j l. let e : 16 + 32 * n + (o + j) ≡ 16 + 32 * n + o + j = omega arith in
      ap (λ (q : ℕ). get_or (splice s (16 + 32 * n + o) xs) q 0) e ∙ splice_in s (16 + 32 * n + o) xs j fits l)
      (λ x a. splice_out s (16 + 32 * n + o) xs (16 + 32 * n + x) (omega arith))

  view_bytes : view_of n (splice s (16 + 32 * n + o) xs) ≡ with_content (view_of n s) (overlay (content_of n s) o xs)
  unfolding view_of
  view_bytes =
      view_past n s (16 + 32 * n + o) xs (omega arith)
      ∙ ap₂ (λ (a c : ℕ → ℕ). with_content (with_address (view_of n s) a) c) (addresses n s (16 + 32 * n + o) xs (omega arith)) contents_over

-- one address
address_same : (n : ℕ) (s : List ℕ) (x b : ℕ) → x < 12 * n → 16 + 32 * n ≤ length s → address_of (put_address s n x b) n x ≡ b
unfolding address_of put_address
address_same n s x b l f = num_same 2 s (address_at n x) b (omega arith) (omega arith)

-- the twelve of an inode
module _ (n : ℕ) (s : List ℕ) (i : ℕ) (vs : List ℕ) (f : InodeFits s n i) (e : length vs ≡ 12) where
  start : ℕ
  start = address_at n (address_index i 0)

  long : length (word_bytes vs) ≡ 24
  long = length_words vs ∙ omega arith

  address_new : (j : ℕ) → j < 12 → address_of (splice s start (word_bytes vs)) n (address_index i 0 + j) ≡ get_or vs j 0
  unfolding start address_of
  address_new j l =
      let g = long in
      let a = f.low in
      let b = f.high in
      let c = f.area in
      let q : address_at n (address_index i 0 + j) ≡ address_at n (address_index i 0) + 2 * j = omega arith in
      ap (num_at 2 (splice s start (word_bytes vs))) q ∙ num_in 2 s start (word_bytes vs) (2 * j) (omega arith) (omega arith) ∙ word_at vs j (omega arith)

  addresses_over : below (12 * n) (address_of (splice s start (word_bytes vs)) n) ≡ overlay (below (12 * n) (address_of s n)) (address_index i 0) vs
  unfolding start
  addresses_over =
      let g = long in
      let a = f.low in
      let b = f.high in
      let c = f.area in
      is_overlay (below (12 * n) (address_of s n)) (below (12 * n) (address_of (splice s start (word_bytes vs)) n)) (address_index i 0) vs
      (λ j l. below_in (12 * n) (address_of (splice s start (word_bytes vs)) n) (address_index i 0 + j) (omega arith) ∙ address_new j (omega arith))
      (λ x l. is_below (12 * n) x
      (λ m. below_in (12 * n) (address_of (splice s start (word_bytes vs)) n) x m ∙ address_apart s start (word_bytes vs) n x (omega arith) ∙ sym (below_in (12 * n) (address_of s n) x m))
      (λ m. below_out (12 * n) (address_of (splice s start (word_bytes vs)) n) x m ∙ sym (below_out (12 * n) (address_of s n) x m)))

  pub view_addresses : view_of n (put_addresses s n i vs) ≡ with_address (view_of n s) (overlay (view_of n s).address (address_index i 0) vs)
  unfolding put_addresses start view_of
  view_addresses =
      let g = long in
      let a = f.low in
      let b = f.high in
      view_row n s start (word_bytes vs) (omega arith) (omega arith) ∙ ap (with_address (view_of n s)) addresses_over

-- what fits a list fits another of its length
pub inode_fits : (s t : List ℕ) (n i : ℕ) → length t ≡ length s → InodeFits s n i → InodeFits t n i
inode_fits s t n i e f = record { low = f.low; high = f.high; few = f.few; area = let a = f.area in omega arith }

pub view_inode : (n : ℕ) (s : List ℕ) (i : ℕ) (v : Inode) → InodeFits s n i → length v.addresses ≡ 12 →
    view_of n (put_inode s n i v) ≡ with_address (with_attributes (view_of n s) i v) (overlay (view_of n s).address (address_index i 0) v.addresses)
unfolding put_inode
view_inode n s i v f e =
    view_addresses n (put_attributes s i v) i v.addresses (inode_fits s (put_attributes s i v) n i (length_attributes s i v) f) e
    ∙ ap (λ (w : View). with_address w (overlay w.address (address_index i 0) v.addresses)) (view_attributes n s i f v)

-- bytes in a block
pub view_in_block : (n : ℕ) (s : List ℕ) (b o : ℕ) (xs : List ℕ) → block_at n b + o + length xs ≤ length s →
    view_of n (put_in_block s n b o xs) ≡ with_content (view_of n s) (overlay (view_of n s).content (64 * (b - 1) + o) xs)
unfolding put_in_block
view_in_block n s b o xs f =
    let q : block_at n b + o ≡ 16 + 32 * n + (64 * (b - 1) + o) = omega arith in
    ap (λ (p : ℕ). view_of n (splice s p xs)) q ∙ view_bytes n s (64 * (b - 1) + o) xs (omega arith) ∙ (unfold view_of in refl)
