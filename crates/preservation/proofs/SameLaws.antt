-- What a writer leaves as it was: the frame of a store, its inodes, the bytes of its blocks; and what it changes. n is the inode count.
use Prim.Native.Nat.{ℕ, ◌+◌, ◌-◌, ◌*◌, ◌/◌, ◌≤◌, ◌<◌}
use mathlib.Core.Path.{◌≡◌, refl, sym, ap, ap₂, ◌∙◌, subst}
use mathlib.Core.Logic.{◌≢◌}
use mathlib.Core.Bool.{Bool, true, ◌&&◌}
use mathlib.Core.List.{List}
use native.Mathlib.Omega.{arith}
use lib.Dec.{eqb, ltb}
use lib.ListN.{length, get_or, replicate, length-replicate}
use Rattle.bounded.proofs.RangeLaws.{below, below_in}
use Rattle.octets.specs.Octets.{splice, Apart, put_num, to_bytes, word_bytes, zeroed}
use Rattle.octets.proofs.PartLaws.{length_splice, get_d_part, splice_in, splice_out, part_apart, part_same}
use Rattle.octets.proofs.NumLaws.{num_apart, num_other, num_same, length_to_bytes}
use Rattle.octets.proofs.WordLaws.{length_words}
use Rattle.octets.proofs.OverlayLaws.{overlay_in}
use Rattle.layout.specs.Sizes.{header_bytes, address_count, block_bytes, most_blocks, most_direct_bytes}
use Rattle.layout.specs.declared.header.Header.{Header}
use Rattle.layout.specs.declared.inode.Inode.{Inode}
use Rattle.layout.specs.Header.{header_of, put_free, header_rest_zero, less_free, more_free}
use Rattle.layout.specs.Inode.{attributes_at, address_at, address_index, kind_of, spare_of, links_of, size_of, parent_of, file_kind, address_of, attribute_entry, put_attributes, put_addresses, put_inode, put_links}
use Rattle.blocks.specs.Block.{block_at, block_of, put_in_block, zero_block, is_long, address_block, kth_by, kth_block}
use Rattle.blocks.proofs.KthLaws.{kth_direct, kth_same}
use Rattle.ledger.proofs.WriteLaws.{NoAddresses}
use Rattle.blocks.proofs.View.{View, view_of, free_counts}
use Rattle.blocks.proofs.FrameLaws.{length_free, length_entry, header_past, kind_apart, spare_apart, links_apart, size_apart, parent_apart, address_apart, kind_put, spare_put, links_put, size_put, parent_put}
use Rattle.blocks.proofs.ViewLaws.{header_free, view_inode}
use Rattle.layout.specs.Fits.{InodeFits}
use Rattle.names.specs.Entry.{entry_for}
use Rattle.names.proofs.EntryLaws.{length_entry as length-named}
use Rattle.directory.specs.Slot.{slot_at, put_entry, clear_entry}
use Rattle.sound.specs.Sound.{inodes_in, blocks_in}

-- ---- what stays
-- the length, and the header but its free counts
pub record SameFrame (s t : List ℕ) : Type 0 where
  pub long : length t ≡ length s
  pub inodes : inodes_in t ≡ inodes_in s
  pub blocks : blocks_in t ≡ blocks_in s
  pub complete : (header_of t).complete ≡ (header_of s).complete
  pub root : (header_of t).root ≡ (header_of s).root
  pub reserved : header_rest_zero t ≡ header_rest_zero s

-- the attributes and addresses of inode i
pub record SameInode (s t : List ℕ) (n i : ℕ) : Type 0 where
  pub kind : kind_of t i ≡ kind_of s i
  pub spare : spare_of t i ≡ spare_of s i
  pub links : links_of t i ≡ links_of s i
  pub size : size_of t i ≡ size_of s i
  pub parent : parent_of t i ≡ parent_of s i
  pub blocks : (k : ℕ) → k < most_blocks → kth_block t n i k ≡ kth_block s n i k

-- of every inode but i
abbrev pub OtherInodes : List ℕ → List ℕ → ℕ → ℕ → Type 0
OtherInodes s t n i = (j : ℕ) → 1 ≤ j → j ≤ n → j ≢ i → SameInode s t n j

-- all but the links and the parent of inode i
pub record SameBody (s t : List ℕ) (n i : ℕ) : Type 0 where
  pub kind : kind_of t i ≡ kind_of s i
  pub spare : spare_of t i ≡ spare_of s i
  pub size : size_of t i ≡ size_of s i
  pub blocks : (k : ℕ) → k < most_blocks → kth_block t n i k ≡ kth_block s n i k

pub same_body : {s t : List ℕ} {n i : ℕ} → SameInode s t n i → SameBody s t n i
same_body e = record { kind = e.kind; spare = e.spare; size = e.size; blocks = e.blocks }

-- an inode of the same kind and size is long as it was
pub same_long : (s t : List ℕ) (i : ℕ) → kind_of t i ≡ kind_of s i → size_of t i ≡ size_of s i → is_long t i ≡ is_long s i
unfolding is_long
same_long s t i e f = ap₂ (λ (k z : ℕ). eqb k file_kind && ltb most_direct_bytes z) e f

-- the bytes of block c
abbrev pub SameBlock : List ℕ → List ℕ → ℕ → ℕ → Type 0
SameBlock s t n c = block_of t n c ≡ block_of s n c

-- its blocks stay where kind, size, the twelve addresses and the bytes of its address block do
abbrev pub SameDirect : List ℕ → List ℕ → ℕ → ℕ → Type 0
SameDirect s t n i = (k : ℕ) → k < address_count → address_of t n (address_index i k) ≡ address_of s n (address_index i k)

pub same_blocks : (s t : List ℕ) (n i : ℕ) → kind_of t i ≡ kind_of s i → size_of t i ≡ size_of s i → SameDirect s t n i → (is_long s i ≡ true → address_block s n i ≢ 0 → SameBlock s t n (address_block s n i)) → (k : ℕ) → k < most_blocks → kth_block t n i k ≡ kth_block s n i k
same_blocks s t n i e f d g k l = ap (λ (b : Bool). kth_by b t n i k) (same_long s t i e f) ∙ kth_same (is_long s i) s t n i k d g l

-- ---- one after the other
pub frame_then : {s t u : List ℕ} → SameFrame s t → SameFrame t u → SameFrame s u
frame_then a b = record {
  long = b.long ∙ a.long;
  inodes = b.inodes ∙ a.inodes;
  blocks = b.blocks ∙ a.blocks;
  complete = b.complete ∙ a.complete;
  root = b.root ∙ a.root;
  reserved = b.reserved ∙ a.reserved;
}

pub inode_then : {s t u : List ℕ} {n i : ℕ} → SameInode s t n i → SameInode t u n i → SameInode s u n i
inode_then a b = record {
  kind = b.kind ∙ a.kind;
  spare = b.spare ∙ a.spare;
  links = b.links ∙ a.links;
  size = b.size ∙ a.size;
  parent = b.parent ∙ a.parent;
  blocks = λ k l. b.blocks k l ∙ a.blocks k l;
}

pub body_then : {s t u : List ℕ} {n i : ℕ} → SameBody s t n i → SameBody t u n i → SameBody s u n i
body_then a b = record { kind = b.kind ∙ a.kind; spare = b.spare ∙ a.spare; size = b.size ∙ a.size; blocks = λ k l. b.blocks k l ∙ a.blocks k l }

pub frame_stays : (s : List ℕ) → SameFrame s s
frame_stays s = record { long = refl; inodes = refl; blocks = refl; complete = refl; root = refl; reserved = refl }

pub inode_stays : (s : List ℕ) (n i : ℕ) → SameInode s s n i
inode_stays s n i = record { kind = refl; spare = refl; links = refl; size = refl; parent = refl; blocks = λ k l. refl }

-- ---- the three kinds of writers
-- bytes of block c alone
pub record InBlock (s t : List ℕ) (n c : ℕ) : Type 0 where
  pub frame : SameFrame s t
  pub header : header_of t ≡ header_of s
  pub inodes : (j : ℕ) → 1 ≤ j → j ≤ n → SameInode s t n j
  pub others : (a : ℕ) → 1 ≤ a → a ≢ c → SameBlock s t n a

-- inode i alone
pub record InInode (s t : List ℕ) (n i : ℕ) : Type 0 where
  pub frame : SameFrame s t
  pub header : header_of t ≡ header_of s
  pub others : OtherInodes s t n i
  pub bytes : (a : ℕ) → SameBlock s t n a

-- the attributes of i are those of v
pub record NewInode (t : List ℕ) (i : ℕ) (v : Inode) : Type 0 where
  pub kind : kind_of t i ≡ v.kind
  pub spare : spare_of t i ≡ 0
  pub links : links_of t i ≡ v.links
  pub size : size_of t i ≡ v.size
  pub parent : parent_of t i ≡ v.parent

-- the free counts alone: they become a and b
pub record InCounts (s t : List ℕ) (n a b : ℕ) : Type 0 where
  pub frame : SameFrame s t
  pub free_inodes : (header_of t).free_inodes ≡ a
  pub free_blocks : (header_of t).free_blocks ≡ b
  pub inodes : (j : ℕ) → 1 ≤ j → j ≤ n → SameInode s t n j
  pub bytes : (c : ℕ) → SameBlock s t n c

-- ---- a splice
-- one of twelve addresses
address_among : (a p m k : ℕ) → Apart a 24 p m → k < 12 → Apart (a + 2 * k) 2 p m
address_among a p m k h l = omega arith

address_row : (n j k : ℕ) → address_at n (address_index j 0) + 2 * k ≡ address_at n (address_index j k)
address_row n j k = omega arith

module _ (s : List ℕ) (p : ℕ) (xs : List ℕ) where
  reserved_past : header_bytes ≤ p → header_rest_zero (splice s p xs) ≡ header_rest_zero s
  unfolding header_rest_zero
  reserved_past h = ap₂ (λ (a b : ℕ). eqb a 0 && eqb b 0) (num_apart 1 s 9 p xs (omega arith)) (num_apart 4 s 12 p xs (omega arith))

  pub frame_past : header_bytes ≤ p → SameFrame s (splice s p xs)
  frame_past h =
      let e = header_past s p xs h in
      record {
        long = length_splice s p xs;
        inodes = ap (λ (v : Header). v.inodes) e;
        blocks = ap (λ (v : Header). v.blocks) e;
        complete = ap (λ (v : Header). v.complete) e;
        root = ap (λ (v : Header). v.root) e;
        reserved = reserved_past h;
      }

  inode_apart : (n j : ℕ) → Apart (attributes_at j) 8 p (length xs) → Apart (address_at n (address_index j 0)) 24 p (length xs) → (is_long s j ≡ true → address_block s n j ≢ 0 → SameBlock s (splice s p xs) n (address_block s n j)) → SameInode s (splice s p xs) n j
  inode_apart n j a b g = record {
    kind = kind_apart s p xs j a;
    spare = spare_apart s p xs j a;
    links = links_apart s p xs j a;
    size = size_apart s p xs j a;
    parent = parent_apart s p xs j a;
    blocks = same_blocks s (splice s p xs) n j (kind_apart s p xs j a) (size_apart s p xs j a)
        (λ k l. address_apart s p xs n (address_index j k) (subst (λ (o : ℕ). Apart o 2 p (length xs)) (address_row n j k) (address_among (address_at n (address_index j 0)) p (length xs) k b l)))
        g;
  }

  block_apart : (n c : ℕ) → Apart (block_at n c) 64 p (length xs) → SameBlock s (splice s p xs) n c
  unfolding block_of
  block_apart n c a = part_apart s (block_at n c) 64 p xs a

  -- inside of block c, which holds no addresses
  splice_block : (n c : ℕ) → 1 ≤ c → NoAddresses (is_long s) s n c → block_at n c ≤ p → p + length xs ≤ block_at n c + 64 → InBlock s (splice s p xs) n c
  splice_block n c o none l m = record {
    frame = frame_past (omega arith);
    header = header_past s p xs (omega arith);
    inodes = λ j a b. inode_apart n j (omega arith) (omega arith) (λ e z. let q = none j a b e in block_apart n (address_block s n j) (omega arith));
    others = λ a q r. block_apart n a (omega arith);
  }

-- ---- bytes in a block
module _ (s : List ℕ) (n c : ℕ) (l : 1 ≤ c) (none : NoAddresses (is_long s) s n c) where
  pub put_in_block_lem : (o : ℕ) (xs : List ℕ) → o + length xs ≤ block_bytes → InBlock s (put_in_block s n c o xs) n c
  unfolding put_in_block
  put_in_block_lem o xs m = splice_block s (block_at n c + o) xs n c l none (omega arith) (omega arith)

  pub zero_block_lem : InBlock s (zero_block s n c) n c
  unfolding zero_block zeroed
  zero_block_lem = let e : length (replicate {A = ℕ} 64 0) ≡ 64 = length-replicate {A = ℕ} 64 0 in splice_block s (block_at n c) (replicate 64 0) n c l none (omega arith) (omega arith)

  pub zero_block_is : block_at n c + block_bytes ≤ length s → block_of (zero_block s n c) n c ≡ replicate block_bytes 0
  unfolding zero_block zeroed block_of
  zero_block_is f = part_same s (block_at n c) (replicate 64 0) 64 (length-replicate {A = ℕ} 64 0) f

-- the bytes of the block itself
module _ (s : List ℕ) (n c o : ℕ) (xs : List ℕ) (r : ℕ) (l : r < block_bytes) where
  pub in_block_out : Apart r 1 o (length xs) → get_or (block_of (put_in_block s n c o xs) n c) r 0 ≡ get_or (block_of s n c) r 0
  unfolding block_of put_in_block
  in_block_out a =
      get_d_part (splice s (block_at n c + o) xs) (block_at n c) 64 r l ∙ splice_out s (block_at n c + o) xs (block_at n c + r) (omega arith) ∙ sym (get_d_part s (block_at n c) 64 r l)

  pub in_block_in : block_at n c + o + length xs ≤ length s → o ≤ r → r < o + length xs → get_or (block_of (put_in_block s n c o xs) n c) r 0 ≡ get_or xs (r - o) 0
  unfolding block_of put_in_block
  in_block_in f a b =
      let e : block_at n c + r ≡ block_at n c + o + (r - o) = omega arith in
      get_d_part (splice s (block_at n c + o) xs) (block_at n c) 64 r l
      ∙ ap (λ (q : ℕ). get_or (splice s (block_at n c + o) xs) q 0) e ∙ splice_in s (block_at n c + o) xs (r - o) f (omega arith)

-- an entry of directory d, in block c
module _ (s : List ℕ) (n d t : ℕ) (l : 1 ≤ kth_block s n d (t / 4)) (none : NoAddresses (is_long s) s n (kth_block s n d (t / 4))) where
  pub put_entry_lem : (i : ℕ) (name : List ℕ) → InBlock s (put_entry s n d t i name) n (kth_block s n d (t / 4))
  unfolding put_entry slot_at
  put_entry_lem i name =
      let e = length-named i name in
      splice_block s (slot_at s n d t) (entry_for i name) n (kth_block s n d (t / 4)) l none (omega arith) (omega arith)

  pub clear_entry_lem : InBlock s (clear_entry s n d t) n (kth_block s n d (t / 4))
  unfolding clear_entry slot_at
  clear_entry_lem =
      let e : length (replicate {A = ℕ} 16 0) ≡ 16 = length-replicate {A = ℕ} 16 0 in
      splice_block s (slot_at s n d t) (replicate 16 0) n (kth_block s n d (t / 4)) l none (omega arith) (omega arith)

-- ---- an inode
module _ (s : List ℕ) (n i : ℕ) (f : InodeFits s n i) where
  pub put_attributes_lem : (v : Inode) → InInode s (put_attributes s i v) n i
  unfolding put_attributes
  put_attributes_lem v =
      let e = length_entry v in
      let a = f.low in
      let b = f.high in
      record {
        frame = frame_past s (attributes_at i) (attribute_entry v) (omega arith);
        header = header_past s (attributes_at i) (attribute_entry v) (omega arith);
        others = λ j l m q. inode_apart s (attributes_at i) (attribute_entry v) n j (omega arith) (omega arith) (λ _ _. block_apart s (attributes_at i) (attribute_entry v) n (address_block s n j) (omega arith));
        bytes = λ c. block_apart s (attributes_at i) (attribute_entry v) n c (omega arith);
      }

  pub put_links_lem : (v : ℕ) → InInode s (put_links s i v) n i
  unfolding put_links put_num
  put_links_lem v =
      let e = length_to_bytes 2 v in
      let a = f.low in
      let b = f.high in
      record {
        frame = frame_past s (attributes_at i + 2) (to_bytes 2 v) (omega arith);
        header = header_past s (attributes_at i + 2) (to_bytes 2 v) (omega arith);
        others = λ j l m q. inode_apart s (attributes_at i + 2) (to_bytes 2 v) n j (omega arith) (omega arith) (λ _ _. block_apart s (attributes_at i + 2) (to_bytes 2 v) n (address_block s n j) (omega arith));
        bytes = λ c. block_apart s (attributes_at i + 2) (to_bytes 2 v) n c (omega arith);
      }

  -- what inode i then is, where its addresses are written and where they are not
  module _ (v : Inode) where
    fits : attributes_at i + 8 ≤ length s
    fits = let a = f.low in let b = f.high in let c = f.area in omega arith

    pub attributes_blocks : (b : Bool) (k : ℕ) → k < most_blocks → kth_by b (put_attributes s i v) n i k ≡ kth_by b s n i k
    unfolding put_attributes
    attributes_blocks x k l =
        let e = length_entry v in
        let a = f.low in
        let b = f.high in
        kth_same x s (splice s (attributes_at i) (attribute_entry v)) n i k (λ j m. address_apart s (attributes_at i) (attribute_entry v) n (address_index i j) (omega arith))
        (λ _ _. block_apart s (attributes_at i) (attribute_entry v) n (address_block s n i) (omega arith)) l

    pub attributes_new : NewInode (put_attributes s i v) i v
    attributes_new = record { kind = kind_put s i v fits; spare = spare_put s i v fits; links = links_put s i v fits; size = size_put s i v fits; parent = parent_put s i v fits }

    module _ (e : length v.addresses ≡ address_count) where
      abbrev start : ℕ
      start = address_at n (address_index i 0)

      words : length (word_bytes v.addresses) ≡ 24
      words = length_words v.addresses ∙ omega arith

      addresses : InInode (put_attributes s i v) (put_inode s n i v) n i
      unfolding put_inode put_addresses
      addresses =
          let t = put_attributes s i v in
          let w = words in
          let a = f.low in
          let b = f.high in
          record {
            frame = frame_past t start (word_bytes v.addresses) (omega arith);
            header = header_past t start (word_bytes v.addresses) (omega arith);
            others = λ j l m q. inode_apart t start (word_bytes v.addresses) n j (omega arith) (omega arith) (λ _ _. block_apart t start (word_bytes v.addresses) n (address_block t n j) (omega arith));
            bytes = λ c. block_apart t start (word_bytes v.addresses) n c (omega arith);
          }

      pub put_inode_lem : InInode s (put_inode s n i v) n i
      put_inode_lem =
          let x = put_attributes_lem v in
          let y = addresses in
          record {
            frame = frame_then x.frame y.frame;
            header = y.header ∙ x.header;
            others = λ j l m q. inode_then (x.others j l m q) (y.others j l m q);
            bytes = λ c. y.bytes c ∙ x.bytes c;
          }

      pub inode_blocks : (k : ℕ) → k < address_count → kth_block (put_inode s n i v) n i k ≡ get_or v.addresses k 0
      unfolding view_of
      inode_blocks k l =
          let a = f.low in
          let b = f.high in
          let d : address_index i k - address_index i 0 ≡ k = omega arith in
          kth_direct _ (put_inode s n i v) n i k l
          ∙ sym (below_in (12 * n) (address_of (put_inode s n i v) n) (address_index i k) (omega arith))
          ∙ ap (λ (w : View). w.address (address_index i k)) (view_inode n s i v f e)
          ∙ overlay_in (below (12 * n) (address_of s n)) (address_index i 0) v.addresses (address_index i k) (omega arith) (omega arith)
          ∙ ap (λ (x : ℕ). get_or v.addresses x 0) d

      pub inode_new : NewInode (put_inode s n i v) i v
      unfolding put_inode put_addresses
      inode_new =
          let t = put_attributes s i v in
          let w = words in
          let a = f.low in
          let b = f.high in
          let q : Apart (attributes_at i) 8 start (length (word_bytes v.addresses)) = omega arith in
          let g = attributes_new in
          record {
            kind = kind_apart t start (word_bytes v.addresses) i q ∙ g.kind;
            spare = spare_apart t start (word_bytes v.addresses) i q ∙ g.spare;
            links = links_apart t start (word_bytes v.addresses) i q ∙ g.links;
            size = size_apart t start (word_bytes v.addresses) i q ∙ g.size;
            parent = parent_apart t start (word_bytes v.addresses) i q ∙ g.parent;
          }

-- a new count of links, and all else of the inode
module _ (s : List ℕ) (n i : ℕ) (f : InodeFits s n i) (v : ℕ) where
  pub links_new : links_of (put_links s i v) i ≡ v
  unfolding links_of put_links
  links_new = let a = f.low in let b = f.high in let c = f.area in num_same 2 s (attributes_at i + 2) v (omega arith) (omega arith)

  links_kind : kind_of (put_links s i v) i ≡ kind_of s i
  unfolding put_links kind_of
  links_kind = num_other 1 2 s (attributes_at i) (attributes_at i + 2) v (omega arith)

  links_size : size_of (put_links s i v) i ≡ size_of s i
  unfolding put_links size_of
  links_size = num_other 2 2 s (attributes_at i + 4) (attributes_at i + 2) v (omega arith)

  pub links_body : SameBody s (put_links s i v) n i
  unfolding put_links put_num kind_of spare_of size_of address_of
  links_body =
      let a = f.low in
      let b = f.high in
      let e = length_to_bytes 2 v in
      record {
        kind = links_kind;
        spare = num_apart 1 s (attributes_at i + 1) (attributes_at i + 2) (to_bytes 2 v) (omega arith);
        size = links_size;
        blocks = same_blocks s (put_links s i v) n i links_kind links_size
            (λ k l. num_apart 2 s (address_at n (address_index i k)) (attributes_at i + 2) (to_bytes 2 v) (omega arith))
            (λ _ _. block_apart s (attributes_at i + 2) (to_bytes 2 v) n (address_block s n i) (omega arith));
      }

  pub links_parent : parent_of (put_links s i v) i ≡ parent_of s i
  unfolding put_links parent_of
  links_parent = let a = f.low in num_other 2 2 s (attributes_at i + 6) (attributes_at i + 2) v (omega arith)

-- ---- the free counts
module _ (s : List ℕ) (n : ℕ) (f : header_bytes ≤ length s) where
  reserved_free : (a b : ℕ) → header_rest_zero (put_free s a b) ≡ header_rest_zero s
  unfolding header_rest_zero put_free
  reserved_free a b =
      ap₂ (λ (x y : ℕ). eqb x 0 && eqb y 0)
      (num_other 1 2 (put_num 2 s 4 a) 9 6 b (omega arith) ∙ num_other 1 2 s 9 4 a (omega arith))
      (num_other 4 2 (put_num 2 s 4 a) 12 6 b (omega arith) ∙ num_other 4 2 s 12 4 a (omega arith))

  -- one of the two numbers
  number_inode : (t : List ℕ) (o v j : ℕ) → o + 2 ≤ 16 → SameInode t (put_num 2 t o v) n j
  unfolding put_num
  number_inode t o v j l = let e = length_to_bytes 2 v in inode_apart t o (to_bytes 2 v) n j (omega arith) (omega arith) (λ _ _. block_apart t o (to_bytes 2 v) n (address_block t n j) (omega arith))

  number_block : (t : List ℕ) (o v c : ℕ) → o + 2 ≤ 16 → SameBlock t (put_num 2 t o v) n c
  unfolding put_num
  number_block t o v c l = let e = length_to_bytes 2 v in block_apart t o (to_bytes 2 v) n c (omega arith)

  pub put_free_lem : (a b : ℕ) → InCounts s (put_free s a b) n a b
  unfolding put_free
  put_free_lem a b =
      let e : header_of (put_free s a b) ≡ free_counts (header_of s) a b = header_free s f a b in
      record {
        frame = record {
          long = length_free s a b;
          inodes = ap (λ (v : Header). v.inodes) e;
          blocks = ap (λ (v : Header). v.blocks) e;
          complete = ap (λ (v : Header). v.complete) e;
          root = ap (λ (v : Header). v.root) e;
          reserved = reserved_free a b;
        };
        free_inodes = ap (λ (v : Header). v.free_inodes) e;
        free_blocks = ap (λ (v : Header). v.free_blocks) e;
        inodes = λ j l m. inode_then (number_inode s 4 a j (omega arith)) (number_inode (put_num 2 s 4 a) 6 b j (omega arith));
        bytes = λ c. number_block (put_num 2 s 4 a) 6 b c (omega arith) ∙ number_block s 4 a c (omega arith);
      }

  pub less_free_lem : (i b : ℕ) → InCounts s (less_free s i b) n ((header_of s).free_inodes - i) ((header_of s).free_blocks - b)
  unfolding less_free
  less_free_lem i b = put_free_lem ((header_of s).free_inodes - i) ((header_of s).free_blocks - b)

  pub more_free_lem : (i b : ℕ) → InCounts s (more_free s i b) n ((header_of s).free_inodes + i) ((header_of s).free_blocks + b)
  unfolding more_free
  more_free_lem i b = put_free_lem ((header_of s).free_inodes + i) ((header_of s).free_blocks + b)
