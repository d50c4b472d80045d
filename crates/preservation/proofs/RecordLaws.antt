-- An inode's record and the free counts: what a write of them keeps, and writes in another order. n is the inode count.
use Prim.Native.Nat.{ℕ, ◌+◌, ◌*◌, ◌≤◌}
use mathlib.Core.Path.{◌≡◌, sym, ap, ap₂, ◌∙◌}
use mathlib.Core.List.{List}
use native.Mathlib.Omega.{arith}
use lib.ListN.{length, get_or}
use Rattle.bounded.proofs.TableLaws.{length_table, table_ext, table_list}
use Rattle.octets.specs.Octets.{splice, to_bytes, put_num, word_bytes}
use Rattle.octets.proofs.PartLaws.{splice_comm, splice_twice}
use Rattle.octets.proofs.NumLaws.{length_to_bytes}
use Rattle.octets.proofs.WordLaws.{length_words}
use Rattle.layout.specs.declared.inode.Inode.{Inode}
use Rattle.layout.specs.Header.{header_of, put_free, less_free}
use Rattle.layout.specs.Inode.{attributes_at, address_at, address_index, size_of, address_of, addresses_of, attribute_entry, inode_of, put_attributes, put_addresses, put_inode}
use Rattle.blocks.specs.Block.{blocks_used}
use Rattle.blocks.proofs.FrameLaws.{length_inode, length_entry, header_past}
use Rattle.layout.specs.Fits.{InodeFits}
use Rattle.blocks.proofs.KthLaws.{kth_direct}
use Rattle.preservation.proofs.SameLaws.{less_free_lem, inode_new, inode_blocks}

-- ---- the free counts
-- after a write past the header, and before it
module _ (s : List ℕ) (p : ℕ) (xs : List ℕ) (h : 16 ≤ p) where
  free_past : (x y : ℕ) → put_free (splice s p xs) x y ≡ splice (put_free s x y) p xs
  unfolding put_free put_num
  free_past x y =
      let a = length_to_bytes 2 x in
      let b = length_to_bytes 2 y in
      ap (λ (t : List ℕ). splice t 6 (to_bytes 2 y)) (splice_comm s p xs 4 (to_bytes 2 x) (omega arith))
      ∙ splice_comm (splice s 4 (to_bytes 2 x)) p xs 6 (to_bytes 2 y) (omega arith)

  pub less_past : (x y : ℕ) → less_free (splice s p xs) x y ≡ splice (less_free s x y) p xs
  unfolding less_free
  less_past x y = rw (header_past s p xs h) (free_past _ _)

-- ---- an inode's record
-- as it was read
module _ (s : List ℕ) (n i : ℕ) (v : Inode) (e : v ≡ inode_of s n i) where
  pub size_is : v.size ≡ size_of s i
  unfolding inode_of
  size_is = ap (λ (w : Inode). w.size) e

  pub used_is : (u : ℕ) → u ≡ blocks_used v.size → u ≡ blocks_used (size_of s i)
  used_is u q = q ∙ ap blocks_used size_is

  pub twelve : length v.addresses ≡ 12
  unfolding inode_of addresses_of
  twelve = ap (λ (w : Inode). length w.addresses) e ∙ length_table (λ k. address_of s n (address_index i k)) 12

-- as it is written
module _ (s : List ℕ) (n i : ℕ) (l : 1 ≤ i) (m : i ≤ n) (v : Inode) where
  -- the header is not touched
  pub header_inode : header_of (put_inode s n i v) ≡ header_of s
  unfolding put_inode put_attributes put_addresses
  header_inode =
      header_past (splice s (attributes_at i) (attribute_entry v)) (address_at n (address_index i 0)) (word_bytes v.addresses) (omega arith)
      ∙ header_past s (attributes_at i) (attribute_entry v) (omega arith)

  -- after the free counts
  pub inode_less : (x y : ℕ) → put_inode (less_free s x y) n i v ≡ less_free (put_inode s n i v) x y
  unfolding put_inode put_attributes put_addresses
  inode_less x y =
      sym (less_past (splice s (attributes_at i) (attribute_entry v)) (address_at n (address_index i 0)) (word_bytes v.addresses) (omega arith) x y
      ∙ ap (λ (t : List ℕ). splice t (address_at n (address_index i 0)) (word_bytes v.addresses)) (less_past s (attributes_at i) (attribute_entry v) (omega arith) x y))

  -- after a write past the inodes
  pub inode_past : length v.addresses ≡ 12 → (p : ℕ) (xs : List ℕ) → 16 + 32 * n ≤ p → put_inode (splice s p xs) n i v ≡ splice (put_inode s n i v) p xs
  unfolding put_inode put_attributes put_addresses
  inode_past e p xs h =
      let a = length_entry v in
      let b = length_words v.addresses in
      ap (λ (t : List ℕ). splice t (address_at n (address_index i 0)) (word_bytes v.addresses)) (splice_comm s p xs (attributes_at i) (attribute_entry v) (omega arith))
      ∙ splice_comm (splice s (attributes_at i) (attribute_entry v)) p xs (address_at n (address_index i 0)) (word_bytes v.addresses) (omega arith)

  -- with other attributes then
  pub attributes_twice : length v.addresses ≡ 12 → (w : Inode) → v.addresses ≡ w.addresses → put_attributes (put_inode s n i v) i w ≡ put_inode s n i w
  unfolding put_inode put_attributes put_addresses
  attributes_twice e w q =
      let a = length_entry v in
      let b = length_words v.addresses in
      let c = length_entry w in
      splice_comm (splice s (attributes_at i) (attribute_entry v)) (address_at n (address_index i 0)) (word_bytes v.addresses) (attributes_at i) (attribute_entry w) (omega arith)
      ∙ ap₂ (λ (t : List ℕ) (ws : List ℕ). splice t (address_at n (address_index i 0)) (word_bytes ws)) (splice_twice s (attributes_at i) (attribute_entry v) (attribute_entry w) (a ∙ sym c)) q

-- ---- what is read after a record and the free counts were put
module _ (s : List ℕ) (n i : ℕ) (f : InodeFits s n i) (v : Inode) (e : length v.addresses ≡ 12) (x y : ℕ) where
  pub inode_read : inode_of (less_free (put_inode s n i v) x y) n i ≡ v
  unfolding inode_of addresses_of
  inode_read =
      let t = put_inode s n i v in
      let o = length_inode s n i v in
      let q = f.area in
      let a = (less_free_lem t n (omega arith) x y).inodes i f.low f.high in
      let g = inode_new s n i f v e in
      λ k. record {
        kind = (a.kind ∙ g.kind) k;
        links = (a.links ∙ g.links) k;
        size = (a.size ∙ g.size) k;
        parent = (a.parent ∙ g.parent) k;
        addresses = (table_ext (λ j. address_of (less_free t x y) n (address_index i j)) (λ j. get_or v.addresses j 0) 12 (λ j l. sym (kth_direct _ (less_free t x y) n i j l) ∙ a.blocks j (omega arith) ∙ inode_blocks s n i f v e j l) ∙ table_list v.addresses 12 e) k;
      }
