-- A splice leaves every field that it does not touch; and what its own field then holds.
use Prim.Native.Nat.{ℕ, ◌+◌, ◌≤◌}
use mathlib.Core.Path.{◌≡◌, refl, ap, ◌∙◌}
use mathlib.Core.List.{List}
use native.Mathlib.Omega.{arith}
use lib.ListN.{length}
use Rattle.octets.specs.Octets.{splice, Apart, num_at, to_bytes, word_bytes}
use Rattle.octets.proofs.PartLaws.{length_splice}
use Rattle.octets.proofs.NumLaws.{num_apart, num_in, length_num}
use Rattle.layout.specs.declared.header.Header.{Header}
use Rattle.layout.specs.declared.inode.Inode.{Inode}
use Rattle.layout.specs.Header.{header_of, put_header, put_free, put_complete}
use Rattle.layout.specs.Inode.{attributes_at, address_at, address_index, kind_of, spare_of, links_of, size_of, parent_of, address_of, attribute_entry, put_attributes, put_addresses, put_inode}

-- ---- lengths
pub length_free : (s : List ℕ) (i b : ℕ) → length (put_free s i b) ≡ length s
unfolding put_free
length_free s i b = simp length_num

pub length_complete : (s : List ℕ) (v : ℕ) → length (put_complete s v) ≡ length s
unfolding put_complete
length_complete s v = length_num 1 s 8 v

pub length_header : (s : List ℕ) (h : Header) → length (put_header s h) ≡ length s
unfolding put_header
length_header s h = simp (length_num, length_complete, length_free)

pub length_attributes : (s : List ℕ) (i : ℕ) (v : Inode) → length (put_attributes s i v) ≡ length s
unfolding put_attributes
length_attributes s i v = length_splice s (attributes_at i) (attribute_entry v)

pub length_addresses : (s : List ℕ) (n i : ℕ) (vs : List ℕ) → length (put_addresses s n i vs) ≡ length s
unfolding put_addresses
length_addresses s n i vs = length_splice s (address_at n (address_index i 0)) (word_bytes vs)

pub length_inode : (s : List ℕ) (n i : ℕ) (v : Inode) → length (put_inode s n i v) ≡ length s
unfolding put_inode
length_inode s n i v = simp (length_addresses, length_attributes)

-- ---- fields that a splice does not touch
module _ (s : List ℕ) (p : ℕ) (xs : List ℕ) where
  -- a splice past the header
  pub header_past : 16 ≤ p → header_of (splice s p xs) ≡ header_of s
  unfolding header_of
  header_past h =
      rw (
        num_apart 2 s 0 p xs (omega arith),
        num_apart 2 s 2 p xs (omega arith),
        num_apart 2 s 4 p xs (omega arith),
        num_apart 2 s 6 p xs (omega arith),
        num_apart 1 s 8 p xs (omega arith),
        num_apart 2 s 10 p xs (omega arith),
      )

  module _ (i : ℕ) (h : Apart (attributes_at i) 8 p (length xs)) where
    pub kind_apart : kind_of (splice s p xs) i ≡ kind_of s i
    unfolding kind_of
    kind_apart = num_apart 1 s (attributes_at i) p xs (omega arith)

    pub spare_apart : spare_of (splice s p xs) i ≡ spare_of s i
    unfolding spare_of
    spare_apart = num_apart 1 s (attributes_at i + 1) p xs (omega arith)

    pub links_apart : links_of (splice s p xs) i ≡ links_of s i
    unfolding links_of
    links_apart = num_apart 2 s (attributes_at i + 2) p xs (omega arith)

    pub size_apart : size_of (splice s p xs) i ≡ size_of s i
    unfolding size_of
    size_apart = num_apart 2 s (attributes_at i + 4) p xs (omega arith)

    pub parent_apart : parent_of (splice s p xs) i ≡ parent_of s i
    unfolding parent_of
    parent_apart = num_apart 2 s (attributes_at i + 6) p xs (omega arith)

  pub address_apart : (n x : ℕ) → Apart (address_at n x) 2 p (length xs) → address_of (splice s p xs) n x ≡ address_of s n x
  unfolding address_of
  address_apart n x h = num_apart 2 s (address_at n x) p xs h

-- ---- the fields of an attribute entry that was put
pub length_entry : (v : Inode) → length (attribute_entry v) ≡ 8
unfolding attribute_entry to_bytes
length_entry v = refl

module _ (s : List ℕ) (i : ℕ) (v : Inode) (f : attributes_at i + 8 ≤ length s) where
  fits : attributes_at i + length (attribute_entry v) ≤ length s
  fits = let e = length_entry v in omega arith

  at : (k a : ℕ) → a + k ≤ 8 → num_at k (splice s (attributes_at i) (attribute_entry v)) (attributes_at i + a) ≡ num_at k (attribute_entry v) a
  at k a h = let e = length_entry v in num_in k s (attributes_at i) (attribute_entry v) a fits (omega arith)

  pub kind_put : kind_of (put_attributes s i v) i ≡ v.kind
  unfolding kind_of put_attributes
  kind_put =
      let z : attributes_at i ≡ attributes_at i + 0 = omega arith in
      ap (num_at 1 (splice s (attributes_at i) (attribute_entry v))) z ∙ at 1 0 (omega arith) ∙ (unfold num_at attribute_entry to_bytes in refl)

  pub spare_put : spare_of (put_attributes s i v) i ≡ 0
  unfolding spare_of put_attributes
  spare_put = at 1 1 (omega arith) ∙ (unfold num_at attribute_entry to_bytes in refl)

  pub links_put : links_of (put_attributes s i v) i ≡ v.links
  unfolding links_of put_attributes
  links_put = at 2 2 (omega arith) ∙ (unfold num_at attribute_entry to_bytes in omega arith)

  pub size_put : size_of (put_attributes s i v) i ≡ v.size
  unfolding size_of put_attributes
  size_put = at 2 4 (omega arith) ∙ (unfold num_at attribute_entry to_bytes in omega arith)

  pub parent_put : parent_of (put_attributes s i v) i ≡ v.parent
  unfolding parent_of put_attributes
  parent_put = at 2 6 (omega arith) ∙ (unfold num_at attribute_entry to_bytes in omega arith)
