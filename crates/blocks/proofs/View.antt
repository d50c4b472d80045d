-- A store or an image as numbers and total functions, 0 out of range, so that a write changes one of them and leaves the others as they are.
-- n is the inode count. Inodes go from 1 to n, the addresses of all inodes stand in a row from 0, and so do the bytes of all blocks.
use mathlib.Core.List.{List}
use Prim.Native.Nat.{ℕ, ◌+◌, ◌*◌}
use lib.ListN.{get_or}
use Rattle.bounded.specs.Update.{upd}
use Rattle.bounded.proofs.RangeLaws.{within, below}
use Rattle.octets.specs.Octets.{num_at}
use Rattle.layout.specs.Sizes.{header_bytes, inode_bytes, address_count}
use Rattle.layout.specs.declared.header.Header.{Header}
use Rattle.layout.specs.declared.inode.Inode.{Inode}
use Rattle.layout.specs.Header.{header_of}
use Rattle.layout.specs.Inode.{kind_of, spare_of, links_of, size_of, parent_of, address_of}

pub record View : Type 0 where
  pub header : Header
  pub reserved : ℕ
  pub reserved4 : ℕ
  pub kind : ℕ → ℕ
  pub spare : ℕ → ℕ
  pub links : ℕ → ℕ
  pub size : ℕ → ℕ
  pub parent : ℕ → ℕ
  pub address : ℕ → ℕ
  pub content : ℕ → ℕ

-- byte x of all blocks
unfoldable pub content_of : ℕ → List ℕ → ℕ → ℕ
content_of n s x = get_or s (header_bytes + inode_bytes * n + x) 0

unfoldable pub view_of : ℕ → List ℕ → View
view_of n s = record {
  header = header_of s;
  reserved = num_at 1 s 9;
  reserved4 = num_at 4 s 12;
  kind = within n (kind_of s);
  spare = within n (spare_of s);
  links = within n (links_of s);
  size = within n (size_of s);
  parent = within n (parent_of s);
  address = below (address_count * n) (address_of s n);
  content = content_of n s;
}

-- ---- what a writer does to the view
abbrev pub with_header : View → Header → View
with_header v h = record { header = h; reserved = v.reserved; reserved4 = v.reserved4; kind = v.kind; spare = v.spare; links = v.links; size = v.size; parent = v.parent; address = v.address; content = v.content }

abbrev pub with_links : View → ℕ → ℕ → View
with_links v i x = record { header = v.header; reserved = v.reserved; reserved4 = v.reserved4; kind = v.kind; spare = v.spare; links = upd v.links i x; size = v.size; parent = v.parent; address = v.address; content = v.content }

abbrev pub with_attributes : View → ℕ → Inode → View
with_attributes v i a = record { header = v.header; reserved = v.reserved; reserved4 = v.reserved4; kind = upd v.kind i a.kind; spare = upd v.spare i 0; links = upd v.links i a.links; size = upd v.size i a.size; parent = upd v.parent i a.parent; address = v.address; content = v.content }

abbrev pub with_address : View → (ℕ → ℕ) → View
with_address v f = record { header = v.header; reserved = v.reserved; reserved4 = v.reserved4; kind = v.kind; spare = v.spare; links = v.links; size = v.size; parent = v.parent; address = f; content = v.content }

abbrev pub with_content : View → (ℕ → ℕ) → View
with_content v f = record { header = v.header; reserved = v.reserved; reserved4 = v.reserved4; kind = v.kind; spare = v.spare; links = v.links; size = v.size; parent = v.parent; address = v.address; content = f }

-- a header with other free counts, and with another byte 8
abbrev pub free_counts : Header → ℕ → ℕ → Header
free_counts h a b = record { inodes = h.inodes; blocks = h.blocks; free_inodes = a; free_blocks = b; complete = h.complete; root = h.root }

abbrev pub completion : Header → ℕ → Header
completion h v = record { inodes = h.inodes; blocks = h.blocks; free_inodes = h.free_inodes; free_blocks = h.free_blocks; complete = v; root = h.root }
