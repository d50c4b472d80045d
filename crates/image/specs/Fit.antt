-- Parts of the paper's tests of the image, as the code goes through them: what is told by the desk's header, and what is a loop. n is the inode count, s the store, m the image.
use Rattle.std.specs.Prelude.{ℕ, ◌+◌, ◌*◌, Bool, not, ◌&&◌, List, eqb, leb}
use Rattle.bounded.specs.Below.{all_below, all_to}
use Rattle.layout.specs.Sizes.{address_count, further_count, most_blocks, root_inode, not_complete}
use Rattle.layout.specs.declared.header.Header.{Header}
use Rattle.layout.specs.Inode.{address_of}
use Rattle.blocks.specs.Block.{is_long, address_block, kth_by, row_by}
use Rattle.blocks.specs.Free.{long_but}
use Rattle.desk.specs.declared.Desk.{Desk}

-- the opposite of "an address exceeds its block count", of b blocks; long tells which inodes have an address block
abbrev pub addresses_right : (ℕ → Bool) → List ℕ → ℕ → ℕ → Bool
addresses_right long m n b = all_below (λ x. leb (row_by long m n x) b) (most_blocks * n)

-- the same of the twelve addresses of each inode alone
abbrev pub direct_right : List ℕ → ℕ → ℕ → Bool
direct_right m n b = all_below (λ x. leb (address_of m n x) b) (address_count * n)

-- of those in the address block of inode i, and of all inodes
abbrev pub further_right_of : Bool → List ℕ → ℕ → ℕ → ℕ → Bool
further_right_of long m n b i = all_below (λ j. leb (kth_by long m n i (address_count + j)) b) further_count

abbrev pub further_right : (ℕ → Bool) → List ℕ → ℕ → ℕ → Bool
further_right long m n b = all_to (λ i. further_right_of (long i) m n b i) n

-- "the locked inode by its store size": it has an address block; nothing has where none is locked, l = 0
abbrev pub locked_long : List ℕ → ℕ → Bool
locked_long s l = not (eqb l 0) && is_long s l

-- "12 or more of its blocks are copied and its twelfth image address is 0": of inode l, with c copied
abbrev pub addresses_lacking : Bool → List ℕ → ℕ → ℕ → ℕ → Bool
addresses_lacking long m n l c = long && (leb address_count c && eqb (address_block m n l) 0)

-- the image's addresses fit, by the desk's header h: none is above its block count, and the locked inode lacks no address block
abbrev pub rows_right : List ℕ → List ℕ → Desk → Bool
rows_right s m h =
    addresses_right (long_but m h.locked (is_long s h.locked)) m h.inodes h.blocks
    && not (addresses_lacking (locked_long s h.locked) m h.inodes h.locked h.transferred)

-- the image's header t is that of the running copy, by the desk's header h
abbrev pub header_right : Header → Desk → Bool
header_right t h = eqb t.inodes h.inodes && (eqb t.blocks h.blocks && (eqb t.root root_inode && eqb t.complete not_complete))
