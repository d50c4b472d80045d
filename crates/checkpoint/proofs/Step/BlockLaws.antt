-- What a block step leaves of header and attributes: the block and the address that then names it lie behind them. n is the inode count.
use Prim.Native.Nat.{ℕ, ◌+◌, ◌*◌, ◌-◌, ◌≤◌}
use mathlib.Core.Path.{◌≡◌, ◌∙◌}
use mathlib.Core.Bool.{Bool, true, false}
use mathlib.Core.List.{List}
use native.Mathlib.Omega.{arith}
use lib.Dec.{ltb}
use Rattle.bounded.specs.Search.{pick}
use Rattle.octets.specs.Octets.{splice, to_bytes, put_num}
use Rattle.layout.specs.Sizes.{header_bytes, attribute_bytes, address_count}
use Rattle.layout.specs.Inode.{address_index, address_at, kind_of, spare_of, links_of, size_of, parent_of, put_address}
use Rattle.blocks.specs.Block.{block_at, address_block, put_in_block, put_kth}
use Rattle.blocks.proofs.FrameLaws.{kind_apart, spare_apart, links_apart, size_apart, parent_apart}
use Rattle.preservation.proofs.SameLaws.{SameFrame, frame_past, frame_then}

-- the frame, and the attributes of every inode
pub record SameAttributes (m t : List ℕ) (n : ℕ) : Type 0 where
  pub frame : SameFrame m t
  pub kinds : (i : ℕ) → 1 ≤ i → i ≤ n → kind_of t i ≡ kind_of m i
  pub spares : (i : ℕ) → 1 ≤ i → i ≤ n → spare_of t i ≡ spare_of m i
  pub links : (i : ℕ) → 1 ≤ i → i ≤ n → links_of t i ≡ links_of m i
  pub sizes : (i : ℕ) → 1 ≤ i → i ≤ n → size_of t i ≡ size_of m i
  pub parents : (i : ℕ) → 1 ≤ i → i ≤ n → parent_of t i ≡ parent_of m i

-- bytes behind them
bytes_behind : (m : List ℕ) (n p : ℕ) (xs : List ℕ) → header_bytes + attribute_bytes * n ≤ p → SameAttributes m (splice m p xs) n
bytes_behind m n p xs h = record {
  frame = frame_past m p xs (omega arith);
  kinds = λ i a z. kind_apart m p xs i (omega arith);
  spares = λ i a z. spare_apart m p xs i (omega arith);
  links = λ i a z. links_apart m p xs i (omega arith);
  sizes = λ i a z. size_apart m p xs i (omega arith);
  parents = λ i a z. parent_apart m p xs i (omega arith);
}

-- the address of a place, in the inode's own twelve or in its address block
address_behind : (m : List ℕ) (n i k c : ℕ) → SameAttributes m (put_kth m n i k c) n
unfolding put_kth put_address put_in_block put_num
address_behind m n i k c = go (ltb k address_count)
  where
    go : (x : Bool) → SameAttributes m (pick x (splice m (address_at n (address_index i k)) (to_bytes 2 c)) (splice m (block_at n (address_block m n i) + 2 * (k - 12)) (to_bytes 2 c))) n
    go true = bytes_behind m n (address_at n (address_index i k)) (to_bytes 2 c) (omega arith)
    go false = bytes_behind m n (block_at n (address_block m n i) + 2 * (k - 12)) (to_bytes 2 c) (omega arith)

pub block_attributes : (m : List ℕ) (n c : ℕ) (xs : List ℕ) (i k : ℕ) → SameAttributes m (put_kth (put_in_block m n c 0 xs) n i k c) n
block_attributes m n c xs i k =
    let v : SameAttributes m (put_in_block m n c 0 xs) n = unfold put_in_block in bytes_behind m n (block_at n c + 0) xs (omega arith) in
    let w = address_behind (put_in_block m n c 0 xs) n i k c in
    record {
      frame = frame_then v.frame w.frame;
      kinds = λ j a z. w.kinds j a z ∙ v.kinds j a z;
      spares = λ j a z. w.spares j a z ∙ v.spares j a z;
      links = λ j a z. w.links j a z ∙ v.links j a z;
      sizes = λ j a z. w.sizes j a z ∙ v.sizes j a z;
      parents = λ j a z. w.parents j a z ∙ v.parents j a z;
    }
