-- How the plan of a write ends, from what the code has read.
use Rattle.std.specs.Prelude.{Ok}
use Prim.Native.Nat.{ℕ, ◌+◌, ◌-◌, ◌≤◌, max}
use mathlib.Core.Path.{◌≡◌, sym, ap, ◌∙◌, subst}
use mathlib.Core.Bool.{true}
use mathlib.Core.List.{List}
use native.Mathlib.Omega.{arith}
use Rattle.layout.specs.Sizes.{most_file_bytes}
use Rattle.layout.specs.declared.header.Header.{Header}
use Rattle.layout.specs.Header.{header_of}
use Rattle.layout.specs.Inode.{size_of, is_file}
use Rattle.blocks.specs.Block.{blocks_used}
use Rattle.content.specs.Plan.{write_plan}
use Rattle.content.proofs.PlanLaws.{write_passes}

-- ---- write of k bytes at o: x is the size that the code has read, z the new one, q the header, u and v the blocks that z and x use
module _ (s : List ℕ) (n i o k x : ℕ) (f : is_file s n i ≡ true) (e : x ≡ size_of s i)
    (z u v : ℕ) (q : Header) (l : o ≤ x) (m : k ≤ most_file_bytes - o) (w : x ≤ most_file_bytes) (a : z ≡ max x (o + k)) (b : u ≡ blocks_used z) (c : v ≡ blocks_used x) (g : q ≡ header_of s) where
  new_size : z ≡ max (size_of s i) (o + k)
  new_size = a ∙ ap (λ (y : ℕ). max y (o + k)) e

  more : u - v ≡ blocks_used (max (size_of s i) (o + k)) - blocks_used (size_of s i)
  more = let p = b ∙ ap blocks_used new_size in let r = c ∙ ap blocks_used e in rw (p, r)

  free : q.free_blocks ≡ (header_of s).free_blocks
  free = ap (λ (y : Header). y.free_blocks) g

  pub write_done : u - v ≤ q.free_blocks → Ok z ≡ write_plan s n i o k
  write_done y =
      let y2 = subst (λ (j : ℕ). j ≤ (header_of s).free_blocks) more (subst (λ (j : ℕ). u - v ≤ j) free y) in
      ap Ok new_size ∙ sym (write_passes s n i o k f (omega arith) (omega arith) y2)
