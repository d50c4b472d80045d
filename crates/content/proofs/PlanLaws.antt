-- Plans at the edges: writes at the size and at the limit.
use Rattle.std.specs.Prelude.{Err, Ok}
use Prim.Native.Nat.{ℕ, ◌+◌, ◌-◌, ◌≤◌, ◌<◌, max}
use mathlib.Core.Path.{◌≡◌}
use mathlib.Core.Bool.{true}
use mathlib.Core.List.{List}
use borrow.Author.Tests.{lt-ltb, le-ltb}
use lib.Dec.{ltb}
use Rattle.bounded.proofs.BoolLaws.{or_r}
use Rattle.layout.specs.Sizes.{most_file_bytes}
use Rattle.layout.specs.Header.{header_of}
use Rattle.layout.specs.Inode.{size_of, is_file}
use Rattle.blocks.specs.Block.{blocks_used}
use Rattle.answers.specs.declared.Refusal.TheVariants.{PastEnd}
use Rattle.content.specs.Plan.{write_plan}

-- ---- a write of k bytes at o to the file i
module _ (s : List ℕ) (n i o k : ℕ) (f : is_file s n i ≡ true) where
  -- "Writing starts at most at the size", and ends at the limit at most
  pub write_passes : o ≤ size_of s i → o + k ≤ most_file_bytes → blocks_used (max (size_of s i) (o + k)) - blocks_used (size_of s i) ≤ (header_of s).free_blocks
      → write_plan s n i o k ≡ Ok (max (size_of s i) (o + k))
  unfolding write_plan
  write_passes a b c = rw (f, le-ltb (size_of s i) o a, le-ltb most_file_bytes (o + k) b, le-ltb (header_of s).free_blocks (blocks_used (max (size_of s i) (o + k)) - blocks_used (size_of s i)) c)

  pub write_past : size_of s i < o → write_plan s n i o k ≡ Err PastEnd
  unfolding write_plan
  write_past a = rw (f, lt-ltb (size_of s i) o a)

  pub write_beyond : most_file_bytes < o + k → write_plan s n i o k ≡ Err PastEnd
  unfolding write_plan
  write_beyond b = rw (f, or_r (ltb (size_of s i) o) (ltb most_file_bytes (o + k)) (lt-ltb most_file_bytes (o + k) b))
