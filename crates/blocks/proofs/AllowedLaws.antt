-- The test of counts and length decides what it says.
use Prim.Native.Nat.{ℕ}
use Rattle.bounded.specs.Reflect.{Reflects}
use Rattle.bounded.proofs.ReflectLaws.{r_eq, r_le, r_and, r_says}
use Rattle.layout.specs.Sizes.{most_inodes}
use Rattle.blocks.specs.Block.{store_length, Allowed, allowed}

pub allowed_is : (limit n b k : ℕ) → Reflects (allowed limit n b k) (Allowed limit n b k)
unfolding allowed
allowed_is limit n b k =
    r_says (λ p. record { some_inodes = p.0; most_inodes_lem = p.1.0; some_blocks = p.1.1.0; most_blocks_lem = p.1.1.1.0; long = p.1.1.1.1 })
    (λ r. (r.some_inodes, (r.most_inodes_lem, (r.some_blocks, (r.most_blocks_lem, r.long)))))
    (r_and (r_le 1 n) (r_and (r_le n most_inodes) (r_and (r_le 1 b) (r_and (r_le b limit) (r_eq k (store_length n b))))))
