-- A block that is copied as it stands. s is the store, d the desk, n the inode count.
use Prim.Native.Nat.{ℕ, ◌+◌, ◌≤◌, ◌<◌}
use mathlib.Core.Path.{◌≡◌, refl}
use mathlib.Core.Bool.{false, ◌&&◌}
use mathlib.Core.List.{List}
use borrow.Author.Tests.{ne_eqb}
use lib.Dec.{eqb}
use lib.ListN.{length}
use Rattle.octets.specs.Octets.{part, pasted}
use Rattle.octets.proofs.PartLaws.{length_inside}
use Rattle.layout.specs.Sizes.{address_place, block_bytes}
use Rattle.layout.specs.Inode.{kind_of, directory_kind, size_of}
use Rattle.blocks.specs.Block.{block_at, block_of, is_long, kth_block, blocks_used}
use Rattle.sound.specs.Sound.{blocks_in}
use Rattle.sound.specs.Counted.{SoundStore}
use Rattle.checkpoint.specs.Copier.{copied_block}
use Rattle.transfer.proofs.BlockLaws.{block_here, covered}

pub plain_copied : (s d : List ℕ) (n i k : ℕ) → is_long s i && eqb k address_place ≡ false → (kind_of s i ≡ directory_kind → ⊥) → copied_block s d n i k ≡ part s (block_at n (kth_block s n i k)) block_bytes
unfolding copied_block block_of
plain_copied s d n i k q f = rw (q, ne_eqb (kind_of s i) 2 f) refl

pub pasted_whole : (x s : List ℕ) (o : ℕ) → length x ≡ block_bytes → o + block_bytes ≤ length s → pasted x 0 s o block_bytes ≡ part s o block_bytes
unfolding pasted
pasted_whole x s o e h = covered x (part s o 64) e (length_inside s o 64 h)

pub kth_inside : (s : List ℕ) (n i k : ℕ) → SoundStore s n (blocks_in s) → 1 ≤ i → i ≤ n → k < blocks_used (size_of s i) → block_at n (kth_block s n i k) + block_bytes ≤ length s
kth_inside s n i k f low high used = (block_here f i low high k used).2
