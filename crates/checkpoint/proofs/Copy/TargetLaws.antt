-- The image block that a block step takes. m is the image, n and b the counts of inodes and blocks, x the store's block.
use Rattle.std.specs.Prelude.{None, Some}
use Prim.Native.Nat.{ℕ, ◌≤◌}
use mathlib.Core.Path.{◌≡◌, refl}
use mathlib.Core.Bool.{Bool, true, false, not, ◌&&◌}
use mathlib.Core.List.{List}
use native.Mathlib.Omega.{arith}
use borrow.Author.Tests.{leb-true, not-true, not-false}
use lib.Dec.{leb}
use Rattle.bounded.specs.Search.{pick}
use Rattle.bounded.proofs.BoolLaws.{and_left, and_right}
use Rattle.bounded.proofs.SearchLaws.{none_below, found_lowest}
use Rattle.blocks.specs.Free.{named_by, lowest_by}
use Rattle.checkpoint.specs.Copier.{target_block}

-- a block of the b that no inode has
pub record FreeBy (long : ℕ → Bool) (m : List ℕ) (n b c : ℕ) : Type 0 where
  pub low : 1 ≤ c
  pub high : c ≤ b
  pub free : named_by long m n c ≡ false

module _ (long : ℕ → Bool) (m : List ℕ) (n b x : ℕ) where
  lowest : (c : ℕ) → lowest_by long m n b ≡ Some c → FreeBy long m n b c
  unfolding lowest_by
  lowest c e =
      let r = found_lowest (λ a. not (named_by long m n a)) 1 b c e in
      let l = r.below in
      record { low = r.from; high = omega arith; free = not-true (named_by long m n c) r.holds }

  -- it exists, and no address names it
  pub target_at : (c : ℕ) → target_block long m n b x ≡ Some c → FreeBy long m n b c
  unfolding target_block
  target_at c = go (leb 1 x && (leb x b && not (named_by long m n x))) refl
    where
      go : (t : Bool) → leb 1 x && (leb x b && not (named_by long m n x)) ≡ t → pick t (Some x) (lowest_by long m n b) ≡ Some c → FreeBy long m n b c
      go true q e =
          let z : x ≡ c = cc in
          let w = and_right (leb 1 x) (leb x b && not (named_by long m n x)) q in
          rw (← z) (record {
            low = leb-true 1 x (and_left (leb 1 x) (leb x b && not (named_by long m n x)) q);
            high = leb-true x b (and_left (leb x b) (not (named_by long m n x)) w);
            free = not-true (named_by long m n x) (and_right (leb x b) (not (named_by long m n x)) w);
          })
      go false q e = lowest c e

  -- where there is none, every block is named
  pub target_absent : target_block long m n b x ≡ None → (c : ℕ) → 1 ≤ c → c ≤ b → named_by long m n c ≡ true
  unfolding target_block lowest_by
  target_absent e c l h = go (leb 1 x && (leb x b && not (named_by long m n x))) e
    where
      go : (t : Bool) → pick t (Some x) (lowest_by long m n b) ≡ None → named_by long m n c ≡ true
      go true e = let z : ◌≡◌ {A = ℕ} 0 1 = cc in absurd (omega arith)
      go false e = not-false (named_by long m n c) (none_below (λ a. not (named_by long m n a)) 1 b e c l (omega arith))
