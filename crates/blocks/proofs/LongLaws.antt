-- Which inodes are long, and the row of all blocks by it. n is the inode count.
use Prim.Native.Nat.{ℕ, ◌+◌, ◌*◌, ◌/◌, ◌%◌, ◌≤◌}
use mathlib.Core.Path.{◌≡◌, ap, ◌∙◌}
use mathlib.Core.Logic.{◌≢◌}
use mathlib.Core.Bool.{Bool, not}
use mathlib.Core.List.{List}
use native.Mathlib.Omega.{arith}
use borrow.Author.Tests.{eq-eqb, ne_eqb}
use lib.Dec.{eqb}
use Rattle.bounded.specs.Below.{some_below}
use Rattle.bounded.proofs.BelowLaws.{all_ext}
use Rattle.layout.specs.Sizes.{address_count, most_blocks}
use Rattle.layout.specs.Inode.{address_index, address_of}
use Rattle.blocks.specs.Block.{is_long, kth_by, row_by}
use Rattle.blocks.specs.Free.{named_by, long_but}
use Rattle.blocks.specs.Fits.{RowsFit}
use Rattle.blocks.proofs.KthLaws.{kth_direct, row_next}

-- ---- one inode is long as told
module _ (s : List ℕ) (l : ℕ) (told : Bool) (i : ℕ) where
  pub but_here : i ≡ l → long_but s l told i ≡ told
  unfolding long_but
  but_here e = rw (eq-eqb i l e)

  pub but_else : i ≢ l → long_but s l told i ≡ is_long s i
  unfolding long_but
  but_else e = rw (ne_eqb i l e)

-- ---- two words on the same inodes
module _ (f g : ℕ → Bool) (s : List ℕ) (n : ℕ) (same : (i : ℕ) → 1 ≤ i → g i ≡ f i) where
  pub row_flags : (x : ℕ) → row_by g s n x ≡ row_by f s n x
  unfolding row_by
  row_flags x = ap (λ (b : Bool). kth_by b s n (x / 44 + 1) (x % 44)) (same (x / 44 + 1) (omega arith))

  pub named_flags : (c : ℕ) → named_by g s n c ≡ named_by f s n c
  unfolding named_by some_below
  named_flags c = ap not (all_ext (λ x. not (eqb (row_by g s n x) c)) (λ x. not (eqb (row_by f s n x) c)) (most_blocks * n) (λ x _. ap (λ (y : ℕ). not (eqb y c)) (row_flags x)))

  pub fit_flags : RowsFit f s n → RowsFit g s n
  fit_flags h = record {
    few = h.few;
    area = h.area;
    most = λ x l. rw (row_flags x) (h.most x l);
    inside = λ i l m. rw (same i l) (h.inside i l m);
  }

-- no inode has the number 0: what is told of it makes no difference
pub long_own : (s : List ℕ) (told : Bool) (i : ℕ) → 1 ≤ i → long_but s 0 told i ≡ is_long s i
long_own s told i l = but_else s 0 told i (λ e. omega arith)

-- where the x-th of all direct addresses stands in the row
pub row_direct : (long : ℕ → Bool) (s : List ℕ) (n x : ℕ) → row_by long s n (most_blocks * (x / address_count) + x % address_count) ≡ address_of s n x
row_direct long s n x =
    let e : address_index (x / 12 + 1) (x % 12) ≡ x = omega arith in
    row_next long s n (x / 12) (x % 12) (omega arith) ∙ kth_direct (long (x / 12 + 1)) s n (x / 12 + 1) (x % 12) (omega arith) ∙ ap (address_of s n) e
