-- How many blocks no inode has: it changes by the blocks that an inode takes or gives back. n and b are the counts of inodes and blocks.
use Prim.Native.Nat.{ℕ, ◌+◌, ◌-◌, ◌*◌, ◌/◌, ◌%◌, ◌≤◌, ◌<◌}
use mathlib.Core.Path.{◌≡◌, refl, sym, ap, ◌∙◌}
use mathlib.Core.Logic.{◌≢◌}
use mathlib.Core.Bool.{not}
use mathlib.Core.List.{List}
use native.Mathlib.Omega.{arith}
use lib.Dec.{eqb}
use Rattle.bounded.specs.Below.{some_below}
use Rattle.bounded.specs.Count.{Differ, count_to}
use Rattle.bounded.proofs.BelowLaws.{all_ext}
use Rattle.bounded.proofs.CountLaws.{count_ext}
use Rattle.bounded.proofs.SumLaws.{sum_but}
use Rattle.bounded.proofs.DifferLaws.{differ_less}
use Rattle.layout.specs.Sizes.{most_blocks}
use Rattle.layout.specs.Inode.{size_of}
use Rattle.blocks.specs.Block.{is_long, blocks_used, kth_block, row_by, row_of}
use Rattle.blocks.specs.Free.{named_by, block_named, block_free}
use Rattle.ledger.proofs.Ledger.{Ledger}
use Rattle.ledger.proofs.TallyLaws.{ledger_count}
use Rattle.sound.specs.Inode.{InodeSound}
use Rattle.sound.proofs.SoundLaws.{size_most}

abbrev pub AllSound : List ℕ → ℕ → ℕ → Type 0
AllSound s n b = (j : ℕ) → 1 ≤ j → j ≤ n → InodeSound s n b j

-- inodes that are sound by themselves and name no block twice
pub sound_ledger : {s : List ℕ} {n b : ℕ} → AllSound s n b → Differ (row_of s n) (most_blocks * n) → Ledger (is_long s) (λ i. blocks_used (size_of s i)) s n b
sound_ledger h d = record { used = λ i k a c. (h i a c).used k; rest = λ i k a c. (h i a c).rest k; once = d }

pub used_most : {s : List ℕ} {n b i : ℕ} → InodeSound s n b i → blocks_used (size_of s i) ≤ most_blocks
unfolding blocks_used
used_most h = let z = size_most h in omega arith

-- ---- the blocks of inode i change: the unnamed ones are fewer by those that it takes, more by those that it gives back
pub unnamed_change : (s t : List ℕ) (n b i : ℕ) → 1 ≤ i → i ≤ n → AllSound s n b → AllSound t n b → Differ (row_of s n) (most_blocks * n) → Differ (row_of t n) (most_blocks * n)
    → ((j : ℕ) → 1 ≤ j → j ≤ n → j ≢ i → size_of t j ≡ size_of s j)
    → count_to (block_free t n) b + blocks_used (size_of t i) ≡ count_to (block_free s n) b + blocks_used (size_of s i)
unfolding named_by
unnamed_change s t n b i l m hs ht ds dt e =
    let x = ledger_count (sound_ledger hs ds) (λ j p q. used_most (hs j p q)) in
    let y = ledger_count (sound_ledger ht dt) (λ j p q. used_most (ht j p q)) in
    let z = sum_but (λ j. blocks_used (size_of s (j + 1))) (λ j. blocks_used (size_of t (j + 1))) n (i - 1) (omega arith)
    (λ k p q. ap blocks_used (e (k + 1) (omega arith) (omega arith) (λ r. q (omega arith)))) in
    let o : i - 1 + 1 ≡ i = omega arith in
    let f : blocks_used (size_of s (i - 1 + 1)) ≡ blocks_used (size_of s i) = ap (λ (j : ℕ). blocks_used (size_of s j)) o in
    let g : blocks_used (size_of t (i - 1 + 1)) ≡ blocks_used (size_of t i) = ap (λ (j : ℕ). blocks_used (size_of t j)) o in
    omega arith

-- ---- all blocks stay
pub row_at : (s : List ℕ) (n x : ℕ) → row_of s n x ≡ kth_block s n (x / most_blocks + 1) (x % most_blocks)
unfolding row_by
row_at s n x = refl

module _ (s t : List ℕ) (n : ℕ) (e : (j : ℕ) → 1 ≤ j → j ≤ n → (k : ℕ) → k < most_blocks → kth_block t n j k ≡ kth_block s n j k) where
  pub same_rows : (x : ℕ) → x < most_blocks * n → row_of t n x ≡ row_of s n x
  same_rows x l = row_at t n x ∙ e (x / 44 + 1) (omega arith) (omega arith) (x % 44) (omega arith) ∙ sym (row_at s n x)

  pub same_named : (c : ℕ) → block_named t n c ≡ block_named s n c
  unfolding named_by some_below
  same_named c = ap not (all_ext (λ x. not (eqb (row_of t n x) c)) (λ x. not (eqb (row_of s n x) c)) (most_blocks * n) (λ x l. ap (λ (y : ℕ). not (eqb y c)) (same_rows x l)))

  pub same_differ : Differ (row_of s n) (most_blocks * n) → Differ (row_of t n) (most_blocks * n)
  same_differ d = differ_less (row_of s n) (row_of t n) (most_blocks * n) d (λ x l _. same_rows x l)

  pub same_unnamed : (b : ℕ) → count_to (block_free t n) b ≡ count_to (block_free s n) b
  same_unnamed b = count_ext (λ k. block_free t n (k + 1)) (λ k. block_free s n (k + 1)) b (λ k l. ap not (same_named (k + 1)))
