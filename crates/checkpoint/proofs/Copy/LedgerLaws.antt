-- The image of a running copy is a ledger at every moment. s is the store, m the image, d the desk, n and b the counts of inodes and image blocks.
use Prim.Native.Nat.{ℕ, ◌+◌, ◌*◌, ◌-◌, ◌/◌, ◌%◌, ◌≤◌, ◌<◌}
use mathlib.Core.Path.{◌≡◌, sym, ap, ◌∙◌, subst}
use mathlib.Core.Bool.{Bool, false, not}
use mathlib.Core.List.{List}
use native.Mathlib.Decide.{ℕ_discrete}
use native.Mathlib.Omega.{arith}
use lib.Dec.{eqb}
use Rattle.bounded.specs.Below.{some_below}
use Rattle.bounded.specs.Count.{Differ}
use Rattle.bounded.specs.Reflect.{Reflects}
use Rattle.bounded.proofs.ReflectLaws.{r_eq, r_some, r_no, r_fails}
use Rattle.bounded.proofs.BelowLaws.{all_ext}
use Rattle.bounded.proofs.DifferLaws.{differ_less}
use Rattle.bounded.proofs.UpdateLaws.{upd_same, upd_other}
use Rattle.layout.specs.Sizes.{most_blocks}
use Rattle.layout.specs.Inode.{size_of}
use Rattle.blocks.specs.Block.{is_long, kth_by, blocks_used, row_by, row_of}
use Rattle.blocks.specs.Free.{named_by, block_named}
use Rattle.blocks.proofs.KthLaws.{row_kth}
use Rattle.ledger.proofs.Ledger.{Ledger}
use Rattle.ledger.proofs.LedgerLaws.{Unnamed}
use Rattle.blocks.proofs.LongLaws.{but_here, but_else, row_flags}
use Rattle.growth.proofs.ImageLaws.{image_have}
use Rattle.desk.specs.Desk.{desk_of}
use Rattle.checkpoint.specs.Fit.{image_long}
use Rattle.checkpoint.proofs.Copy.Laid.{Laid}

-- a block that is named
pub named_by_lem : (long : ℕ → Bool) (m : List ℕ) (n c : ℕ) → Reflects (named_by long m n c) ((x : ℕ) × (x < most_blocks * n) × (row_by long m n x ≡ c))
unfolding named_by
named_by_lem long m n c = r_some (most_blocks * n) (λ x. r_eq (row_by long m n x) c)

-- one that none has, by inode and place
pub by_none : (long : ℕ → Bool) (m : List ℕ) (n c : ℕ) → named_by long m n c ≡ false → Unnamed long m n c
by_none long m n c e j u a z q y = r_no (named_by_lem long m n c) e (most_blocks * (j - 1) + u, omega arith, row_kth long m n j u a q ∙ y)

pub none_by : (long : ℕ → Bool) (m : List ℕ) (n c : ℕ) → Unnamed long m n c → named_by long m n c ≡ false
none_by long m n c f = r_fails (named_by_lem long m n c) (λ r. let q = r.1 in f (r.0 / 44 + 1) (r.0 % 44) (omega arith) (omega arith) (omega arith) (unfold row_by in r.2))

-- ---- the same blocks, by another word on which inodes are long
module _ (f g : ℕ → Bool) (m t : List ℕ) (n : ℕ) (e : (x : ℕ) → x < most_blocks * n → row_by g t n x ≡ row_by f m n x) where
  pub rows_named : (c : ℕ) → named_by g t n c ≡ named_by f m n c
  unfolding named_by some_below
  rows_named c = ap not (all_ext (λ x. not (eqb (row_by g t n x) c)) (λ x. not (eqb (row_by f m n x) c)) (most_blocks * n) (λ x l. ap (λ (y : ℕ). not (eqb y c)) (e x l)))

  pub rows_differ : Differ (row_by f m n) (most_blocks * n) → Differ (row_by g t n) (most_blocks * n)
  rows_differ d = differ_less (row_by f m n) (row_by g t n) (most_blocks * n) d (λ x l _. e x l)

module _ {n b : ℕ} {s m d : List ℕ} (h : Laid n b s m d) where
  abbrev l : ℕ
  l = (desk_of d).locked

  abbrev k : ℕ
  k = (desk_of d).transferred

  -- how many blocks each inode has
  abbrev have : ℕ → ℕ
  have = image_have m l k

  pub laid_ledger : Ledger (image_long s m d) have m n b
  laid_ledger = record {
    used = λ i u a c q w. elim (ℕ_discrete i l) as (λ _. (1 ≤ kth_by (image_long s m d i) m n i u) × (kth_by (image_long s m d i) m n i u ≤ b)) [
      | yes e ↦
          let g = ap have e ∙ upd_same (λ j. blocks_used (size_of m j)) l k in
          rw (but_here m l (is_long s l) i e) (subst (λ (j : ℕ). (1 ≤ kth_by (is_long s l) m n j u) × (kth_by (is_long s l) m n j u ≤ b)) (sym e) ((h.opened (λ z. omega arith)).named u q (omega arith)))
      | no e ↦
          let g = upd_other (λ j. blocks_used (size_of m j)) l k i e in
          rw (but_else m l (is_long s l) i e) ((h.inodes i a c e).used u q (omega arith))
    ];
    rest = λ i u a c q w. elim (ℕ_discrete i l) as (λ _. kth_by (image_long s m d i) m n i u ≡ 0) [
      | yes e ↦
          let g = ap have e ∙ upd_same (λ j. blocks_used (size_of m j)) l k in
          rw (but_here m l (is_long s l) i e) (subst (λ (j : ℕ). kth_by (is_long s l) m n j u ≡ 0) (sym e) ((h.opened (λ z. omega arith)).rest u q (omega arith)))
      | no e ↦
          let g = upd_other (λ j. blocks_used (size_of m j)) l k i e in
          rw (but_else m l (is_long s l) i e) ((h.inodes i a c e).rest u q (omega arith))
    ];
    once = h.once;
  }

  -- with nothing locked each inode is long by its own size
  module _ (none : l ≡ 0) where
    pub free_row : (x : ℕ) → x < most_blocks * n → row_of m n x ≡ row_by (image_long s m d) m n x
    free_row x q = row_flags (image_long s m d) (is_long m) m n (λ i o. sym (but_else m l (is_long s l) i (λ z. omega arith))) x

    pub free_named : (c : ℕ) → block_named m n c ≡ named_by (image_long s m d) m n c
    free_named = rows_named (image_long s m d) (is_long m) m m n free_row

    pub free_once : Differ (row_of m n) (most_blocks * n)
    free_once = rows_differ (image_long s m d) (is_long m) m m n free_row h.once
