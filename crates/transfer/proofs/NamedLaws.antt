-- Which image blocks are named: by the twelve addresses of each inode, and by those in address blocks. m is the image, n the inode count, long tells which inodes have an address block.
use Rattle.std.specs.Prelude.{Option, Some}
use Prim.Native.Nat.{ℕ, ◌+◌, ◌*◌, ◌-◌, ◌/◌, ◌%◌, ◌≤◌, ◌<◌}
use mathlib.Core.Path.{◌≡◌, sym, ap, ◌∙◌}
use mathlib.Core.Logic.{◌≢◌}
use mathlib.Core.Bool.{Bool, true, false, not, ◌&&◌}
use mathlib.Core.List.{List}
use native.Mathlib.Decide.{dec_lt}
use native.Mathlib.Omega.{arith}
use borrow.Author.Tests.{le-leb, ne_eqb}
use lib.Dec.{eqb, leb}
use lib.ListN.{length}
use Rattle.bounded.specs.Below.{some_below}
use Rattle.bounded.specs.Search.{pick}
use Rattle.bounded.specs.Count.{tally}
use Rattle.bounded.specs.Reflect.{Reflects}
use Rattle.bounded.proofs.BelowLaws.{all_ext, none_some}
use Rattle.bounded.proofs.BoolLaws.{chain_end}
use Rattle.bounded.proofs.CountLaws.{count_some_is, met, met_at}
use Rattle.bounded.proofs.ReflectLaws.{r_eq, r_some, r_says, reflects_ext}
use Rattle.layout.specs.Sizes.{address_count, further_count, address_place, block_bytes, most_inodes, most_image_blocks}
use Rattle.layout.specs.Inode.{address_of, address_index}
use Rattle.blocks.specs.Block.{block_at, address_block, further_of, kth_by, kth_block, row_by, is_long}
use Rattle.blocks.specs.Free.{named_by, lowest_by}
use Rattle.blocks.specs.Fits.{RowsFit}
use Rattle.blocks.proofs.LongLaws.{row_direct}
use Rattle.blocks.proofs.KthLaws.{kth_direct, kth_none, kth_bare, kth_behind, row_kth, row_next}
use Rattle.checkpoint.specs.Copier.{target_block}
use Rattle.checkpoint.proofs.Copy.LedgerLaws.{named_by_lem}
use Rattle.transfer.specs.Behind.{behind_b}

-- ---- the address block of inode i, as the code finds it
module _ (long : ℕ → Bool) (m : List ℕ) (n : ℕ) (h : RowsFit long m n) (i : ℕ) (l : 1 ≤ i) (u : i ≤ n) (a : ℕ) (e : a ≡ kth_block m n i address_place) where
  block_is : a ≡ address_block m n i
  block_is = e ∙ kth_direct (is_long m i) m n i 11 (omega arith)

  pub block_reached : 1 ≤ a → long i ≡ true → (n ≤ most_inodes) × (1 ≤ a) × (a ≤ most_image_blocks) × (block_at n a + block_bytes ≤ length m)
  block_reached p q =
      let f = block_is in
      let r = row_kth long m n i 11 l (omega arith) ∙ kth_direct (long i) m n i 11 (omega arith) in
      let k = h.most (44 * (i - 1) + 11) (omega arith) in
      let w = h.inside i l u q (λ z. omega arith) in
      (h.few, p, omega arith, omega arith)

  -- what it names
  module _ (c : ℕ) (some : 1 ≤ c) where
    none : ((j : ℕ) → j < further_count → kth_by (long i) m n i (12 + j) ≡ 0) → false ≡ behind_b long m n c i
    unfolding behind_b
    none f = sym (none_some (λ j. eqb (kth_by (long i) m n i (12 + j)) c) 32 (λ j q. ne_eqb (kth_by (long i) m n i (12 + j)) c (λ z. let y = f j q in omega arith)))

    pub behind_bare : a < 1 → false ≡ behind_b long m n c i
    behind_bare p = none (λ j q. let f = block_is in kth_bare (long i) m n i (12 + j) (omega arith) (omega arith) (omega arith))

    pub behind_short : long i ≡ false → false ≡ behind_b long m n c i
    behind_short q = none (λ j _. kth_none (long i) m n i (12 + j) q (omega arith))

    pub behind_counted : (r : ℕ) → long i ≡ true → r ≡ tally (further_of m n a) further_count c → not (eqb r 0) ≡ behind_b long m n c i
    unfolding behind_b some_below
    behind_counted r q t =
        ap (λ (x : ℕ). not (eqb x 0)) t
        ∙ count_some_is (λ j. eqb (further_of m n a j) c) 32
        ∙ ap not (all_ext _ _ 32 (λ j _. ap (λ (x : ℕ). not (eqb x c)) (ap (λ (x : ℕ). further_of m n x j) block_is ∙ sym (kth_behind (long i) m n i j q))))

module _ (long : ℕ → Bool) (m : List ℕ) (n c : ℕ) where
  behind_is : (i : ℕ) → Reflects (behind_b long m n c i) ((j : ℕ) × (j < further_count) × (kth_by (long i) m n i (address_count + j) ≡ c))
  unfolding behind_b
  behind_is i = r_some further_count (λ j. r_eq (kth_by (long i) m n i (address_count + j)) c)

  -- ---- an address names c, and none does
  pub direct_named : tally (address_of m n) (address_count * n) c ≢ 0 → named_by long m n c ≡ true
  direct_named h =
      let w = met_at (address_of m n) (12 * n) c (omega arith) in
      (named_by_lem long m n c).from (44 * (w.0 / 12) + w.0 % 12, (let l = w.1 in omega arith), row_direct long m n w.0 ∙ w.2)

  -- then only address blocks can
  pub further_named : tally (address_of m n) (address_count * n) c ≡ 0 → some_below (λ k. behind_b long m n c (k + 1)) n ≡ named_by long m n c
  further_named h =
      reflects_ext
      (r_says
      (λ w. (44 * w.0 + (12 + w.2.0), (let l = w.1 in let q = w.2.1 in omega arith), row_next long m n w.0 (12 + w.2.0) (let q = w.2.1 in omega arith) ∙ w.2.2))
      (λ w. at w.0 w.1 w.2 (dec_lt (w.0 % 44) 12))
      (r_some n (λ k. behind_is (k + 1))))
      (named_by_lem long m n c)
    where
      at : (x : ℕ) → x < 44 * n → row_by long m n x ≡ c → Dec (x % 44 < 12) → (k : ℕ) × (k < n) × ((j : ℕ) × (j < 32) × (kth_by (long (k + 1)) m n (k + 1) (12 + j) ≡ c))
      at x l e (yes q) =
          let y : 44 * (x / 44) + x % 44 ≡ x = omega arith in
          let v = ap (row_by long m n) y in
          let z = row_next long m n (x / 44) (x % 44) (omega arith) in
          let d = kth_direct (long (x / 44 + 1)) m n (x / 44 + 1) (x % 44) q in
          let t = met (address_of m n) (12 * n) (address_index (x / 44 + 1) (x % 44)) c (omega arith) (omega arith) in
          absurd (omega arith)
      at x l e (no q) =
          let y : 44 * (x / 44) + (12 + (x % 44 - 12)) ≡ x = omega arith in
          (x / 44, (omega arith), (x % 44 - 12, (omega arith), sym (row_next long m n (x / 44) (12 + (x % 44 - 12)) (omega arith)) ∙ ap (row_by long m n) y ∙ e))

  -- ---- c is one of the b blocks, and none of the named
  module _ (b : ℕ) where
    abbrev unnamed : Bool
    unnamed = leb 1 c && (leb c b && not (named_by long m n c))

    own_by : (r : Bool) → 1 ≤ c → c ≤ b → r ≡ not (named_by long m n c) → r ≡ unnamed
    own_by r l h e = chain_end _ _ _ (le-leb 1 c l) (chain_end _ _ _ (le-leb c b h) e)

    module _ (l : 1 ≤ c) (h : c ≤ b) (r : ℕ) (e : r ≡ tally (address_of m n) (address_count * n) c) where
      pub own_direct : r ≢ 0 → false ≡ unnamed
      own_direct q = own_by false l h (sym (ap not (direct_named (λ z. q (e ∙ z)))))

      pub own_further : r ≡ 0 → (t : Bool) → t ≡ some_below (λ k. behind_b long m n c (k + 1)) n → not t ≡ unnamed
      own_further q t f = own_by (not t) l h (ap not (f ∙ further_named (sym e ∙ q)))

    module _ (r : Bool) (e : r ≡ unnamed) where
      pub target_own : r ≡ true → Some c ≡ target_block long m n b c
      unfolding target_block
      target_own q = sym (ap (λ (t : Bool). pick t (Some c) (lowest_by long m n b)) (sym e ∙ q))

      pub target_other : (f : Option ℕ) → r ≡ false → f ≡ lowest_by long m n b → f ≡ target_block long m n b c
      unfolding target_block
      target_other f q g = g ∙ sym (ap (λ (t : Bool). pick t (Some c) (lowest_by long m n b)) (sym e ∙ q))
