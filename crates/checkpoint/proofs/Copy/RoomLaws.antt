-- With 44 image blocks for each inode a block step never finds every block named: the place that it is about to fill names none. m is the image, n and b the counts of inodes and blocks.
use Rattle.std.specs.Prelude.{None, Option, Some}
use Prim.Native.Nat.{ℕ, ◌+◌, ◌*◌, ◌-◌, ◌≤◌, ◌<◌}
use mathlib.Core.Path.{◌≡◌, refl, ap, ◌∙◌}
use mathlib.Core.Logic.{◌≢◌}
use mathlib.Core.Bool.{Bool, true}
use mathlib.Core.List.{List}
use native.Mathlib.Decide.{dec_lt}
use native.Mathlib.Omega.{arith}
use Rattle.bounded.proofs.CountLaws.{pigeons}
use Rattle.layout.specs.Sizes.{most_blocks}
use Rattle.layout.specs.Inode.{size_of}
use Rattle.blocks.specs.Block.{blocks_used, is_long, kth_by, kth_block, row_by}
use Rattle.blocks.specs.Free.{named_by}
use Rattle.blocks.proofs.KthLaws.{row_kth}
use Rattle.desk.specs.Desk.{desk_of}
use Rattle.sound.specs.Sound.{Sound, inodes_in}
use Rattle.sound.specs.declared.Form.TheVariants.{Store}
use Rattle.preservation.proofs.StoreLaws.{sound_store, blocks_of_lem}
use Rattle.blocks.proofs.LongLaws.{but_here}
use Rattle.checkpoint.specs.Fit.{image_long}
use Rattle.checkpoint.specs.Copier.{target_block}
use Rattle.checkpoint.proofs.Copy.Laid.{Laid}
use Rattle.checkpoint.proofs.Copy.LedgerLaws.{named_by_lem}
use Rattle.checkpoint.proofs.Copy.TargetLaws.{target_absent}

-- where each of b blocks is named, and place x names none, there are more than b places
module _ (long : ℕ → Bool) (m : List ℕ) (n b x : ℕ) (l : x < most_blocks * n) (z : row_by long m n x ≡ 0) (all : (c : ℕ) → 1 ≤ c → c ≤ b → named_by long m n c ≡ true) where
  -- a place of block i + 1, and then x
  by : (i : ℕ) → Dec (i < b) → ℕ
  by i (yes h) = ((named_by_lem long m n (i + 1)).to (all (i + 1) (omega arith) (omega arith))).0
  by i (no h) = x

  by_low : (i : ℕ) (h : Dec (i < b)) → by i h < most_blocks * n
  unfolding by
  by_low i (yes h) = ((named_by_lem long m n (i + 1)).to (all (i + 1) (omega arith) (omega arith))).1
  by_low i (no h) = l

  by_names : (i : ℕ) (h : Dec (i < b)) → i < b → row_by long m n (by i h) ≡ i + 1
  unfolding by
  by_names i (yes h) _ = ((named_by_lem long m n (i + 1)).to (all (i + 1) (omega arith) (omega arith))).2
  by_names i (no h) a = absurd (h a)

  by_last : (i : ℕ) (h : Dec (i < b)) → b ≤ i → row_by long m n (by i h) ≡ 0
  unfolding by
  by_last i (yes h) a = absurd (omega arith)
  by_last i (no h) a = z

  differ : (i j : ℕ) (g : Dec (i < b)) (h : Dec (j < b)) → i < j → j < b + 1 → by i g ≡ by j h → ⊥
  differ i j g h a c e = go (dec_lt j b)
    where
      go : Dec (j < b) → ⊥
      go (yes u) =
          let p = by_names i g (omega arith) in
          let q = by_names j h u in
          let r = ap (row_by long m n) e in
          omega arith
      go (no u) =
          let p = by_names i g (omega arith) in
          let q = by_last j h (omega arith) in
          let r = ap (row_by long m n) e in
          omega arith

  pub more_places : b < most_blocks * n
  more_places =
      let r = pigeons (most_blocks * n) (b + 1) (λ i. by i (dec_lt i b)) (λ i a. by_low i (dec_lt i b)) (λ i j a c e. differ i j (dec_lt i b) (dec_lt j b) a c e) in
      omega arith

-- "With 44 × N image blocks or more, 16 never comes in a run."
pub laid_room : {n b : ℕ} {s m d : List ℕ} → Laid n b s m d → Sound Store s → n ≡ inodes_in s
    → (desk_of d).locked ≢ 0 → (desk_of d).transferred < blocks_used (size_of s (desk_of d).locked) → most_blocks * n ≤ b
    → (c : ℕ) × (target_block (image_long s m d) m n b (kth_block s n (desk_of d).locked (desk_of d).transferred) ≡ Some c)
laid_room {n} {b} {s} {m} {d} h sound e lock more enough = go (target_block (image_long s m d) m n b (kth_block s n l k)) refl
  where
    l : ℕ
    l = (desk_of d).locked

    k : ℕ
    k = (desk_of d).transferred

    go : (r : Option ℕ) → target_block (image_long s m d) m n b (kth_block s n l k) ≡ r → (c : ℕ) × (target_block (image_long s m d) m n b (kth_block s n l k) ≡ Some c)
    go (Some c) q = (c, q)
    go None q =
        let low : 1 ≤ l = omega arith in
        let high = h.desk.high in
        let w = (blocks_of_lem (sound_store sound e) l low high).few in
        let f : k < 44 = omega arith in
        let z = row_kth (image_long s m d) m n l k low f ∙ ap (λ (y : Bool). kth_by y m n l k) (but_here m l (is_long s l) l refl) ∙ (h.opened lock).rest k f (omega arith) in
        let x = more_places (image_long s m d) m n b (most_blocks * (l - 1) + k) (omega arith) z (target_absent (image_long s m d) m n b (kth_block s n l k) q) in
        absurd (omega arith)
