-- The row of a file's blocks, as the code makes it: place by place.
use Prim.Native.Nat.{ℕ, ◌+◌, ◌-◌, ◌≤◌, ◌<◌}
use mathlib.Core.Path.{◌≡◌, refl, sym, ap, ◌∙◌}
use mathlib.Core.Logic.{◌≢◌}
use mathlib.Core.Bool.{Bool, true, false, ◌&&◌}
use mathlib.Core.List.{List, []}
use native.Mathlib.Decide.{ℕ_discrete, dec_lt}
use native.Mathlib.Omega.{arith}
use borrow.Author.Tests.{lt-ltb, le-ltb}
use lib.Dec.{eqb, ltb}
use lib.ListN.{length, get_or, set, length-set}
use lib.Seq.{ext_get_or, get_or-set_same, get_or-set_other}
use Rattle.std.proofs.Common.{rules}
use Rattle.std.proofs.lemmas.Grind.{common_steps}
use Rattle.std.proofs.lemmas.List.{places}
use borrow.Rule.Slice.PartMut.{put_mid}
use Rattle.bounded.specs.Search.{pick}
use Rattle.bounded.specs.Table.{table}
use Rattle.bounded.proofs.TableLaws.{length_table, get_or_table, table_ext, table_list}
use Rattle.octets.specs.Octets.{splice, word_bytes}
use Rattle.layout.specs.Sizes.{address_count, address_place, most_blocks}
use Rattle.ledger.specs.Change.{across, added, grown, kept}
use Rattle.ledger.proofs.ChangeLaws.{across_11, across_12, across_else, across_low}

-- ---- the first count blocks of g, and none behind
module _ (x : Bool) (g : ℕ → ℕ) (count k : ℕ) where
  pub kept_in : (w v : ℕ) → k < count → w ≡ pick x (across k) k → v ≡ g w → v ≡ kept x g count k
  unfolding kept
  kept_in w v l d e = rw (lt-ltb k count l) (e ∙ ap g d)

  pub kept_past : count ≤ k → 0 ≡ kept x g count k
  unfolding kept
  kept_past l = rw (le-ltb k count l)

-- a place, as the code turns it
module _ (x : Bool) (k : ℕ) where
  pub place_across_back : x ≡ true → k ≡ address_place → address_count ≡ pick x (across k) k
  place_across_back e q = rw e (sym across_11 ∙ ap across (sym q))

  pub place_across_front : x ≡ true → k ≡ address_count → address_place ≡ pick x (across k) k
  place_across_front e q = rw e (sym across_12 ∙ ap across (sym q))

  pub place_across_else : x ≡ true → k ≢ address_place → k ≢ address_count → k ≡ pick x (across k) k
  place_across_else e q r = rw e (sym (across_else k q r))

-- a place that is kept is one of those that the file has
pub place_across_low : (x : Bool) (k count have : ℕ) → k < count → count ≤ have → (x ≡ true → address_count < have) → pick x (across k) k < have
place_across_low true k count have l m f = across_low k have (f refl) (omega arith)
place_across_low false k count have l m f = omega arith

-- ---- and m more, c 0, c 1, .., laid over the row from place k on
module _ (g c : ℕ → ℕ) (k m : ℕ) (row items : List ℕ) (few : k + m ≤ most_blocks) (e : row ≡ table (kept false g k) most_blocks) (f : length items ≡ m) (h : (j : ℕ) → j < m → get_or items j 0 ≡ c j) where
  row_full : length row ≡ most_blocks
  row_full = ap length e ∙ length_table (kept false g k) 44

  laid : List ℕ
  laid = put_mid k (k + m - k) row items

  laid_full : length laid ≡ most_blocks
  unfolding laid
  laid_full = let l = row_full in let z : k + m - k ≡ m = omega arith in grind (arith, common_steps)

  laid_low : (u : ℕ) → u < k → get_or laid u 0 ≡ get_or row u 0
  unfolding laid
  laid_low u l = let w = row_full in search (rules, places)

  laid_in : (u : ℕ) → k ≤ u → u < k + m → get_or laid u 0 ≡ get_or items (u - k) 0
  unfolding laid
  laid_in u l n = let w = row_full in search (rules, places)

  laid_high : (u : ℕ) → k + m ≤ u → get_or laid u 0 ≡ get_or row u 0
  unfolding laid
  laid_high u l = let w = row_full in search (rules, places)

  pub added_laid : put_mid k (k + m - k) row items ≡ table (added g k m c) most_blocks
  unfolding laid
  added_laid = ext_get_or 0 laid (table (added g k m c) 44) (laid_full ∙ sym (length_table (added g k m c) 44)) (λ u l. let w = laid_full in at u (omega arith) (dec_lt u k) (dec_lt u (k + m)) ∙ sym (get_or_table (added g k m c) 44 u (omega arith)))
    where
      read : (u : ℕ) → u < 44 → get_or row u 0 ≡ kept false g k u
      read u l = ap (λ (r : List ℕ). get_or r u 0) e ∙ get_or_table (kept false g k) 44 u l

      at : (u : ℕ) → u < 44 → Dec (u < k) → Dec (u < k + m) → get_or laid u 0 ≡ added g k m c u
      at u l (yes p) _ = laid_low u p ∙ read u l ∙ (unfold kept added in rw (lt-ltb u k p))
      at u l (no p) (yes q) = laid_in u (omega arith) q ∙ h (u - k) (omega arith) ∙ (unfold added in rw (le-ltb u k (omega arith), lt-ltb u (k + m) q))
      at u l (no p) (no q) = laid_high u (omega arith) ∙ read u l ∙ (unfold kept added in rw (le-ltb u k (omega arith), le-ltb u (k + m) (omega arith)))

-- ---- across the edge
module _ (row : List ℕ) (full : length row ≡ most_blocks) where
  pub row_across_not : (x : Bool) → x ≡ false → row ≡ table (λ u. get_or row (pick x (across u) u) 0) most_blocks
  row_across_not x e = sym (table_list row 44 full) ∙ ap (λ (y : Bool). table (λ u. get_or row (pick y (across u) u) 0) 44) (sym e)

  swapped : set (set row address_place (get_or row address_count 0)) address_count (get_or row address_place 0) ≡ table (λ u. get_or row (across u) 0) most_blocks
  swapped =
      let c = length-set (set row 11 (get_or row 12 0)) 12 (get_or row 11 0) ∙ length-set row 11 (get_or row 12 0) in
      ext_get_or 0 _ _ (c ∙ full ∙ sym (length_table (λ u. get_or row (across u) 0) 44))
      (λ u b. let w = full in at u (omega arith) (ℕ_discrete u 11) (ℕ_discrete u 12) ∙ sym (get_or_table (λ u. get_or row (across u) 0) 44 u (omega arith)))
    where
      at : (u : ℕ) → u < 44 → Dec (u ≡ 11) → Dec (u ≡ 12) → get_or (set (set row 11 (get_or row 12 0)) 12 (get_or row 11 0)) u 0 ≡ get_or row (across u) 0
      at u b _ (yes q) =
          let c = length-set row 11 (get_or row 12 0) in
          let w = full in
          ap (λ (x : ℕ). get_or (set (set row 11 (get_or row 12 0)) 12 (get_or row 11 0)) x 0) q
          ∙ get_or-set_same (set row 11 (get_or row 12 0)) 12 (get_or row 11 0) 0 (omega arith)
          ∙ ap (λ (x : ℕ). get_or row x 0) (sym across_12 ∙ ap across (sym q))
      at u b (yes p) (no q) =
          let w = full in
          get_or-set_other (set row 11 (get_or row 12 0)) 12 u (get_or row 11 0) 0 q
          ∙ ap (λ (x : ℕ). get_or (set row 11 (get_or row 12 0)) x 0) p
          ∙ get_or-set_same row 11 (get_or row 12 0) 0 (omega arith)
          ∙ ap (λ (x : ℕ). get_or row x 0) (sym across_11 ∙ ap across (sym p))
      at u b (no p) (no q) =
          get_or-set_other (set row 11 (get_or row 12 0)) 12 u (get_or row 11 0) 0 q
          ∙ get_or-set_other row 11 u (get_or row 12 0) 0 p
          ∙ ap (λ (x : ℕ). get_or row x 0) (sym (across_else u p q))

  pub row_across_is : (x : Bool) → x ≡ true → set (set row address_place (get_or row address_count 0)) address_count (get_or row address_place 0) ≡ table (λ u. get_or row (pick x (across u) u) 0) most_blocks
  row_across_is x e = swapped ∙ ap (λ (y : Bool). table (λ u. get_or row (pick y (across u) u) 0) 44) (sym e)

-- the row of a file that grows from k blocks
pub grown_row : (g c : ℕ → ℕ) (k m : ℕ) → 1 ≤ m → (x : Bool) → x ≡ eqb k address_count → (row r : List ℕ) → row ≡ table (added g k m c) most_blocks
    → r ≡ table (λ u. get_or row (pick x (across u) u) 0) most_blocks → r ≡ table (grown g k m c) most_blocks
unfolding grown
grown_row g c k m l x e row r d f =
    f ∙ table_ext (λ u. get_or row (pick x (across u) u) 0) (grown g k m c) 44 (λ u b. ap (λ (a : List ℕ). get_or a (pick x (across u) u) 0) d ∙ get_or_table (added g k m c) 44 (pick x (across u) u) (place_across_low x u 44 44 b (omega arith) (λ _. omega arith)) ∙ same u)
  where
    same : (u : ℕ) → added g k m c (pick x (across u) u) ≡ added g k m c (pick (eqb k 12 && ltb 0 m) (across u) u)
    same u = rw (e, lt-ltb 0 m l) (go (eqb k 12))
      where
        go : (y : Bool) → added g k m c (pick y (across u) u) ≡ added g k m c (pick (y && true) (across u) u)
        go true = refl
        go false = refl

-- ---- no word is written yet
pub further_begin : (s : List ℕ) (o : ℕ) → s ≡ splice s o (word_bytes [])
unfolding splice word_bytes
further_begin s o = refl
