-- Laws of the map of named blocks.
use Rattle.std.specs.List.{sum_by, range_with_len}
use Rattle.std.proofs.lemmas.List.Sums.{sum_by-cons}
use Prim.Native.Nat.{ℕ, zero, suc, ◌+◌, ◌*◌, ◌-◌, ◌/◌, ◌%◌, ◌^◌, ◌≤◌, ◌<◌}
use mathlib.Core.Path.{◌≡◌, refl, sym, ap, ap₂, ◌∙◌}
use mathlib.Core.Logic.{◌≢◌, ◌⊎◌}
use mathlib.Core.Bool.{Bool, true, false, not}
use mathlib.Core.List.{List}
use native.Mathlib.Nat.{one-mul}
use native.Mathlib.Decide.{ℕ_discrete}
use native.Mathlib.Omega.{arith}
use borrow.Author.Tests.{eq-eqb, ne_eqb}
use lib.Dec.{eqb, lit<}
use lib.Bits.{bit_and, bit_or, and_mask}
use lib.Pow.{shl_exact}
use lib.ListN.{length, get_or, set, replicate, get_or-replicate, length-replicate, length-set}
use lib.Seq.{get_or-set_same, get_or-set_other}
use Rattle.marks.specs.Mark.{digit, marked, with_mark}
use Rattle.marks.proofs.MarkLaws.{with_same, with_other, mark_none}
use Rattle.bounded.specs.Count.{count, count_to}
use Rattle.bounded.specs.Search.{pick}
use Rattle.bounded.proofs.CountLaws.{count_zero, count_ext, count_split, count_le}
use Rattle.bounded.proofs.SeenLaws.{seen_start, seen_more, seen_as, seen_pass, seen_ext, seen_change}
use Rattle.layout.specs.Sizes.{most_image_blocks, most_blocks}
use Rattle.blocks.specs.Block.{kth_by, row_by}
use Rattle.blocks.specs.Free.{named_by}
use Rattle.blocks.specs.Map.{map_words, has_block, lacks, noted, MapOf, Maps, Notes}
use Rattle.blocks.proofs.KthLaws.{row_next}

-- ---- the code's words
pub note_none : (map : List ℕ) (b : ℕ) → b ≡ 0 → map ≡ noted map b
unfolding noted
note_none map b e = sym (ap (λ (x : Bool). pick x map (set map ((b - 1) % map_words) (with_mark (get_or map ((b - 1) % map_words) 0) ((b - 1) / map_words)))) (eq-eqb b 0 e))

pub note_bit : (map : List ℕ) (b : ℕ) → b ≢ 0 → b ≤ most_image_blocks →
    set map ((b - 1) % map_words) (bit_or (get_or map ((b - 1) % map_words) 0) (1 * 2 ^ ((b - 1) / map_words) % 2 ^ 16)) ≡ noted map b
unfolding noted with_mark
note_bit map b n l =
    ap (λ (x : ℕ). set map ((b - 1) % map_words) (bit_or (get_or map ((b - 1) % map_words) 0) x)) (shl_exact 1 ((b - 1) / map_words) 16 (lit< tt) (omega arith) ∙ one-mul (2 ^ ((b - 1) / map_words)))
    ∙ sym (ap (λ (x : Bool). pick x map (set map ((b - 1) % map_words) (with_mark (get_or map ((b - 1) % map_words) 0) ((b - 1) / map_words)))) (ne_eqb b 0 n))

pub has_bit : (map : List ℕ) (row k : ℕ) → k < map_words → eqb (bit_and (get_or map k 0 / 2 ^ row) 1) 1 ≡ has_block map (map_words * row + k + 1)
unfolding has_block marked digit
has_bit map row k l =
    let i : k ≡ (map_words * row + k + 1 - 1) % map_words = omega arith in
    let j : row ≡ (map_words * row + k + 1 - 1) / map_words = omega arith in
    ap (λ (d : ℕ). eqb d 1) (and_mask (get_or map k 0 / 2 ^ row) 1) ∙ ap₂ (λ (x y : ℕ). marked (get_or map x 0) y) i j

-- ---- a block that is noted, and the others
module _ (map : List ℕ) (long : length map ≡ map_words) (b : ℕ) (low : 1 ≤ b) where
  abbrev bits : ℕ
  bits = with_mark (get_or map ((b - 1) % map_words) 0) ((b - 1) / map_words)

  noted_as : noted map b ≡ set map ((b - 1) % map_words) bits
  unfolding noted
  noted_as = ap (λ (x : Bool). pick x map (set map ((b - 1) % map_words) bits)) (ne_eqb b 0 (λ z. omega arith))

  same_word : get_or (set map ((b - 1) % map_words) bits) ((b - 1) % map_words) 0 ≡ bits
  same_word = get_or-set_same map ((b - 1) % map_words) bits 0 (omega arith)

  noted_has : has_block (noted map b) b ≡ true
  unfolding has_block
  noted_has =
      ap (λ (m : List ℕ). has_block m b) noted_as ∙ ap (λ (y : ℕ). marked y ((b - 1) / map_words)) same_word
      ∙ with_same (get_or map ((b - 1) % map_words) 0) ((b - 1) / map_words)

  noted_else : (v : ℕ) → 1 ≤ v → v ≢ b → has_block (noted map b) v ≡ has_block map v
  unfolding has_block
  noted_else v m n =
      ap (λ (m : List ℕ). has_block m v) noted_as
      ∙ (elim (ℕ_discrete ((v - 1) % map_words) ((b - 1) % map_words)) as (λ _. has_block (set map ((b - 1) % map_words) bits) v ≡ has_block map v) [
        | yes e ↦ ap (λ (i : ℕ). marked (get_or (set map ((b - 1) % map_words) bits) i 0) ((v - 1) / map_words)) e ∙ ap (λ (y : ℕ). marked y ((v - 1) / map_words)) same_word
            ∙ with_other (get_or map ((b - 1) % map_words) 0) ((b - 1) / map_words) ((v - 1) / map_words) (λ z. n (omega arith))
            ∙ ap (λ (i : ℕ). marked (get_or map i 0) ((v - 1) / map_words)) (sym e)
        | no e ↦ ap (λ (y : ℕ). marked y ((v - 1) / map_words)) (get_or-set_other map ((b - 1) % map_words) ((v - 1) % map_words) bits 0 e)
      ])

-- to note a block, or 0, leaves the length
pub length_noted : (map : List ℕ) (b : ℕ) → length (noted map b) ≡ length map
unfolding noted
length_noted map b = go (eqb b 0)
  where
    go : (x : Bool) → length (pick x map (set map ((b - 1) % map_words) (with_mark (get_or map ((b - 1) % map_words) 0) ((b - 1) / map_words)))) ≡ length map
    go true = refl
    go false = length-set map ((b - 1) % map_words) (with_mark (get_or map ((b - 1) % map_words) 0) ((b - 1) / map_words))

-- ---- the map of the first x numbers of f
module _ (f : ℕ → ℕ) where
  pub map_none : MapOf f 0 (replicate map_words 0)
  unfolding has_block
  map_none = record {
    long = length-replicate {A = ℕ} map_words 0;
    seen = seen_start f 1 (most_image_blocks + 1) (has_block (replicate map_words 0))
        (λ v h. ap (λ (y : ℕ). marked y ((v - 1) / map_words)) (get_or-replicate {A = ℕ} map_words ((v - 1) % map_words) 0 0 (omega arith)) ∙ mark_none ((v - 1) / map_words));
  }

  pub map_as : (map : List ℕ) {x y : ℕ} → x ≡ y → MapOf f x map → MapOf f y map
  map_as map e h = record { long = h.long; seen = seen_as f 1 (most_image_blocks + 1) (has_block map) e h.seen }

  -- those that are 0 need no note
  pub map_pass : (x w : ℕ) (map : List ℕ) → ((k : ℕ) → k < w → f (x + k) ≡ 0) → MapOf f x map → MapOf f (x + w) map
  map_pass x w map e h = record {
    long = h.long;
    seen = seen_pass f 1 (most_image_blocks + 1) x w (has_block map) (λ k l. let z = e k l in omega arith) h.seen;
  }

  -- one more
  map_more : (x b : ℕ) (map : List ℕ) → b ≡ f x → MapOf f x map → MapOf f (x + 1) (noted map b)
  map_more x b map e h = elim (ℕ_discrete b 0) as (λ _. MapOf f (x + 1) (noted map b)) [
    | yes z ↦ rw (← note_none map b z) (map_pass x 1 map (λ k c. let y : x + k ≡ x = omega arith in ap f y ∙ sym e ∙ z) h)
    | no z ↦
        let p : 1 ≤ b = omega arith in
        record {
          long = length_noted map b ∙ h.long;
          seen = seen_more 1 b (has_block map) (has_block (noted map b)) (noted_has map h.long b p) (noted_else map h.long b p) f (most_image_blocks + 1) x e h.seen;
        }
  ]

  -- ---- another function
  module _ (g : ℕ → ℕ) (x : ℕ) (map : List ℕ) (h : MapOf f x map) where
    pub map_ext : ((k : ℕ) → k < x → g k ≡ f k) → MapOf g x map
    map_ext e = record { long = h.long; seen = seen_ext f g 1 (most_image_blocks + 1) x (has_block map) e h.seen }

    -- at k, and perhaps elsewhere, what was 0 becomes the block b
    pub map_change : (k b : ℕ) → k < x → g k ≡ b → 1 ≤ b → ((j : ℕ) → j < x → (g j ≡ f j) ⊎ ((f j < 1) × (g j ≡ b))) → MapOf g x (noted map b)
    map_change k b u new p e = record {
      long = length_noted map b ∙ h.long;
      seen = seen_change 1 b (has_block map) (has_block (noted map b)) (noted_has map h.long b p) (noted_else map h.long b p) f g (most_image_blocks + 1) x k u new e h.seen;
    }

-- ---- a map of all blocks tells which are free, and how many
module _ (long : ℕ → Bool) (s : List ℕ) (n : ℕ) (map : List ℕ) (h : Maps long s n (most_blocks * n) map) where
  pub map_free : (c : ℕ) → 1 ≤ c → c ≤ most_image_blocks → lacks map c ≡ not (named_by long s n c)
  unfolding named_by
  map_free c l m = ap not (h.seen c l (omega arith))

  pub map_count : (b : ℕ) → b ≤ most_image_blocks → count_to (lacks map) b ≡ count_to (λ c. not (named_by long s n c)) b
  map_count b l = count_ext _ _ b (λ k j. map_free (k + 1) (omega arith) (omega arith))

-- ---- counted row by row
pub row_free : (map : List ℕ) (row m f r : ℕ) → f ≡ count_to (lacks map) (map_words * row) → r ≡ count (λ k. lacks map (map_words * row + k + 1)) m →
    f + r ≡ count_to (lacks map) (map_words * row + m)
row_free map row m f r e q = ap₂ ◌+◌ e q ∙ sym (count_split (λ k. lacks map (k + 1)) (map_words * row) m)

-- those of the rows from a on
rows_from : (map : List ℕ) (a n : ℕ) → sum_by (λ r. count (λ k. lacks map (map_words * r + k + 1)) map_words) (range_with_len a n) ≡ count (λ k. lacks map (map_words * a + k + 1)) (map_words * n)
rows_from map a zero = count_zero (λ k. lacks map (map_words * a + k + 1))
rows_from map a (suc n) =
    let z : map_words * suc n ≡ map_words + map_words * n = omega arith in
    sum_by-cons (λ r. count (λ k. lacks map (map_words * r + k + 1)) map_words) a (range_with_len (a + 1) n)
    ∙ ap (λ (x : ℕ). count (λ k. lacks map (map_words * a + k + 1)) map_words + x) (rows_from map (a + 1) n
    ∙ count_ext _ _ (map_words * n) (λ k l. let q : map_words * (a + 1) + k + 1 ≡ map_words * a + (map_words + k) + 1 = omega arith in ap (lacks map) q))
    ∙ sym (ap (count (λ k. lacks map (map_words * a + k + 1))) z ∙ count_split (λ k. lacks map (map_words * a + k + 1)) map_words (map_words * n))

pub rows_free : (map : List ℕ) (n : ℕ) → sum_by (λ r. count (λ k. lacks map (map_words * r + k + 1)) map_words) (range_with_len 0 n) ≡ count_to (lacks map) (map_words * n)
rows_free map n = rows_from map 0 n ∙ count_ext _ _ (map_words * n) (λ k l. let q : map_words * 0 + k + 1 ≡ k + 1 = omega arith in ap (lacks map) q)

-- ---- blocks noted one after the other, whatever row they are of
pub notes_none : (g : ℕ → ℕ) (map : List ℕ) → Notes g 0 map map
notes_none g map f x e h = let z : x ≡ x + 0 = omega arith in map_as f map z h

pub notes_more : (g : ℕ → ℕ) (j b : ℕ) (before map : List ℕ) → b ≡ g j → Notes g j before map → Notes g (j + 1) before (noted map b)
notes_more g j b before map e h f x r s =
    let z : x + j + 1 ≡ x + (j + 1) = omega arith in
    map_as f (noted map b) z (map_more f (x + j) b map (e ∙ sym (r j (omega arith))) (h f x (λ k m. r k (omega arith)) s))

-- those that are 0 need no note
pub notes_pass : (g : ℕ → ℕ) (j w : ℕ) (before map : List ℕ) → ((k : ℕ) → k < w → g (j + k) ≡ 0) → Notes g j before map → Notes g (j + w) before map
notes_pass g j w before map e h f x r s =
    let z : x + j + w ≡ x + (j + w) = omega arith in
    map_as f map z
    (map_pass f (x + j) w map
    (λ k l. let q : x + j + k ≡ x + (j + k) = omega arith in ap f q ∙ r (j + k) (omega arith) ∙ e k l)
    (h f x (λ k l. r k (omega arith)) s))

-- first those of one function, then those of another
pub notes_then : (g u v : ℕ → ℕ) (j w : ℕ) (before between after : List ℕ) → ((k : ℕ) → k < j → g k ≡ u k) → ((k : ℕ) → k < w → g (j + k) ≡ v k) → Notes u j before between → Notes v w between after → Notes g (j + w) before after
notes_then g u v j w before between after a b h i f x r s =
    let z : x + j + w ≡ x + (j + w) = omega arith in
    map_as f after z
    (i f (x + j) (λ k l. let q : x + j + k ≡ x + (j + k) = omega arith in ap f q ∙ r (j + k) (omega arith) ∙ b k l)
    (h f x (λ k l. r k (omega arith) ∙ a k l) s))

pub notes_same : (g u : ℕ → ℕ) (j : ℕ) (before map : List ℕ) → ((k : ℕ) → k < j → g k ≡ u k) → Notes u j before map → Notes g j before map
notes_same g u j before map e h f x r s = h f x (λ k l. r k l ∙ e k l) s

-- the blocks of inode i + 1, in the row of all
pub map_inode : (long : ℕ → Bool) (s : List ℕ) (n i : ℕ) (b : Bool) (before map : List ℕ) → b ≡ long (i + 1) → Notes (kth_by b s n (i + 1)) most_blocks before map → Maps long s n (most_blocks * i) before → Maps long s n (most_blocks * (i + 1)) map
map_inode long s n i b before map e h m =
    let z : 44 * i + 44 ≡ 44 * (i + 1) = omega arith in
    map_as (row_by long s n) map z
    (h (row_by long s n) (44 * i) (λ k l. row_next long s n i k l ∙ ap (λ (x : Bool). kth_by x s n (i + 1) k) (sym e)) m)
