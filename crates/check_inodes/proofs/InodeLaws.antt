-- What the check of the inodes finds at each step, said of the definitions. n and b are the counts of inodes and blocks.
use Rattle.std.proofs.Common.{◌≡◌, ℕ, ◌+◌, ◌-◌, ◌*◌, ◌/◌, ◌%◌, ◌<◌, ◌≤◌, Bool, true, false, not, ◌&&◌, ◌||◌, eqb, ltb, leb, ◌≢◌, List, get_or, sym, refl, ap, ◌∙◌, ap₂, arith, le-ltb, lt-ltb, eq-eqb, ne_eqb, eqb-true, le-leb, leb-true}
use mathlib.Core.Bool.{and-true as and-unit}
use borrow.Author.Tests.{not-true, not-false, lt-leb}
use Rattle.bounded.specs.Below.{all_below, all_to}
use Rattle.bounded.specs.Count.{new_at, differ_b}
use Rattle.bounded.specs.Reflect.{Reflects}
use Rattle.bounded.proofs.BoolLaws.{clash, fails, holds, same_test, chain_end, and-true, and_left, and_right, and_false_l, and_false_r, or_l, or_r}
use Rattle.bounded.proofs.BelowLaws.{all_at, all_of, all_ext, all_split, all_chunk, all_and, all_from}
use Rattle.bounded.proofs.CountLaws.{new_zero}
use Rattle.bounded.proofs.SeenLaws.{new_noted, again_noted}
use Rattle.bounded.proofs.ReflectLaws.{r_eq, r_le, r_lt, r_and, r_imp, r_fails, r_says, reflects_ext}
use Rattle.octets.proofs.PartLaws.{get_d_part}
use Rattle.layout.specs.Sizes.{address_count, further_count, most_blocks, address_place, block_bytes, most_direct_bytes, most_file_bytes, most_directory_bytes, most_image_blocks}
use Rattle.layout.specs.Inode.{kind_of, spare_of, links_of, size_of, parent_of, address_of, address_index, free_kind, file_kind, directory_kind, attributes_zero, addresses_zero}
use Rattle.blocks.specs.Block.{block_at, block_of, blocks_used, bytes_place, is_long, address_block, further_of, kth_block, bytes_block, row_of}
use Rattle.blocks.specs.Free.{block_free}
use Rattle.blocks.specs.Map.{map_words, has_block, lacks, noted, Notes}
use Rattle.layout.proofs.InodeLaws.{addresses_none}
use Rattle.blocks.proofs.KthLaws.{kth_direct, kth_none, kth_behind, bare_all, row_kth}
use Rattle.blocks.proofs.MapLaws.{map_pass, map_as, map_free, notes_none, notes_more}
use Rattle.ledger.proofs.BytesLaws.{bytes_blocks, place_used, place_short, place_high, used_limits}
use Rattle.sound.specs.Inode.{tail_byte}
use Rattle.sound.proofs.SoundLaws.{most_any, any_most, most_file, most_directory, attributes}
use Rattle.sound.specs.Test.{used_b, rest_b, tail_b, attributes_b, addresses_b, zero_tail_b, inode_b, blank_block_b}
use Rattle.check_inodes.specs.Pass.{MapsOf, used_address_b, row_place, new_block_b, new_blocks_b, kth_b, blank_if_free_b}

-- ---- the attributes of inode i
module _ (s : List ℕ) (i : ℕ) where
  no_attributes : Reflects (attributes_zero s i) ((kind_of s i ≡ 0) × ((spare_of s i ≡ 0) × ((links_of s i ≡ 0) × ((size_of s i ≡ 0) × (parent_of s i ≡ 0)))))
  unfolding attributes_zero
  no_attributes = r_and (r_eq (kind_of s i) 0) (r_and (r_eq (spare_of s i) 0) (r_and (r_eq (links_of s i) 0) (r_and (r_eq (size_of s i) 0) (r_eq (parent_of s i) 0))))

  pub attr_spare : (spare_of s i ≡ 0 → ⊥) → attributes_b s i ≡ false
  attr_spare h = r_fails (attributes s i) (λ a. h a.1.0)

  -- a file, of which the code has the parent p
  module _ (e : kind_of s i ≡ file_kind) where
    pub attr_file_long : most_file_bytes < size_of s i → attributes_b s i ≡ false
    attr_file_long h = r_fails (attributes s i) (λ a. let m = most_file (kind_of s i) e in omega (arith, a.1.1.1.0))

    pub attr_file : (p : ℕ) → spare_of s i ≡ 0 → size_of s i ≤ most_file_bytes → p ≡ parent_of s i → eqb p 0 ≡ attributes_b s i
    attr_file p eo h ep =
        let m = most_file (kind_of s i) e in
        reflects_ext (r_eq p 0)
        (r_says (λ a. ep ∙ a.1.1.1.1.1 e)
        (λ q. (omega arith, (eo, ((λ x. absurd (omega arith)), (omega arith, ((λ x. absurd (omega arith)), λ x. sym ep ∙ q))))))
        (attributes s i))

  -- a directory, of which it has the size z
  module _ (e : kind_of s i ≡ directory_kind) where
    pub attr_directory_long : most_directory_bytes < size_of s i → attributes_b s i ≡ false
    attr_directory_long h = r_fails (attributes s i) (λ a. let m = most_directory (kind_of s i) e in omega (arith, a.1.1.1.0))

    pub attr_directory : (z : ℕ) → spare_of s i ≡ 0 → size_of s i ≤ most_directory_bytes → z ≡ size_of s i → eqb (z % block_bytes) 0 ≡ attributes_b s i
    attr_directory z eo h ez =
        let m = most_directory (kind_of s i) e in
        reflects_ext (r_eq (z % block_bytes) 0)
        (r_says (λ a. omega (arith, ez, a.1.1.1.1.0 e))
        (λ q. (omega arith, (eo, ((λ x. absurd (omega arith)), (omega arith, ((λ x. omega (arith, ez, q)), λ x. absurd (omega arith)))))))
        (attributes s i))

  -- neither: it would be free, and have no attributes
  pub attr_other : attributes_zero s i ≡ false → kind_of s i ≢ file_kind → kind_of s i ≢ directory_kind → false ≡ attributes_b s i
  attr_other z f d =
      sym
      (r_fails (attributes s i) (λ a.
      let k : kind_of s i ≤ directory_kind = a.0 in
      let e : kind_of s i ≡ free_kind = omega arith in
      let q = a.1.1.0 e in
      clash (attributes_zero s i) (no_attributes.from (e, (a.1.0, q))) z))

  -- the attributes of a free inode
  attr_free : attributes_zero s i ≡ true → attributes_b s i ≡ true
  attr_free z =
      let f = no_attributes.to z in
      let k = f.0 in
      let o = f.1.1.1.0 in
      (attributes s i).from
      (omega arith, (f.1.0, ((λ x. (f.1.1.0, (o, f.1.1.1.1))), (any_most (kind_of s i) (size_of s i) (omega arith), ((λ x. absurd (omega arith)), λ x. absurd (omega arith))))))

  pub attr_small : attributes_b s i ≡ true → size_of s i ≤ most_file_bytes
  attr_small h = most_any (kind_of s i) (size_of s i) ((attributes s i).to h).1.1.1.0

-- ---- an address a that the size uses, with the blocks met so far in the map m
module _ (b a : ℕ) (m : List ℕ) where
  pub address_new : 1 ≤ a → a ≤ b → (r : Bool) → r ≡ lacks m a → r ≡ used_address_b b m a
  address_new p q r z = chain_end r (leb 1 a) (leb a b && lacks m a) (le-leb 1 a p) (chain_end r (leb a b) (lacks m a) (le-leb a b q) z)

-- what is met is noted
pub address_noted : (a : ℕ) (m : List ℕ) → Notes (λ _. a) 1 m (noted m a)
address_noted a m = notes_more (λ _. a) 0 a m m refl (notes_none (λ _. a) m)

-- ---- the k-th block a of inode i
-- the map of what the row has before it, and then with it
module _ (s : List ℕ) (n i k a : ℕ) (ea : a ≡ kth_block s n i k) (low : 1 ≤ i) (most : k < most_blocks) where
  in_row : a ≡ row_of s n (row_place i k)
  in_row = ea ∙ sym (row_kth (is_long s) s n i k low most)

  pub kth_noted : (m after : List ℕ) → MapsOf s n (row_place i k) m → Notes (λ _. a) 1 m after → MapsOf s n (row_place i k + 1) after
  kth_noted m after h g = g (row_of s n) (row_place i k) (λ j l. let e : row_place i k + j ≡ row_place i k = omega arith in ap (row_of s n) e ∙ sym in_row) h

-- the size uses u blocks
module _ (s : List ℕ) (n b i k u a : ℕ) (eu : u ≡ blocks_used (size_of s i)) (ea : a ≡ kth_block s n i k) where
  kth_is : Reflects (used_b s n b i k && rest_b s n i k) ((k < u → (1 ≤ a) × (a ≤ b)) × (u ≤ k → a ≡ 0))
  kth_is =
      rw eu rw ea
      (r_and (r_imp (r_lt k (blocks_used (size_of s i))) (r_and (r_le 1 (kth_block s n i k)) (r_le (kth_block s n i k) b)))
      (r_imp (r_le (blocks_used (size_of s i)) k) (r_eq (kth_block s n i k) 0)))

  module _ (low : 1 ≤ i) (most : k < most_blocks) where
    here : a ≡ row_of s n (row_place i k)
    here = in_row s n i k a ea low most

    -- what is not used is right if it is 0
    kth_rest : u ≤ k → eqb a 0 ≡ kth_b s n b i k
    unfolding kth_b
    kth_rest l =
        same_test (eqb a 0) (kth_b s n b i k)
        (λ t.
        let z : a ≡ 0 = eqb-true a 0 t in
        and-true (used_b s n b i k && rest_b s n i k) (new_block_b s n i k) (kth_is.from ((λ x. absurd (omega arith)), λ x. z))
        (new_zero (row_of s n) (row_place i k) a here z))
        (λ t. eq-eqb a 0 ((kth_is.to (and_left (used_b s n b i k && rest_b s n i k) (new_block_b s n i k) t)).1 l))

    -- what is used is right if it is a block that the map lacks
    module _ (few : b ≤ most_image_blocks) (m : List ℕ) (h : MapsOf s n (row_place i k) m) where
      pub kth_used : k < u → used_address_b b m a ≡ kth_b s n b i k
      unfolding kth_b
      kth_used l =
          same_test (used_address_b b m a) (kth_b s n b i k)
          (λ t.
          let p : 1 ≤ a = leb-true 1 a (and_left (leb 1 a) (leb a b && lacks m a) t) in
          let y = and_right (leb 1 a) (leb a b && lacks m a) t in
          let q : a ≤ b = leb-true a b (and_left (leb a b) (lacks m a) y) in
          and-true (used_b s n b i k && rest_b s n i k) (new_block_b s n i k) (kth_is.from ((λ x. (p, q)), λ x. absurd (omega arith)))
          (new_noted (row_of s n) 1 (most_image_blocks + 1) (row_place i k) a (has_block m) here p (omega arith) h.seen (not-true _ (and_right (leb a b) (lacks m a) y))))
          (λ t.
          let r = (kth_is.to (and_left (used_b s n b i k && rest_b s n i k) (new_block_b s n i k) t)).0 l in
          let p : 1 ≤ a = r.0 in
          let q : a ≤ b = r.1 in
          and-true (leb 1 a) (leb a b && lacks m a) (le-leb 1 a p)
          (and-true (leb a b) (lacks m a) (le-leb a b q)
          (holds (lacks m a) (λ z.
          clash (new_block_b s n i k) (and_right (used_b s n b i k && rest_b s n i k) (new_block_b s n i k) t)
          (again_noted (row_of s n) 1 (most_image_blocks + 1) (row_place i k) a (has_block m) here p (omega arith) h.seen (not-false _ z) (omega arith))))))

-- a pass over the places at 0, at 1, .. at c of inode i: the size uses the first t, and the values of the others are g 0, g 1, ..
module _ (s : List ℕ) (n b i : ℕ) (at : ℕ → ℕ) (up : (x y : ℕ) → at (x + y) ≡ at x + y) (t c : ℕ) (low : 1 ≤ i) (few : at c ≤ most_blocks) (l : t ≤ c) (u : t < c → blocks_used (size_of s i) ≤ at t)
    (g : ℕ → ℕ) (e : (j : ℕ) → j < c - t → g j ≡ kth_block s n i (at (t + j))) where
  place : (j : ℕ) → j < c - t → (at (t + j) < most_blocks) × (blocks_used (size_of s i) ≤ at (t + j))
  place j h =
      let x = up t j in
      let y = up t (c - t) in
      let z : t + (c - t) ≡ c = omega arith in
      let w = ap at z in
      let v = u (omega arith) in
      (omega arith, omega arith)

  pub rest_tested : all_below (λ x. kth_b s n b i (at x)) t ≡ true → all_below (λ j. eqb (g j) 0) (c - t) ≡ all_below (λ x. kth_b s n b i (at x)) c
  rest_tested h =
      sym
      (all_from (λ x. kth_b s n b i (at x)) (λ j. eqb (g j) 0) t c l (all_at (λ x. kth_b s n b i (at x)) t h)
      (λ j m. sym (kth_rest s n b i (at (t + j)) (blocks_used (size_of s i)) (g j) refl (e j m) low (place j m).0 (place j m).1)))

  pub rest_passed : all_below (λ j. eqb (g j) 0) (c - t) ≡ true → (m : List ℕ) → MapsOf s n (row_place i (at t)) m → MapsOf s n (row_place i (at c)) m
  rest_passed h m q =
      let y = up t (c - t) in
      let z : t + (c - t) ≡ c = omega arith in
      let w = ap at z in
      map_as (row_of s n) m (omega arith)
      (map_pass (row_of s n) (row_place i (at t)) (c - t) m
      (λ j v.
      let x = up t j in
      let p : row_place i (at t) + j ≡ row_place i (at (t + j)) = omega arith in
      ap (row_of s n) p ∙ row_kth (is_long s) s n i (at (t + j)) low (place j v).0 ∙ sym (e j v) ∙ eqb-true (g j) 0 (all_at (λ j. eqb (g j) 0) (c - t) h j v)) q)

-- ---- all blocks of inode i: the twelve addresses, and what is behind them
module _ (s : List ℕ) (n b i : ℕ) where
  addresses_are : all_below (kth_b s n b i) most_blocks ≡ addresses_b s n b i && new_blocks_b s n i
  unfolding kth_b addresses_b new_blocks_b
  addresses_are = all_and (λ k. used_b s n b i k && rest_b s n i k) (new_block_b s n i) most_blocks

  parts : all_below (kth_b s n b i) address_count && all_below (λ j. kth_b s n b i (address_count + j)) further_count ≡ addresses_b s n b i && new_blocks_b s n i
  parts = sym (all_split (kth_b s n b i) address_count further_count) ∙ addresses_are

  pub direct_stop : (r : Bool) → r ≡ all_below (kth_b s n b i) address_count → r ≡ false → r ≡ addresses_b s n b i && new_blocks_b s n i
  direct_stop r e h = h ∙ sym (and_false_l _ (all_below (λ j. kth_b s n b i (address_count + j)) further_count) (sym e ∙ h)) ∙ parts

  module _ (d : all_below (kth_b s n b i) address_count ≡ true) where
    pub direct_then : (r : Bool) → r ≡ all_below (λ j. kth_b s n b i (address_count + j)) further_count → r ≡ addresses_b s n b i && new_blocks_b s n i
    direct_then r e = chain_end r _ _ d e ∙ parts

    -- more than twelve blocks of bytes: the address block is there
    pub direct_block : most_direct_bytes < size_of s i → (1 ≤ address_block s n i) × (address_block s n i ≤ b)
    unfolding kth_b blocks_used
    direct_block l =
        ((kth_is s n b i 11 (blocks_used (size_of s i)) (address_block s n i) refl (sym (kth_direct (is_long s i) s n i 11 (omega arith)))
        ).to (and_left (used_b s n b i 11 && rest_b s n i 11) (new_block_b s n i 11) (all_at (kth_b s n b i) address_count d 11 (omega arith)))
        ).0 (omega arith)

  -- no more: there is no address block, and nothing behind
  module _ (low : 1 ≤ i) (few : size_of s i ≤ most_direct_bytes) where
    short_is : is_long s i ≡ false
    unfolding is_long
    short_is = and_false_r (eqb (kind_of s i) file_kind) (ltb most_direct_bytes (size_of s i)) (le-ltb most_direct_bytes (size_of s i) (omega arith))

    behind : (k : ℕ) → address_count ≤ k → kth_block s n i k ≡ 0
    behind k l = kth_none (is_long s i) s n i k short_is l

    pub short_rest : true ≡ all_below (λ j. kth_b s n b i (address_count + j)) further_count
    unfolding blocks_used
    short_rest =
        sym
        (all_of (λ j. kth_b s n b i (address_count + j)) further_count
        (λ j l. sym (kth_rest s n b i (12 + j) (blocks_used (size_of s i)) 0 refl (sym (behind (12 + j) (omega arith))) low (omega arith) (omega arith))))

    pub short_passed : (m : List ℕ) → MapsOf s n (row_place i address_count) m → MapsOf s n (most_blocks * i) m
    short_passed m h =
        map_as (row_of s n) m (omega arith)
        (map_pass (row_of s n) (row_place i address_count) further_count m
        (λ j l.
        let e : row_place i address_count + j ≡ row_place i (12 + j) = omega arith in
        ap (row_of s n) e ∙ row_kth (is_long s) s n i (12 + j) low (omega arith) ∙ behind (12 + j) (omega arith)) h)

-- more than twelve blocks of bytes are a file's: no directory has them, and a free inode has none
long_is : (s : List ℕ) (i : ℕ) → attributes_b s i ≡ true → most_direct_bytes < size_of s i → is_long s i ≡ true
unfolding is_long
long_is s i a l =
    let h = (attributes s i).to a in
    let d : kind_of s i ≢ directory_kind = λ e. let z = most_directory (kind_of s i) e in let y = h.1.1.1.0 in omega arith in
    let f : kind_of s i ≢ free_kind = λ e. let z = (h.1.1.0 e).1.0 in omega arith in
    let k : kind_of s i ≤ directory_kind = h.0 in
    and-true (eqb (kind_of s i) file_kind) (ltb most_direct_bytes (size_of s i)) (eq-eqb (kind_of s i) file_kind (omega arith)) (lt-ltb most_direct_bytes (size_of s i) l)

-- address j of its address block c
pub further_is : (s : List ℕ) (n i j z c a : ℕ) → attributes_b s i ≡ true → z ≡ size_of s i → most_direct_bytes < z → c ≡ address_block s n i → a ≡ further_of s n c j → a ≡ kth_block s n i (address_count + j)
further_is s n i j z c a t ez l ec ea = ea ∙ ap (λ (x : ℕ). further_of s n x j) ec ∙ sym (kth_behind (is_long s i) s n i j (long_is s i t (omega arith)))

-- of which the size uses u
pub further_few : (s : List ℕ) (i u : ℕ) → attributes_b s i ≡ true → u ≡ blocks_used (size_of s i) - address_count → u ≤ further_count
further_few s i u t e = let l = (used_limits (size_of s i)).0 (attr_small s i t) in omega arith

-- what the blocks that a size z uses say of it
module _ (z u : ℕ) (e : u ≡ blocks_used z) where
  pub used_few : u ≤ address_count → z ≤ most_direct_bytes
  unfolding blocks_used
  used_few l = omega arith

  pub used_many : address_count < u → most_direct_bytes < z
  unfolding blocks_used
  used_many l = omega arith

-- ---- inode i
module _ (s : List ℕ) (n b i : ℕ) where
  pub inode_stop : attributes_b s i ≡ false → inode_b s n b i && new_blocks_b s n i ≡ false
  unfolding inode_b
  inode_stop h = and_false_l (inode_b s n b i) (new_blocks_b s n i) (and_false_l (attributes_b s i) (addresses_b s n b i && zero_tail_b s n i) h)

  module _ (a : attributes_b s i ≡ true) where
    pub inode_named_lem : addresses_b s n b i && new_blocks_b s n i ≡ false → inode_b s n b i && new_blocks_b s n i ≡ false
    unfolding inode_b
    inode_named_lem h =
        fails (inode_b s n b i && new_blocks_b s n i) (λ t.
        let x = and_right (attributes_b s i) (addresses_b s n b i && zero_tail_b s n i) (and_left (inode_b s n b i) (new_blocks_b s n i) t) in
        clash (addresses_b s n b i && new_blocks_b s n i)
        (and-true (addresses_b s n b i) (new_blocks_b s n i) (and_left (addresses_b s n b i) (zero_tail_b s n i) x) (and_right (inode_b s n b i) (new_blocks_b s n i) t))
        h)

    module _ (h : addresses_b s n b i && new_blocks_b s n i ≡ true) where
      pub inode_addresses : addresses_b s n b i ≡ true
      inode_addresses = and_left (addresses_b s n b i) (new_blocks_b s n i) h

      pub inode_end : (z : Bool) → z ≡ zero_tail_b s n i → z ≡ inode_b s n b i && new_blocks_b s n i
      unfolding inode_b
      inode_end z q =
          q
          ∙ sym
          (ap₂ ◌&&◌ (ap₂ ◌&&◌ a (ap (λ (x : Bool). x && zero_tail_b s n i) inode_addresses))
          (and_right (addresses_b s n b i) (new_blocks_b s n i) h)
          ∙ and-unit (zero_tail_b s n i))

-- all inodes: no block is named twice
pub inodes_are : (s : List ℕ) (n b : ℕ) →
    all_below (λ k. inode_b s n b (k + 1) && new_blocks_b s n (k + 1)) n ≡ all_to (inode_b s n b) n && differ_b (row_of s n) (most_blocks * n)
unfolding new_blocks_b
inodes_are s n b =
    all_and (λ k. inode_b s n b (k + 1)) (λ k. new_blocks_b s n (k + 1)) n
    ∙ ap (λ (x : Bool). all_to (inode_b s n b) n && x)
    (all_ext (λ k. new_blocks_b s n (k + 1)) (λ k. all_below (λ j. new_at (row_of s n) (most_blocks * k + j)) most_blocks) n
    (λ k l. let e : k + 1 - 1 ≡ k = omega arith in ap (λ (x : ℕ). all_below (λ j. new_at (row_of s n) (most_blocks * x + j)) most_blocks) e)
    ∙ sym (all_chunk (new_at (row_of s n)) most_blocks n))

-- ---- zero bytes
-- a range inside of a block, from byte o of it on
block_byte : (s : List ℕ) (n c o : ℕ) → o < 64 → get_or (block_of s n c) o 0 ≡ get_or s (block_at n c + o) 0
unfolding block_of
block_byte s n c o l = get_d_part s (block_at n c) 64 o l

zero_block_is : (s : List ℕ) (n k a : ℕ) → a ≡ block_at n (k + 1) → all_below (λ j. eqb (get_or s (a + j) 0) 0) 64 ≡ blank_block_b s n (k + 1)
unfolding blank_block_b
zero_block_is s n k a e =
    rw e (all_ext (λ j. eqb (get_or s (block_at n (k + 1) + j) 0) 0) (λ o. eqb (get_or (block_of s n (k + 1)) o 0) 0) 64
    (λ o l. ap (λ (x : ℕ). eqb x 0) (sym (block_byte s n (k + 1) o l))))

tail_bytes : (s : List ℕ) (n i : ℕ) →
    all_below (tail_b s n i) block_bytes ≡ all_below (λ j. eqb (get_or s (block_at n (bytes_block s n i (size_of s i / block_bytes)) + size_of s i % block_bytes + j) 0) 0) (block_bytes - size_of s i % block_bytes)
tail_bytes s n i =
    let t = size_of s i % block_bytes in
    let c = bytes_block s n i (size_of s i / block_bytes) in
    all_from (tail_b s n i) (λ j. eqb (get_or s (block_at n c + t + j) 0) 0) t block_bytes (omega arith)
    (λ o l. or_l (not (leb t o)) (eqb (tail_byte s n i o) 0) (ap not (lt-leb t o l)))
    (λ j l.
    let e : block_at n c + (t + j) ≡ block_at n c + t + j = omega arith in
    ap₂ ◌||◌ (ap not (le-leb t (t + j) (omega arith))) (ap (λ (x : ℕ). eqb x 0) (block_byte s n c (t + j) (omega arith) ∙ ap (λ (x : ℕ). get_or s x 0) e)))

-- what is no file, and a size that fills its blocks, has no bytes to test
pub tail_none : (s : List ℕ) (n i : ℕ) → (kind_of s i ≡ file_kind → ⊥) → true ≡ zero_tail_b s n i
unfolding zero_tail_b
tail_none s n i h =
    sym
    (or_l (not (eqb (kind_of s i) file_kind)) (eqb (size_of s i % block_bytes) 0 || all_below (tail_b s n i) block_bytes)
    (ap not (ne_eqb (kind_of s i) file_kind h)))

pub tail_full : (s : List ℕ) (n i : ℕ) → size_of s i % block_bytes ≡ 0 → true ≡ zero_tail_b s n i
unfolding zero_tail_b
tail_full s n i e =
    sym
    (or_r (not (eqb (kind_of s i) file_kind)) (eqb (size_of s i % block_bytes) 0 || all_below (tail_b s n i) block_bytes)
    (or_l (eqb (size_of s i % block_bytes) 0) (all_below (tail_b s n i) block_bytes) (eq-eqb (size_of s i % block_bytes) 0 e)))

-- the last block of a file whose size z ends in it: it is there, and the bytes from z on are what the code tests
module _ (s : List ℕ) (n i z : ℕ) (ez : z ≡ size_of s i) (h : z % block_bytes ≢ 0) where
  module _ (b : ℕ) (a : attributes_b s i ≡ true) (d : addresses_b s n b i ≡ true) where
    used_block : (k : ℕ) → k < most_blocks → k < blocks_used z → (1 ≤ kth_block s n i k) × (kth_block s n i k ≤ b)
    unfolding addresses_b
    used_block k l u = ((kth_is s n b i k (blocks_used z) (kth_block s n i k) (ap blocks_used ez) refl).to (all_at _ most_blocks d k l)).0 u

    pub last_there : (1 ≤ bytes_block s n i (z / block_bytes)) × (bytes_block s n i (z / block_bytes) ≤ b)
    last_there =
        let m = attr_small s i a in
        let l : z / block_bytes < bytes_blocks z = omega arith in
        let u = place_used z (z / block_bytes) l in
        let w = (used_limits z).0 (omega arith) in
        rw (← ez) (used_block (bytes_place z (z / block_bytes)) (omega arith) u)

    pub last_long : most_direct_bytes < z → (1 ≤ address_block s n i) × (address_block s n i ≤ b)
    last_long l = let w = (used_limits z).1.1 l in rw (← (kth_direct (is_long s i) s n i 11 (omega arith))) (used_block 11 (omega arith) (omega arith))

  pub last_short : (r : ℕ) → z ≤ most_direct_bytes → r ≡ kth_block s n i (z / block_bytes) → r ≡ bytes_block s n i (z / block_bytes)
  last_short r l e = e ∙ ap (kth_block s n i) (sym (ap (λ (x : ℕ). bytes_place x (z / block_bytes)) (sym ez) ∙ place_short z (z / block_bytes) l))

  pub last_further : (r c j : ℕ) → attributes_b s i ≡ true → most_direct_bytes < z → c ≡ address_block s n i → j ≡ z / block_bytes - address_place → r ≡ further_of s n c j → r ≡ bytes_block s n i (z / block_bytes)
  last_further r c j a l ec ej e =
      let y : address_count + j ≡ z / block_bytes + 1 = omega arith in
      further_is s n i j z c r a ez l ec e
      ∙ ap (kth_block s n i) (y ∙ sym (ap (λ (x : ℕ). bytes_place x (z / block_bytes)) (sym ez) ∙ place_high z (z / block_bytes) l (omega arith)))

  pub tail_tested : (c o : ℕ) → kind_of s i ≡ file_kind → c ≡ bytes_block s n i (z / block_bytes) → o ≡ block_at n c →
      all_below (λ j. eqb (get_or s (o + z % block_bytes + j) 0) 0) (block_bytes - z % block_bytes) ≡ zero_tail_b s n i
  unfolding zero_tail_b
  tail_tested c o ek ec eo =
      sym
      (ap₂ ◌||◌ (ap not (eq-eqb (kind_of s i) file_kind ek))
      (ap (λ (x : Bool). x || all_below (tail_b s n i) block_bytes) (ne_eqb (size_of s i % block_bytes) 0 (λ q. h (ap (λ (x : ℕ). x % block_bytes) ez ∙ q))))
      ∙ rw eo rw ec rw ez (tail_bytes s n i))

-- ---- the blocks that the map does not have
module _ (s : List ℕ) (n k : ℕ) (map : List ℕ) (h : MapsOf s n (most_blocks * n) map) (l : k < most_image_blocks) where
  free : lacks map (k + 1) ≡ block_free s n (k + 1)
  free = map_free (is_long s) s n map h (k + 1) (omega arith) (omega arith)

  pub blank_named : has_block map (k + 1) ≡ true → blank_if_free_b s n (k + 1) ≡ true
  blank_named z = or_l _ (blank_block_b s n (k + 1)) (ap not (sym free ∙ ap not z))

  pub blank_tested : (a : ℕ) → has_block map (k + 1) ≡ false → a ≡ block_at n (k + 1) → all_below (λ j. eqb (get_or s (a + j) 0) 0) block_bytes ≡ blank_if_free_b s n (k + 1)
  blank_tested a z e = zero_block_is s n k a e ∙ sym (ap (λ (x : Bool). not x || blank_block_b s n (k + 1)) (sym free ∙ ap not z))

-- row by row: that many whole rows, and m of the next
pub rows_are : (p : ℕ → Bool) (rows m n : ℕ) → map_words * rows + m ≡ n →
    all_below (λ row. all_below (λ k. p (map_words * row + k + 1)) map_words) rows && all_below (λ k. p (map_words * rows + k + 1)) m ≡ all_to p n
rows_are p rows m n e =
    ap (λ (x : Bool). x && all_below (λ k. p (map_words * rows + k + 1)) m) (sym (all_chunk (λ k. p (k + 1)) map_words rows))
    ∙ sym (all_split (λ k. p (k + 1)) (map_words * rows) m)
    ∙ ap (all_to p) e

-- ---- an inode that has no attributes: it is free, and right if it has no address
module _ (s : List ℕ) (n b i : ℕ) (low : 1 ≤ i) (a : attributes_zero s i ≡ true) where
  none_used : 0 ≡ blocks_used (size_of s i)
  unfolding blocks_used
  none_used = let z = ((no_attributes s i).to a).1.1.1.0 in omega arith

  module _ (d : addresses_zero s n i ≡ true) where
    zero_kth : (k : ℕ) → k < most_blocks → kth_block s n i k ≡ 0
    zero_kth k l = bare_all (is_long s i) s n i (addresses_none s n i d) k l

    zero_all : addresses_b s n b i && new_blocks_b s n i ≡ true
    zero_all =
        sym (addresses_are s n b i)
        ∙ all_of (kth_b s n b i) most_blocks (λ k l. sym (kth_rest s n b i k 0 0 none_used (sym (zero_kth k l)) low l (omega arith)))

    zero_right : inode_b s n b i && new_blocks_b s n i ≡ true
    unfolding inode_b
    zero_right =
        let k = ((no_attributes s i).to a).0 in
        and-true (inode_b s n b i) (new_blocks_b s n i)
        (and-true (attributes_b s i) (addresses_b s n b i && zero_tail_b s n i) (attr_free s i a)
        (and-true (addresses_b s n b i) (zero_tail_b s n i) (and_left (addresses_b s n b i) (new_blocks_b s n i) zero_all) (sym (tail_none s n i (λ z. omega arith)))))
        (and_right (addresses_b s n b i) (new_blocks_b s n i) zero_all)

    pub zero_passed : (map : List ℕ) → MapsOf s n (row_place i 0) map → MapsOf s n (most_blocks * i) map
    zero_passed map g =
        map_as (row_of s n) map (omega arith)
        (map_pass (row_of s n) (row_place i 0) most_blocks map
        (λ k l.
        let e : row_place i 0 + k ≡ row_place i k = omega arith in
        ap (row_of s n) e ∙ row_kth (is_long s) s n i k low l ∙ zero_kth k l) g)

  unused : addresses_b s n b i ≡ true → addresses_zero s n i ≡ true
  unfolding addresses_b addresses_zero
  unused h =
      all_of (λ k. eqb (address_of s n (address_index i k)) 0) address_count
      (λ k l.
      eq-eqb (address_of s n (address_index i k)) 0
      (((kth_is s n b i k 0 (address_of s n (address_index i k)) none_used (sym (kth_direct (is_long s i) s n i k l))
      ).to (all_at (λ j. used_b s n b i j && rest_b s n i j) most_blocks h k (omega arith))).1 (omega arith)))

  pub free_right : addresses_zero s n i ≡ inode_b s n b i && new_blocks_b s n i
  unfolding inode_b
  free_right =
      same_test (addresses_zero s n i) (inode_b s n b i && new_blocks_b s n i) zero_right
      (λ t. unused (and_left (addresses_b s n b i) (zero_tail_b s n i) (and_right (attributes_b s i) (addresses_b s n b i && zero_tail_b s n i) (and_left (inode_b s n b i) (new_blocks_b s n i) t))))
