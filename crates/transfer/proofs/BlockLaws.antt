-- The block of a block step, as it is copied. s is the store, m the image, d the desk, n the inode count.
use Prim.Native.Nat.{ℕ, ◌+◌, ◌*◌, ◌-◌, ◌≤◌, ◌<◌}
use mathlib.Core.Path.{◌≡◌, refl, sym, ap, ◌∙◌}
use mathlib.Core.Bool.{Bool, true, false, ◌&&◌}
use mathlib.Core.List.{List}
use native.Mathlib.Nat.{add-zero}
use native.Mathlib.Numerals.{add-one}
use native.Mathlib.Omega.{arith}
use borrow.Author.Tests.{eq-eqb, ne_eqb}
use borrow.Rule.Slice.PartMut.{put_mid}
use lib.Dec.{eqb}
use lib.ListN.{length, take, drop, replicate, length-replicate}
use Rattle.bounded.specs.Search.{pick}
use Rattle.bounded.proofs.BoolLaws.{and_false_l, and_false_r, and-true}
use Rattle.octets.specs.Octets.{part, splice, zeroed, pasted}
use Rattle.octets.proofs.PartLaws.{length_splice, length_inside, part_all, part_same, cut, lent}
use Rattle.layout.specs.Sizes.{most_inodes, address_count, address_place}
use Rattle.layout.specs.Inode.{kind_of, directory_kind, size_of}
use Rattle.blocks.specs.Block.{block_at, block_of, put_in_block, is_long, kth_block, blocks_used}
use Rattle.names.specs.Entry.{entry_inode}
use Rattle.desk.specs.Desk.{mark_of, is_copied}
use Rattle.sound.specs.Sound.{blocks_in}
use Rattle.sound.specs.Counted.{SoundStore}
use Rattle.preservation.proofs.StoreLaws.{blocks_of_lem, dir_of_lem}
use Rattle.checkpoint.specs.Copier.{copied_entry, copied_entries, copied_block}
use Rattle.checkpoint.proofs.Copy.NoteLaws.{length_copied_block}

-- ---- the entries
module _ (d : List ℕ) (n i k : ℕ) (x : List ℕ) (j : ℕ) (a : Bool) (e : a ≡ mark_of d n i (4 * k + j)) where
  pub entry_unmarked : a ≡ false → x ≡ copied_entry d n i k x j
  unfolding copied_entry
  entry_unmarked q =
      sym (ap (λ (t : Bool). pick t (splice x (16 * j) (replicate 16 0)) x) (and_false_l (mark_of d n i (4 * k + j)) (is_copied d n (entry_inode (part x (16 * j) 16))) (sym e ∙ q)))

  module _ (v : ℕ) (f : v ≡ entry_inode (take (16 * j + 16 - 16 * j) (drop (16 * j) x))) (c : Bool) (g : c ≡ is_copied d n v) where
    names_copied : is_copied d n (entry_inode (part x (16 * j) 16)) ≡ c
    names_copied = ap (λ (y : List ℕ). is_copied d n (entry_inode y)) (sym (cut x (16 * j) 16)) ∙ ap (is_copied d n) (sym f) ∙ sym g

    pub entry_uncopied : c ≡ false → x ≡ copied_entry d n i k x j
    unfolding copied_entry
    entry_uncopied q =
        sym (ap (λ (t : Bool). pick t (splice x (16 * j) (replicate 16 0)) x) (and_false_r (mark_of d n i (4 * k + j)) (is_copied d n (entry_inode (part x (16 * j) 16))) (names_copied ∙ q)))

    pub entry_zeroed : a ≡ true → c ≡ true → (y : List ℕ) → y ≡ zeroed x (16 * j) 16 → y ≡ copied_entry d n i k x j
    unfolding copied_entry zeroed
    entry_zeroed p q y h =
        h ∙ sym (ap (λ (t : Bool). pick t (splice x (16 * j) (replicate 16 0)) x) (and-true (mark_of d n i (4 * k + j)) (is_copied d n (entry_inode (part x (16 * j) 16))) (sym e ∙ p) (names_copied ∙ q)))

module _ (d : List ℕ) (n i k : ℕ) (x : List ℕ) where
  pub entries_none : x ≡ copied_entries d n i k x 0
  unfolding copied_entries
  entries_none = refl

  pub entries_more : (j : ℕ) (y z : List ℕ) → y ≡ copied_entries d n i k x j → z ≡ copied_entry d n i k y j → z ≡ copied_entries d n i k x (j + 1)
  unfolding copied_entries
  entries_more j y z e f = f ∙ ap (λ (w : List ℕ). copied_entry d n i k w j) e ∙ ap (copied_entries d n i k x) (sym (add-one j))

-- ---- the block
-- 64 bytes written over 64
pub covered : (x xs : List ℕ) → length x ≡ 64 → length xs ≡ 64 → splice x 0 xs ≡ xs
covered x xs e f = sym (part_all (splice x 0 xs) 64 (length_splice x 0 xs ∙ e)) ∙ part_same x 0 xs 64 f (omega arith)

module _ {s : List ℕ} {n : ℕ} (f : SoundStore s n (blocks_in s)) (i : ℕ) (low : 1 ≤ i) (high : i ≤ n) (k : ℕ) (used : k < blocks_used (size_of s i)) where
  pub block_here : (n ≤ most_inodes) × (1 ≤ kth_block s n i k) × (block_at n (kth_block s n i k) + 64 ≤ length s)
  block_here =
      let b = blocks_of_lem f i low high in
      let w = (b.blocks k used).low in
      let v = (b.blocks k used).inside in
      (b.inode.few, w, omega arith)

  -- a directory has no address block
  pub block_few : kind_of s i ≡ directory_kind → k < address_count
  block_few e = let w = (dir_of_lem f i (record { low = low; high = high; kind = e })).few in omega arith

  abbrev plain : List ℕ
  plain = block_of s n (kth_block s n i k)

  pub block_long : (d : List ℕ) → length (copied_block s d n i k) ≡ 64
  unfolding block_of
  block_long d = length_copied_block d n i k s (length_inside s (block_at n (kth_block s n i k)) 64 block_here.2)

  module _ (d : List ℕ) (p : Bool) (q : p ≡ is_long s i && eqb k address_place) (x : List ℕ) (e : length x ≡ 64) where
    pub block_zeroed : p ≡ true → (y : List ℕ) → y ≡ zeroed x 0 64 → y ≡ copied_block s d n i k
    unfolding copied_block zeroed
    block_zeroed t y r =
        r ∙ covered x (replicate 64 0) e (length-replicate {A = ℕ} 64 0)
        ∙ sym (ap (λ (b : Bool). pick b (replicate 64 0) (pick (eqb (kind_of s i) 2) (copied_entries d n i k plain 4) plain)) (sym q ∙ t))

    -- x has the store's block
    module _ (t : p ≡ false) (y : List ℕ) (a o : ℕ) (u : a ≡ kth_block s n i k) (v : o ≡ block_at n a) (r : y ≡ pasted x 0 s o 64) where
      block_read : y ≡ plain
      unfolding pasted block_of
      block_read =
          let b = block_here in
          let w = ap (block_at n) u in
          r ∙ covered x (part s o 64) e (length_inside s o 64 (omega (arith, v, w, b.2))) ∙ ap (λ (z : ℕ). part s z 64) (v ∙ w)

      block_by : (b : Bool) → eqb (kind_of s i) directory_kind ≡ b → copied_block s d n i k ≡ pick b (copied_entries d n i k plain 4) plain
      unfolding copied_block
      block_by b w =
          ap (λ (z : Bool). pick z (replicate 64 0) (pick (eqb (kind_of s i) 2) (copied_entries d n i k plain 4) plain)) (sym q ∙ t)
          ∙ ap (λ (z : Bool). pick z (copied_entries d n i k plain 4) plain) w

      module _ (g : ℕ) (w : g ≡ kind_of s i) where
        pub block_plain : (g ≡ directory_kind → ⊥) → y ≡ copied_block s d n i k
        block_plain h = block_read ∙ sym (block_by false (ne_eqb (kind_of s i) 2 (λ z. h (w ∙ z))))

        pub block_parted : g ≡ directory_kind → (z : List ℕ) → z ≡ copied_entries d n i k y 4 → z ≡ copied_block s d n i k
        block_parted h z c = c ∙ ap (λ (l : List ℕ). copied_entries d n i k l 4) block_read ∙ sym (block_by true (eq-eqb (kind_of s i) 2 (sym w ∙ h)))

  -- its place in the image
  pub block_put : (m d : List ℕ) (c o : ℕ) (y : List ℕ) → o ≡ block_at n c → o + 64 ≤ length m → y ≡ copied_block s d n i k → put_mid o (o + 64 - o) m y ≡ put_in_block m n c 0 (copied_block s d n i k)
  block_put m d c o y e h q = lent m o 64 y (ap length q ∙ block_long d) h ∙ in_block m n c o y e ∙ ap (put_in_block m n c 0) q
    where
      in_block : (m : List ℕ) (n c o : ℕ) (xs : List ℕ) → o ≡ block_at n c → splice m o xs ≡ put_in_block m n c 0 xs
      in_block m n c o xs e = unfold put_in_block in ap (λ (y : ℕ). splice m y xs) (e ∙ sym (add-zero (block_at n c)))
