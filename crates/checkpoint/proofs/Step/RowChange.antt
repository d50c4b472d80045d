-- Which blocks the inodes of the image have after a block step and a close, whatever its bytes: it need be no ledger, so that an address may stand where the step writes one, and two inodes may share an address block. m is the image, n and b the counts of inodes and blocks.
use Prim.Native.Nat.{ℕ, ◌+◌, ◌*◌, ◌-◌, ◌/◌, ◌%◌, ◌≤◌, ◌<◌}
use mathlib.Core.Path.{◌≡◌, refl, sym, ap, ◌∙◌, subst}
use mathlib.Core.Logic.{◌≢◌, ◌⊎◌, inl, inr}
use mathlib.Core.Bool.{Bool, true, false}
use mathlib.Core.List.{List}
use native.Mathlib.Decide.{ℕ_discrete, dec_lt}
use native.Mathlib.Omega.{arith}
use borrow.Author.Tests.{lt-ltb, le-ltb}
use lib.ListN.{length, replicate, get_or-replicate}
use Rattle.bounded.proofs.CaseLaws.{each_else}
use Rattle.octets.specs.Octets.{num_at, to_bytes}
use Rattle.octets.proofs.PartLaws.{part_same}
use Rattle.octets.proofs.NumLaws.{zero_num}
use Rattle.layout.specs.Sizes.{address_count, address_place, block_bytes, most_blocks}
use Rattle.layout.specs.Inode.{kind_of, size_of, address_index, address_of, put_address, inode_of, put_attributes, with_links}
use Rattle.layout.specs.Fits.{InodeFits}
use Rattle.blocks.specs.Block.{store_length, block_at, block_of, put_in_block, is_long, address_block, further_of, kth_by, kth_block, row_by, put_kth}
use Rattle.blocks.specs.Free.{long_but}
use Rattle.blocks.proofs.KthLaws.{kth_direct, kth_further, kth_none, kth_bare, further_bytes, further_same}
use Rattle.ledger.proofs.WriteLaws.{Within, put_within, kth_data, address_other, block_address, further_within, further_put, further_else, Place, put_kth_lem, put_kth_others, put_kth_else}
use Rattle.ledger.proofs.LedgerLaws.{Unnamed, free_none}
use Rattle.blocks.proofs.LongLaws.{but_here, but_else}
use Rattle.preservation.proofs.SameLaws.{InInode, NewInode, same_long, put_attributes_lem, attributes_blocks, attributes_new}

-- ---- 3: block c, which no inode has, gets the bytes xs and is then the k-th of inode i; the address block that holds its address is there. long tells which inodes have one
module _ (long : ℕ → Bool) (m : List ℕ) (n b : ℕ) (fits : length m ≡ store_length n b) (i : ℕ) (low : 1 ≤ i) (high : i ≤ n) (k : ℕ) (few : k < most_blocks)
    (behind : address_count ≤ k → (long i ≡ true) × ((1 ≤ address_block m n i) × (address_block m n i ≤ b))) (c : ℕ) (lc : 1 ≤ c) (mc : c ≤ b) (free : Unnamed long m n c)
    (xs : List ℕ) (full : length xs ≡ block_bytes) (blank : long i ≡ true → k ≡ address_place → xs ≡ replicate block_bytes 0) where
  abbrev wrote : List ℕ
  wrote = put_in_block m n c 0 xs

  abbrev after : List ℕ
  after = put_kth wrote n i k c

  -- what stood at the place
  abbrev pub old : ℕ
  old = kth_by (long i) m n i k

  -- a place that had y has x: it keeps its block; or c comes where the old address stood; or an old address block is gone
  abbrev pub Change : ℕ → ℕ → Type 0
  Change x y = (x ≡ y) ⊎ (((x ≡ c) × (y ≡ old)) ⊎ ((x ≡ 0) × (old ≡ 0 → y ≡ 0)))

  -- ---- the bytes
  within : Within m wrote n c
  within = put_within m n c 0 xs lc (omega arith)

  kept : (j u : ℕ) → 1 ≤ j → j ≤ n → u < most_blocks → kth_by (long j) wrote n j u ≡ kth_by (long j) m n j u
  kept = kth_data long within (free_none long m n c free)

  -- ---- an address of the inode's own twelve
  module _ (l : k < address_count) where
    named : after ≡ put_address wrote n (address_index i k) c
    unfolding put_kth
    named = rw (lt-ltb k address_count l)

    place : Place long wrote n i k
    place = let z = within.long in record { low = low; high = high; few = few; area = omega arith; further = λ q. absurd (omega arith); own = λ q. absurd (omega arith) }

    -- the bytes of the other blocks, and the other addresses
    pub direct_bytes : (a : ℕ) → 1 ≤ a → a ≢ c → block_of after n a ≡ block_of m n a
    direct_bytes a p q = ap (λ (t : List ℕ). block_of t n a) named ∙ block_address wrote n (address_index i k) c (omega arith) a ∙ within.others a p q

    pub direct_else : (x : ℕ) → x < address_count * n → x ≢ address_index i k → address_of after n x ≡ address_of m n x
    direct_else x p q = ap (λ (t : List ℕ). address_of t n x) named ∙ address_other wrote n (address_index i k) c x q ∙ within.direct x p

    direct_new : kth_by (long i) after n i k ≡ c
    direct_new = put_kth_lem long wrote n i k c place

    block : block_of after n c ≡ xs
    unfolding block_of put_in_block
    block =
        let z : block_at n c + 0 ≡ block_at n c = omega arith in
        ap (λ (t : List ℕ). block_of t n c) named ∙ block_address wrote n (address_index i k) c (omega arith) c ∙ rw z (part_same m (block_at n c) xs 64 full (omega arith))

    -- behind a new address block there is nothing
    bare : (u : ℕ) → u < most_blocks → address_count ≤ u → k ≡ address_place → Change (kth_by (long i) after n i u) (kth_by (long i) m n i u)
    bare u p q e = go (long i) refl
      where
        go : (x : Bool) → long i ≡ x → Change (kth_by (long i) after n i u) (kth_by (long i) m n i u)
        go false y = inl (kth_none (long i) after n i u y q ∙ sym (kth_none (long i) m n i u y q))
        go true y =
            let a : address_block after n i ≡ c = sym (kth_direct (long i) after n i 11 (omega arith)) ∙ ap (kth_by (long i) after n i) (sym e) ∙ direct_new in
            inr (inr (
              kth_further (long i) after n i u y q
                  ∙ ap (λ (x : ℕ). further_of after n x (u - 12)) a
                  ∙ further_bytes after n c (u - 12) (λ z. omega arith) (omega arith)
                  ∙ ap (λ (x : List ℕ). num_at 2 x (2 * (u - 12))) (block ∙ blank y e)
                  ∙ zero_num 2 (replicate 64 0) (2 * (u - 12)) (λ j z. get_or-replicate 64 (2 * (u - 12) + j) 0 0 (omega arith)),
              λ z. kth_bare (long i) m n i u (sym (kth_direct (long i) m n i 11 (omega arith)) ∙ ap (kth_by (long i) m n i) (sym e) ∙ z) q p,
            ))

    direct_mine : (u : ℕ) → u < most_blocks → Dec (u ≡ k) → Dec (k ≡ address_place) → Dec (u < address_count) → Change (kth_by (long i) after n i u) (kth_by (long i) m n i u)
    direct_mine u p (yes q) _ _ = inr (inl (ap (kth_by (long i) after n i) q ∙ direct_new, ap (kth_by (long i) m n i) q))
    direct_mine u p (no q) (yes e) (no r) = bare u p (omega arith) e
    direct_mine u p (no q) (yes e) (yes r) = inl (put_kth_else long wrote n i k c place u p q (λ _. r) ∙ kept i u low high p)
    direct_mine u p (no q) (no e) _ = inl (put_kth_else long wrote n i k c place u p q (λ z. absurd (e z)) ∙ kept i u low high p)

    direct_change : (j u : ℕ) → 1 ≤ j → j ≤ n → u < most_blocks → Dec (j ≡ i) → Change (kth_by (long j) after n j u) (kth_by (long j) m n j u)
    direct_change j u p q r (yes e) = subst (λ (v : ℕ). Change (kth_by (long v) after n v u) (kth_by (long v) m n v u)) (sym e) (direct_mine u r (ℕ_discrete u k) (ℕ_discrete k address_place) (dec_lt u address_count))
    direct_change j u p q r (no e) = inl (put_kth_others long wrote n i k c place j u p q e r ∙ kept j u p q r)

  -- ---- an address in its address block, which may be another's too
  module _ (l : address_count ≤ k) where
    abbrev a : ℕ
    a = address_block wrote n i

    same_block : a ≡ address_block m n i
    same_block = within.direct (address_index i 11) (omega arith)

    some : 1 ≤ a
    some = let e = same_block in let w = (behind l).1.0 in omega arith

    entered : after ≡ put_in_block wrote n a (2 * (k - address_count)) (to_bytes 2 c)
    unfolding put_kth
    entered = rw (le-ltb k address_count l)

    inside : Within wrote after n a
    inside = rw entered (further_within wrote n a (k - address_count) c some (omega arith))

    -- the addresses of the inodes' own twelve stay
    pub further_direct : (x : ℕ) → x < address_count * n → address_of after n x ≡ address_of m n x
    further_direct x p = inside.direct x p ∙ within.direct x p

    entry_new : further_of after n a (k - address_count) ≡ c
    entry_new =
        let e = same_block in
        let w = (behind l).1.1 in
        let z = within.long in
        ap (λ (t : List ℕ). further_of t n a (k - 12)) entered ∙ further_put wrote n a (k - address_count) c some (omega arith) (omega arith)

    entry_else : (u : ℕ) → u ≢ k - address_count → further_of after n a u ≡ further_of wrote n a u
    entry_else u q = ap (λ (t : List ℕ). further_of t n a u) entered ∙ further_else wrote n a (k - address_count) c some (omega arith) u q

    -- further address u - 12 of an inode whose address block is x
    entry : (x u : ℕ) → u < most_blocks → address_count ≤ u → Dec (x ≡ a) → Dec (u ≡ k) → (further_of after n x (u - address_count) ≡ further_of wrote n x (u - address_count)) ⊎ ((further_of after n x (u - address_count) ≡ c) × (further_of wrote n x (u - address_count) ≡ further_of wrote n a (k - address_count)))
    entry x u p q (yes e) (yes r) = rw (e, r) (inr (entry_new, refl))
    entry x u p q (yes e) (no r) = rw e (inl (entry_else (u - 12) (λ z. r (omega arith))))
    entry x u p q (no e) _ = inl (further_same wrote after n x (u - 12) (λ z. inside.others x (omega arith) e) (omega arith))

    was : further_of wrote n a (k - address_count) ≡ old
    was = sym (kth_further (long i) wrote n i k (behind l).0 l) ∙ kept i k low high few

    further_change : (j u : ℕ) → 1 ≤ j → j ≤ n → u < most_blocks → Dec (u < address_count) → (x : Bool) → long j ≡ x → Change (kth_by (long j) after n j u) (kth_by (long j) wrote n j u)
    further_change j u p q r (yes v) x e = inl (kth_direct (long j) after n j u v ∙ inside.direct (address_index j u) (omega arith) ∙ sym (kth_direct (long j) wrote n j u v))
    further_change j u p q r (no v) false e = inl (kth_none (long j) after n j u e (omega arith) ∙ sym (kth_none (long j) wrote n j u e (omega arith)))
    further_change j u p q r (no v) true e = go (entry (address_block wrote n j) u r (omega arith) (ℕ_discrete (address_block wrote n j) a) (ℕ_discrete u k))
      where
        now : kth_by (long j) after n j u ≡ further_of after n (address_block wrote n j) (u - address_count)
        now = kth_further (long j) after n j u e (omega arith) ∙ ap (λ (y : ℕ). further_of after n y (u - 12)) (inside.direct (address_index j 11) (omega arith))

        then : further_of wrote n (address_block wrote n j) (u - address_count) ≡ kth_by (long j) wrote n j u
        then = sym (kth_further (long j) wrote n j u e (omega arith))

        go : (further_of after n (address_block wrote n j) (u - address_count) ≡ further_of wrote n (address_block wrote n j) (u - address_count))
            ⊎ ((further_of after n (address_block wrote n j) (u - address_count) ≡ c) × (further_of wrote n (address_block wrote n j) (u - address_count) ≡ further_of wrote n a (k - address_count)))
            → Change (kth_by (long j) after n j u) (kth_by (long j) wrote n j u)
        go (inl y) = inl (now ∙ y ∙ then)
        go (inr y) = inr (inl (now ∙ y.0, sym then ∙ y.1 ∙ was))

    further_new : kth_by (long i) after n i k ≡ c
    further_new = kth_further (long i) after n i k (behind l).0 l ∙ ap (λ (y : ℕ). further_of after n y (k - 12)) (inside.direct (address_index i 11) (omega arith)) ∙ entry_new

  -- ---- both
  pub row_new : kth_by (long i) after n i k ≡ c
  row_new = go (dec_lt k address_count)
    where
      go : Dec (k < address_count) → kth_by (long i) after n i k ≡ c
      go (yes l) = direct_new l
      go (no l) = further_new (omega arith)

  pub row_change : (j u : ℕ) → 1 ≤ j → j ≤ n → u < most_blocks → Change (kth_by (long j) after n j u) (kth_by (long j) m n j u)
  row_change j u p q r = go (dec_lt k address_count)
    where
      go : Dec (k < address_count) → Change (kth_by (long j) after n j u) (kth_by (long j) m n j u)
      go (yes l) = direct_change l j u p q r (ℕ_discrete j i)
      go (no l) = subst (λ (y : ℕ). Change (kth_by (long j) after n j u) y) (kept j u p q r) (further_change (omega arith) j u p q r (dec_lt u address_count) (long j) refl)

-- ---- 4: the attributes of inode l become the store's: it is long by its size now, as it was by the store's
module _ (s m : List ℕ) (n l : ℕ) (fits : InodeFits m n l) where
  abbrev closed : List ℕ
  closed = put_attributes m l (with_links (inode_of s n l) 0)

  pub in_inode : InInode m closed n l
  in_inode = put_attributes_lem m n l fits (with_links (inode_of s n l) 0)

  pub new_inode_lem : NewInode closed l (with_links (inode_of s n l) 0)
  new_inode_lem = attributes_new m n l fits (with_links (inode_of s n l) 0)

  pub new_kind : kind_of closed l ≡ kind_of s l
  new_kind = new_inode_lem.kind ∙ (unfold inode_of in refl)

  pub new_size : size_of closed l ≡ size_of s l
  new_size = new_inode_lem.size ∙ (unfold inode_of in refl)

  pub long_after : (i : ℕ) → 1 ≤ i → i ≤ n → is_long closed i ≡ long_but m l (is_long s l) i
  long_after i o q = elim (ℕ_discrete i l) as (λ _. is_long closed i ≡ long_but m l (is_long s l) i) [
    | yes e ↦ ap (is_long closed) e ∙ same_long s closed l new_kind new_size ∙ sym (but_here m l (is_long s l) i e)
    | no e ↦ let g = in_inode.others i o q e in same_long m closed i g.kind g.size ∙ sym (but_else m l (is_long s l) i e)
  ]

  kth_after : (i : ℕ) → 1 ≤ i → i ≤ n → (k : ℕ) → k < most_blocks → kth_by (long_but m l (is_long s l) i) closed n i k ≡ kth_by (long_but m l (is_long s l) i) m n i k
  kth_after i o q k a =
      each_else (λ i. 1 ≤ i → i ≤ n → kth_by (long_but m l (is_long s l) i) closed n i k ≡ kth_by (long_but m l (is_long s l) i) m n i k) l i
      (λ _ _. attributes_blocks m n l fits (with_links (inode_of s n l) 0) (long_but m l (is_long s l) l) k a)
      (λ z x y.
      ap (λ (w : Bool). kth_by w closed n i k) (sym (long_after i x y)) ∙ (in_inode.others i x y z).blocks k a
      ∙ ap (λ (w : Bool). kth_by w m n i k) (sym (but_else m l (is_long s l) i z))) o q

  pub same_blocks : (i : ℕ) → 1 ≤ i → i ≤ n → (k : ℕ) → k < most_blocks → kth_block closed n i k ≡ kth_by (long_but m l (is_long s l) i) m n i k
  same_blocks i o q k a = ap (λ (w : Bool). kth_by w closed n i k) (long_after i o q) ∙ kth_after i o q k a

  -- with nothing locked any more the row is what it was
  pub close_row : (none : ℕ) (told : Bool) → none ≡ 0 → (x : ℕ) → x < most_blocks * n → row_by (long_but closed none told) closed n x ≡ row_by (long_but m l (is_long s l)) m n x
  unfolding row_by
  close_row none told e x q =
      ap (λ (w : Bool). kth_by w closed n (x / 44 + 1) (x % 44)) (but_else closed none told (x / 44 + 1) (λ y. omega arith))
      ∙ same_blocks (x / 44 + 1) (omega arith) (omega arith) (x % 44) (omega arith)
