-- Laws of isKind: what the code has read of a number that may be no inode, and what an inode of the kind has.
use Prim.Native.Nat.{ℕ, ◌≤◌, ◌<◌}
use mathlib.Core.Path.{◌≡◌, refl, sym, ap, ◌∙◌}
use mathlib.Core.Bool.{true, false, ◌&&◌}
use mathlib.Core.List.{List}
use borrow.Author.Tests.{eq-eqb, leb-true, eqb-true, le-leb, lt-leb}
use lib.Dec.{eqb, leb}
use Rattle.bounded.proofs.BoolLaws.{and_false_l, and_left, and_right, chain_end}
use Rattle.layout.specs.Inode.{kind_of, is_kind}

module _ (s : List ℕ) (n k i : ℕ) where
  pub kind_low : i < 1 → false ≡ is_kind s n k i
  unfolding is_kind
  kind_low h = sym (and_false_l _ _ (lt-leb 1 i h))

  pub kind_high : 1 ≤ i → n < i → false ≡ is_kind s n k i
  unfolding is_kind
  kind_high l h = chain_end _ _ _ (le-leb 1 i l) (sym (and_false_l _ _ (lt-leb i n h)))

  pub kind_read : (x : ℕ) → 1 ≤ i → i ≤ n → x ≡ kind_of s i → eqb x k ≡ is_kind s n k i
  unfolding is_kind
  kind_read x l h q = chain_end _ _ _ (le-leb 1 i l) (chain_end _ _ _ (le-leb i n h) (ap (λ (y : ℕ). eqb y k) q))

  pub kind_of_lem : 1 ≤ i → i ≤ n → kind_of s i ≡ k → is_kind s n k i ≡ true
  kind_of_lem l h q = sym (kind_read (kind_of s i) l h refl) ∙ eq-eqb (kind_of s i) k q

  module _ (t : is_kind s n k i ≡ true) where
    pub kind_some : 1 ≤ i
    unfolding is_kind
    kind_some = leb-true 1 i (and_left (leb 1 i) (leb i n && eqb (kind_of s i) k) t)

    pub kind_most : i ≤ n
    unfolding is_kind
    kind_most = leb-true i n (and_left (leb i n) (eqb (kind_of s i) k) (and_right (leb 1 i) (leb i n && eqb (kind_of s i) k) t))

    pub kind_is : kind_of s i ≡ k
    unfolding is_kind
    kind_is = eqb-true (kind_of s i) k (and_right (leb i n) (eqb (kind_of s i) k) (and_right (leb 1 i) (leb i n && eqb (kind_of s i) k) t))
