-- Up from a directory to the root, above which there is nothing: whether a directory of a sound store is another or below it. n is the inode count.
use Prim.Native.Nat.{ℕ, ◌+◌, ◌-◌, ◌≤◌, ◌<◌}
use mathlib.Core.Path.{◌≡◌, sym, ap, ◌∙◌, subst}
use mathlib.Core.Bool.{true, false}
use mathlib.Core.List.{List}
use native.Mathlib.Omega.{arith}
use lib.Dec.{eqb}
use Rattle.bounded.specs.Climb.{leads_b}
use Rattle.bounded.proofs.BoolLaws.{fails}
use Rattle.bounded.proofs.ClimbLaws.{leads_prop, leads_here, leads_turn, leads_end, leads_top}
use Rattle.layout.specs.Sizes.{root_inode}
use Rattle.layout.specs.Inode.{parent_of, is_directory}
use Rattle.sound.specs.Sound.{inodes_in}
use Rattle.sound.specs.Counted.{SoundStore}
use Rattle.sound.specs.Place.{IsDir}
use Rattle.sound.proofs.FactLaws.{naming_dir}
use Rattle.preservation.proofs.StoreLaws.{is_dir}

-- ---- above the root there is nothing
-- the root has no parent, and number 0 reads as it does
pub zero_parent : (s : List ℕ) → parent_of s root_inode ≡ 0 → parent_of s 0 ≡ 0
unfolding parent_of
zero_parent s r = r

-- ---- the climb from e, k steps up at the directory x
pub record Climbing (s : List ℕ) (n i e k x : ℕ) : Type 0 where
  pub few : k ≤ n
  pub dir : IsDir s n x
  pub left : leads_b (parent_of s) i n e ≡ leads_b (parent_of s) i (n - k) x

module _ (s : List ℕ) (n i e : ℕ) {b : ℕ} (h : SoundStore s n b) where
  pub climbing_start : is_directory s n e ≡ true → Climbing s n i e 0 e
  climbing_start d =
      let z : n ≡ n - 0 = omega arith in
      record {
        few = omega arith;
        dir = is_dir s n e d;
        left = ap (λ (j : ℕ). leads_b (parent_of s) i j e) z;
      }

  module _ (k x : ℕ) (c : Climbing s n i e k x) where
    pub climbing_found : x ≡ i → true ≡ leads_b (parent_of s) i n e
    climbing_found f = sym (c.left ∙ leads_here (parent_of s) i (n - k) x f)

    pub climbing_root : 1 ≤ i → (x ≡ i → ⊥) → x ≡ root_inode → false ≡ leads_b (parent_of s) i n e
    climbing_root l f r =
        sym (c.left ∙ ap (leads_b (parent_of s) i (n - k)) r ∙ fails (leads_b (parent_of s) i (n - k) root_inode) (λ z. leads_top (parent_of s) i (zero_parent s h.sound.root_parent) root_inode h.sound.root_parent l (λ y. f (r ∙ y)) (leads_prop (parent_of s) i (n - k) root_inode z)))

    pub climbing_turn : k < n → (x ≡ i → ⊥) → (x ≡ root_inode → ⊥) → (y : ℕ) → y ≡ parent_of s x → Climbing s n i e (k + 1) y
    climbing_turn l f r y p =
        let m : n - k ≡ n - (k + 1) + 1 = omega arith in
        let q = h.inodes in
        let d : IsDir s (inodes_in s) x = subst (λ (z : ℕ). IsDir s z x) q c.dir in
        record {
          few = omega arith;
          dir = subst (λ (z : ℕ). IsDir s z y) (sym q) (subst (IsDir s (inodes_in s)) (sym p) (naming_dir h.sound x d r).1.above);
          left = c.left ∙ ap (λ (j : ℕ). leads_b (parent_of s) i j x) m ∙ leads_turn (parent_of s) i (n - (k + 1)) x f ∙ ap (leads_b (parent_of s) i (n - (k + 1))) (sym p);
        }

    pub climbing_end : n ≤ k → eqb x i ≡ leads_b (parent_of s) i n e
    climbing_end l =
        let z : n - k ≡ 0 = omega arith in
        sym (c.left ∙ ap (λ (j : ℕ). leads_b (parent_of s) i j x) z ∙ leads_end (parent_of s) i x)
