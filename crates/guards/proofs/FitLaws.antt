-- Each way that the tests of the desk, and of desk and image, return. s is the store, m the image, d the desk.
use Prim.Native.Nat.{ℕ, ◌+◌, ◌*◌, ◌≤◌, ◌<◌}
use mathlib.Core.Path.{◌≡◌, sym, ap, ◌∙◌}
use mathlib.Core.Bool.{Bool, true, false, ◌&&◌}
use mathlib.Core.List.{List}
use native.Mathlib.Omega.{arith}
use borrow.Author.Tests.{le-leb, eq-eqb, ne_eqb}
use lib.Dec.{eqb}
use lib.ListN.{length}
use Rattle.bounded.proofs.BoolLaws.{clash, and_false_l, chain_end}
use Rattle.bounded.proofs.ReflectLaws.{r_fails}
use Rattle.layout.specs.Sizes.{header_bytes, inode_bytes}
use Rattle.desk.specs.Sizes.{desk_header_bytes, running, stopped, desk_allowed}
use Rattle.desk.specs.declared.Desk.{Desk}
use Rattle.desk.specs.Desk.{desk_of, desk_rest_zero}
use Rattle.checkpoint.specs.Fit.{desk_framed, is_running, blocks_fit, desk_fits, image_fits}
use Rattle.checkpoint.proofs.Copy.FitLaws.{desk_framed_is, desk_fits_is}
use Rattle.guards.specs.Fit.{blocks_right, copied_right, counts_right, notes_right}

-- ---- the desk's frame
pub framed_short : (d : List ℕ) → length d < desk_header_bytes → false ≡ desk_framed d
framed_short d h = sym (r_fails (desk_framed_is d) (λ t. let l = t.1.1 in omega arith))

pub framed_read : (d : List ℕ) (h : Desk) → h ≡ desk_of d → (x : Bool) → x ≡ desk_allowed h.inodes (length d) → x ≡ desk_framed d
unfolding desk_framed
framed_read d h e x q = q ∙ ap (λ (y : Desk). desk_allowed y.inodes (length d)) e

-- ---- the desk: h is its header as the code has read it
module _ (d : List ℕ) (h : Desk) (e : h ≡ desk_of d) where
  pub fits_state : stopped < h.state → false ≡ desk_fits d
  fits_state l = sym (r_fails (desk_fits_is d) (λ t. let x = t.0 in let y = ap (λ (z : Desk). z.state) e in omega arith))

  blocks_are : blocks_right h ≡ blocks_fit d
  unfolding blocks_fit
  blocks_are = ap blocks_right e

  pub fits_blocks : blocks_right h ≡ false → false ≡ desk_fits d
  fits_blocks q = sym (r_fails (desk_fits_is d) (λ t. clash (blocks_fit d) t.1.0 (sym blocks_are ∙ q)))

  pub fits_reserved : desk_rest_zero d ≡ false → false ≡ desk_fits d
  fits_reserved q = sym (r_fails (desk_fits_is d) (λ t. clash (desk_rest_zero d) t.1.1.0 q))

  module _ (s : h.state ≤ stopped) (b : blocks_right h ≡ true) (r : desk_rest_zero d ≡ true) where
    pub fits_copied : copied_right d h.inodes ≡ false → false ≡ desk_fits d
    unfolding desk_fits
    fits_copied q =
        let y = ap (λ (z : Desk). z.state) e in
        chain_end _ _ _ (le-leb (desk_of d).state stopped (omega arith))
        (chain_end _ _ _ (sym blocks_are ∙ b)
        (chain_end _ _ _ r
        (sym (and_false_l _ _ (sym (ap (λ (z : Desk). copied_right d z.inodes) e) ∙ q)))))

    pub fits_counts : copied_right d h.inodes ≡ true → counts_right h ≡ desk_fits d
    unfolding desk_fits is_running
    fits_counts q =
        let y = ap (λ (z : Desk). z.state) e in
        chain_end _ _ _ (le-leb (desk_of d).state stopped (omega arith))
        (chain_end _ _ _ (sym blocks_are ∙ b)
        (chain_end _ _ _ r
        (chain_end _ _ _ (sym (ap (λ (z : Desk). copied_right d z.inodes) e) ∙ q) (ap counts_right e))))

-- ---- both, beside a store of n inodes
pub notes_area : (d : List ℕ) (h : Desk) → h ≡ desk_of d → (n k : ℕ) → h.inodes ≡ n → header_bytes + inode_bytes * n ≤ k → header_bytes + inode_bytes * (desk_of d).inodes ≤ k
notes_area d h e n k q l = let z = ap (λ (x : Desk). x.inodes) e in omega arith

module _ (n : ℕ) (s m d : List ℕ) where
  pub notes_desk : desk_fits d ≡ false → false ≡ notes_right n s m d
  notes_desk q = sym (and_false_l _ _ q)

  module _ (a : desk_fits d ≡ true) (h : Desk) (e : h ≡ desk_of d) where
    module _ (b : h.inodes ≡ n) where
      notes_on : (x rest : Bool) → x ≡ rest → x ≡ desk_fits d && (eqb (desk_of d).inodes n && rest)
      notes_on x rest q = chain_end _ _ _ a (chain_end _ _ _ (eq-eqb (desk_of d).inodes n (sym (ap (λ (z : Desk). z.inodes) e) ∙ b)) q)

      pub notes_idle : (h.state ≡ running → ⊥) → true ≡ notes_right n s m d
      unfolding is_running
      notes_idle x = notes_on _ _ (rw (ne_eqb (desk_of d).state running (λ z. x (ap (λ (y : Desk). y.state) e ∙ z))))

      pub notes_running : h.state ≡ running → image_fits s m d ≡ notes_right n s m d
      unfolding is_running
      notes_running x = notes_on _ _ (rw (eq-eqb (desk_of d).state running (sym (ap (λ (y : Desk). y.state) e) ∙ x)))
