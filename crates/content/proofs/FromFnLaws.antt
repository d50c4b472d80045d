-- An array that is made place by place is the list of a function's values.
use Rattle.std.proofs.Common.{◌≡◌, ℕ, zero, suc, ◌+◌, ◌<◌, ◌≤◌, List, get_or, refl, sym, ap, ◌∙◌, subst, arith}
use native.Mathlib.Decide.{ℕ_discrete}
use lib.Seq.{ext_get_or}
use denote.Param.Members.{Mut}
use Rattle.std.specs.Fn.{Called}
use Rattle.std.specs.Array.{IsFromFnResult, IsFromFnResultFrom}
use Rattle.bounded.specs.Table.{table}
use Rattle.bounded.proofs.TableLaws.{length_table, get_or_table}

-- the closure f answers h, and changes nothing
module _ {F : Type 0} {g : Mut F (ℕ × Unit {0}) ℕ} (h : ℕ → ℕ) (n : ℕ) (f : F) (ys : List ℕ) (each : (i r : ℕ) (q : F) → Called g f (i, tt) r q → (q ≡ f) × (i < n → r ≡ h i)) where
  made : (m i : ℕ) (p : F) → i + m ≡ n → p ≡ f → IsFromFnResultFrom g p ys i m → (k : ℕ) → i ≤ k → k < n → get_or ys k 0 ≡ h k
  made zero i p e q x k l u = absurd (omega arith)
  made (suc m) i p e q x k l u =
      let w = each i x.1 x.0 (subst (λ (o : F). Called g o (i, tt) x.1 x.0) q x.3) in
      let b : x.1 ≡ h i = w.1 (omega arith) in
      elim (ℕ_discrete k i) [
        | yes v ↦ ap (λ (j : ℕ). get_or ys j 0) v ∙ x.2.1 0 ∙ b ∙ ap h (sym v)
        | no v ↦ made m (i + 1) x.0 (omega arith) w.0 x.4 k (omega arith) u
      ]

  pub from_fn_table : IsFromFnResult g f ys n → ys ≡ table h n
  from_fn_table r =
      ext_get_or 0 ys (table h n) (r.long ∙ sym (length_table h n))
      (λ k l. let w = r.long in made n 0 f (omega arith) refl r.each k (omega arith) (omega arith) ∙ sym (get_or_table h n k (omega arith)))
