-- The checksum as a fold over the bytes.
use Rattle.std.proofs.Common.{◌≡◌, ℕ, suc, ◌+◌, ◌<◌, List, [], ◌∷◌, length, drop, get_or, length-drop, refl, sym, ap, ◌∙◌, add-zero, zero-add, arith}
use Rattle.std.proofs.Math.Seq.{drop-cons}
use Rattle.std.specs.List.{fold}
use Rattle.checksum.specs.Checksum.{basis, mixed, sum_to, checksum}

-- from byte k on
fold_from : (s : List ℕ) (k : ℕ) (r : List ℕ) → drop k s ≡ r → fold mixed (sum_to s k) r ≡ sum_to s (k + length r)
unfolding sum_to
fold_from s k [] e = sym (ap (sum_to s) (add-zero k))
fold_from s k (x ∷ r) e =
    let l : k < length s = omega (arith, simp length-drop at (ap length e)) in
    let q : get_or s k 0 ∷ drop (suc k) s ≡ x ∷ r = sym (drop-cons s k 0 l) ∙ e in
    let h : get_or s k 0 ≡ x = cc in
    let d : drop (suc k) s ≡ r = cc in
    let n : suc k + length r ≡ k + suc (length r) = omega arith in
    ap (λ (y : ℕ). fold mixed (mixed (sum_to s k) y) r) (sym h) ∙ fold_from s (suc k) r d ∙ ap (sum_to s) n

pub fold-checksum : (s : List ℕ) → fold mixed basis s ≡ checksum s
unfolding sum_to checksum
fold-checksum s = fold_from s 0 s refl ∙ ap (sum_to s) (zero-add (length s))
