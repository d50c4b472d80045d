-- Laws of the flags that a mask holds, bit by bit.
use Prim.Native.Nat.{ℕ, zero, suc, ◌+◌, ◌<◌, ◌≤◌}
use mathlib.Core.Path.{◌≡◌, refl, sym, ap, ◌∙◌}
use mathlib.Core.Bool.{Bool, false}
use mathlib.Core.List.{List}
use native.Mathlib.Decide.{ℕ_discrete}
use native.Mathlib.Omega.{arith}
use lib.ListN.{length, get_or, set, replicate, length-replicate, length-set}
use lib.Seq.{ext_get_or, get_or-set_same, get_or-set_other}
use Rattle.marks.specs.Mark.{marked}
use Rattle.dealer.specs.Deal.{bays}
use Rattle.api.specs.Api.{flags_from, mask_flags}

flags_long : (mask b n : ℕ) → length (flags_from mask b n) ≡ n
unfolding flags_from
flags_long mask b zero = refl
flags_long mask b (suc n) = ap suc (flags_long mask (b + 1) n)

flag_at : (mask b n i : ℕ) → i < n → get_or (flags_from mask b n) i false ≡ marked mask (b + i)
unfolding flags_from
flag_at mask b zero i h = absurd (omega arith)
flag_at mask b (suc n) zero h = let e : b ≡ b + 0 = omega arith in ap (marked mask) e
flag_at mask b (suc n) (suc i) h = let e : b + 1 + i ≡ b + suc i = omega arith in flag_at mask (b + 1) n i (omega arith) ∙ ap (marked mask) e

-- the flags of the first k bays are read
pub record Taken (mask k : ℕ) (flags : List Bool) : Type 0 where
  pub long : length flags ≡ bays
  pub each : (i : ℕ) → i < k → get_or flags i false ≡ marked mask i

pub none_taken : (mask : ℕ) → Taken mask 0 (replicate bays false)
none_taken mask = record { long = length-replicate {A = Bool} bays false; each = λ i h. absurd (omega arith) }

pub one_taken : (mask k : ℕ) (flags : List Bool) (v : Bool) → k < bays → v ≡ marked mask k → Taken mask k flags → Taken mask (k + 1) (set flags k v)
one_taken mask k flags v hk e t = record {
  long = length-set flags k v ∙ t.long;
  each = λ i h. elim (ℕ_discrete i k) as (λ _. get_or (set flags k v) i false ≡ marked mask i) [
    | yes q ↦ rw q (get_or-set_same flags k v false (omega (arith, t.long)) ∙ e)
    | no q ↦ get_or-set_other flags _ _ v false q ∙ t.each i (omega arith)
  ];
}

pub all_taken : (mask k : ℕ) (flags : List Bool) → bays ≤ k → Taken mask k flags → flags ≡ mask_flags mask
all_taken mask k flags h t =
    ext_get_or false flags (mask_flags mask) (t.long ∙ sym (flags_long mask 0 bays))
    (λ i l.
    let e : i ≡ 0 + i = omega arith in
    t.each i (omega (arith, t.long)) ∙ ap (marked mask) e ∙ sym (flag_at mask 0 bays i (omega (arith, t.long))))
