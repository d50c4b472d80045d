-- What 16 and a finish leave in the desk, byte by byte.
use Prim.Native.Nat.{ℕ, ◌+◌, ◌≤◌}
use mathlib.Core.Path.{◌≡◌, refl, ap, ◌∙◌}
use mathlib.Core.List.{List}
use native.Mathlib.Omega.{arith}
use native.Mathlib.Decide.{dec_lt}
use lib.ListN.{length, get_or}
use Rattle.octets.specs.Octets.{Octets, Apart, num_at, put_num}
use Rattle.octets.proofs.NumLaws.{length_num, put_byte, keep_byte}
use Rattle.desk.specs.declared.Desk.{Desk}
use Rattle.desk.specs.Sizes.{finished, stopped, desk_header_bytes}
use Rattle.desk.specs.Desk.{desk_of, put_desk}
use Rattle.desk.specs.Next.{finishing, stopping}
use Rattle.desk.proofs.DeskLaws.{length_put_desk, desk_put_desk}
use Rattle.checkpoint.specs.Live.{World, world}
use Rattle.checkpoint.specs.Progress.{Stopped}

pub stop_bytes : (d : List ℕ) → Octets d → desk_header_bytes ≤ length d → (x : ℕ) → (x ≡ 4 → ⊥) → (6 ≤ x → x ≤ 9 → ⊥) → get_or (put_desk d (stopping (desk_of d))) x 0 ≡ get_or d x 0
unfolding put_desk desk_of
stop_bytes d h l x a b =
    let s1 = put_num 2 d 0 (num_at 2 d 0) in
    let l1 = length_num 2 d 0 (num_at 2 d 0) in
    let s2 = put_num 2 s1 2 (num_at 2 d 2) in
    let l2 = length_num 2 s1 2 (num_at 2 d 2) in
    let s3 = put_num 1 s2 4 stopped in
    let l3 = length_num 1 s2 4 stopped in
    let s4 = put_num 2 s3 6 0 in
    let l4 = length_num 2 s3 6 0 in
    let s5 = put_num 2 s4 8 0 in
    let l5 = length_num 2 s4 8 0 in
    let e1 = keep_byte 2 d d 0 x h (omega arith) refl in
    let e2 = keep_byte 2 s1 d 2 x h (omega arith) e1 in
    let e3 = put_byte 1 s2 4 stopped x (omega arith) ∙ e2 in
    let e4 = put_byte 2 s3 6 0 x (outside 6 (omega arith) (omega arith)) ∙ e3 in
    let e5 = put_byte 2 s4 8 0 x (outside 8 (omega arith) (omega arith)) ∙ e4 in
    keep_byte 4 s5 d 12 x h (omega arith) e5
  where
    outside : (o : ℕ) → 6 ≤ o → o ≤ 8 → Apart x 1 o 2
    outside o l m = elim (dec_lt x 6) [ yes c ↦ omega arith | no c ↦ elim (dec_lt 9 x) [ yes f ↦ omega arith | no f ↦ absurd (b (omega arith) (omega arith)) ] ]

-- what 16 leaves of a world
pub stop_leaves : (w : World) → desk_header_bytes ≤ length w.desk → Stopped w (world w.store w.image (put_desk w.desk (stopping (desk_of w.desk))))
stop_leaves w l =
    let k = desk_put_desk w.desk (stopping (desk_of w.desk)) l in
    record {
      store = refl;
      image = refl;
      state = ap (λ (x : Desk). x.state) k;
      locked = ap (λ (x : Desk). x.locked) k;
      transferred = ap (λ (x : Desk). x.transferred) k;
      long = length_put_desk w.desk (stopping (desk_of w.desk));
      rest = λ o x p q. stop_bytes w.desk o l x p q;
    }

pub finish_bytes : (d : List ℕ) → Octets d → desk_header_bytes ≤ length d → (x : ℕ) → (x ≡ 4 → ⊥) → (12 ≤ x → x ≤ 15 → ⊥) → get_or (put_desk d (finishing (desk_of d))) x 0 ≡ get_or d x 0
unfolding put_desk desk_of
finish_bytes d h l x a b =
    let s1 = put_num 2 d 0 (num_at 2 d 0) in
    let l1 = length_num 2 d 0 (num_at 2 d 0) in
    let s2 = put_num 2 s1 2 (num_at 2 d 2) in
    let l2 = length_num 2 s1 2 (num_at 2 d 2) in
    let s3 = put_num 1 s2 4 finished in
    let l3 = length_num 1 s2 4 finished in
    let s4 = put_num 2 s3 6 (num_at 2 d 6) in
    let l4 = length_num 2 s3 6 (num_at 2 d 6) in
    let s5 = put_num 2 s4 8 (num_at 2 d 8) in
    let e1 = keep_byte 2 d d 0 x h (omega arith) refl in
    let e2 = keep_byte 2 s1 d 2 x h (omega arith) e1 in
    let e3 = put_byte 1 s2 4 finished x (omega arith) ∙ e2 in
    let e4 = keep_byte 2 s3 d 6 x h (omega arith) e3 in
    let e5 = keep_byte 2 s4 d 8 x h (omega arith) e4 in
    put_byte 4 s5 12 (num_at 4 d 12 + 1) x outside ∙ e5
  where
    outside : Apart x 1 12 4
    outside = elim (dec_lt x 12) [ yes c ↦ omega arith | no c ↦ elim (dec_lt 15 x) [ yes f ↦ omega arith | no f ↦ absurd (b (omega arith) (omega arith)) ] ]
