use Prim.Native.Nat.{ℕ, ◌+◌, ◌*◌}
use mathlib.Core.Path.{◌≡◌, refl, ◌∙◌, ap}
use native.Mathlib.Omega.{arith}
use Rattle.octets.specs.Octets.{pasted}
use Rattle.octets.proofs.PartLaws.{copied_none}
use Rattle.octets.proofs.NumLaws.{length_num, num_copied}
use Rattle.octets.proofs.copy_words.Goals as goal

pub loop-j-init : goal.loop-j-init
loop-j-init c = (omega arith, refl, copied_none _ _ _ _)

pub loop-j-preserved : goal.loop-j-preserved
loop-j-preserved c =
    let i = c.loop-j in
    let a = c.args in
    let e : 8 * i.j + 8 ≡ 8 * (i.j + 1) = omega arith in
    let q : c.put_64.new.s ≡ pasted a.d.now a.o a.s.now a.p (8 * i.j + 8) =
    c.put_64.ensures
    ∙ rw (i.invariant.2, c.get_64.ensures) (num_copied 8 a.d.now a.o a.s.now a.p (8 * i.j) (λ k. (c.type_inv.s k).fits) (omega arith)) in
    (omega arith, rw (c.put_64.ensures, length_num) i.invariant.1, q ∙ ap (pasted a.d.now a.o a.s.now a.p) e)

pub returns : goal.returns
returns c = let i = c.loop-j in let a = c.args in let e : i.j ≡ a.m = omega arith in i.invariant.2 ∙ ap (λ (j : ℕ). pasted a.d.now a.o a.s.now a.p (8 * j)) e
