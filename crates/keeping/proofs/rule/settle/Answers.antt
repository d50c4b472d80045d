use Prim.Native.Nat.{ℕ, ◌+◌, ◌≤◌}
use mathlib.Core.Path.{◌≡◌, sym, ap, ap₂, subst, ◌∙◌}
use mathlib.Core.List.{List}
use native.Mathlib.Nat.{le_refl}
use native.Mathlib.Omega.{arith}
use lib.ListN.{length, get_or, set}
use Rattle.bounded.specs.Count.{one, count}
use Rattle.bounded.proofs.CountLaws.{one_le, count_zero, count_step, count_le}
use Rattle.octets.specs.Octets.{splice}
use Rattle.octets.proofs.PartLaws.{length_splice}
use Rattle.keeping.specs.Days.{copy_test, settled, settled_flags}
use Rattle.keeping.proofs.LoopLaws.{byte_one, front_none, front_more, front_rest}
use Rattle.keeping.proofs.rule.settle.Goals as goal

pub loop-i-init : goal.loop-i-init
loop-i-init c = (omega arith, count_zero _, front_none _ _)

pub bounds-out-i : goal.bounds-out-i
bounds-out-i c =
    let e = ap length c.loop-i.invariant.2 ∙ length_splice _ 0 _ in
    let h = c.requires.room in
    omega arith

pub copy_keeps-keeps-requires : goal.copy_keeps-keeps-requires
copy_keeps-keeps-requires c =
    let h = c.requires.copies_fit c.loop-i.i (omega arith) in
    let e = c.from.ensures in
    record { terms_fit = c.requires.terms_fit; few_terms = c.requires.few_terms; fits = omega arith }

pub bounds-out-i-in-loop-i : goal.bounds-out-i-in-loop-i
bounds-out-i-in-loop-i c =
    let e = ap length c.loop-i.invariant.2 ∙ length_splice _ 0 _ in
    let h = c.requires.room in
    omega arith

pub overflow_add-kept : goal.overflow_add-kept
overflow_add-kept c =
    let i = c.loop-i in
    let e = c.from-kept.ensures ∙ byte_one _ in
    let h = one_le c.copy_keeps-keeps.result in
    let k : i.kept ≤ i.i = subst (λ (x : ℕ). x ≤ i.i) (sym i.invariant.1) (count_le _ i.i) in
    omega arith

pub loop-i-preserved : goal.loop-i-preserved
loop-i-preserved c =
    let a = c.args in
    let i = c.loop-i in
    let f = settled a.days.now a.terms.now a.today a.map.now a.latest.now a.out.now in
    let same = ap (λ (l : List ℕ). get_or l i.i 0) i.invariant.2 ∙ front_rest (λ j. one (f j)) a.out.now i.i i.i (le_refl i.i) in
    let found =
    c.copy_keeps-keeps.ensures
    ∙ ap (λ (x : ℕ). copy_test x a.map.now a.terms.now a.latest.now a.today c.from.result) same
    ∙ ap (copy_test (get_or a.out.now i.i 0) a.map.now a.terms.now a.latest.now a.today) c.from.ensures in
    let e = c.from-in-loop-i.ensures ∙ byte_one _ ∙ ap one found in
    let k = c.from-kept.ensures ∙ byte_one _ ∙ ap one found in (
      omega arith,
      ap₂ ◌+◌ i.invariant.1 k ∙ sym (count_step f i.i),
      ap (λ (l : List ℕ). set l i.i c.from-in-loop-i.result) i.invariant.2 ∙ front_more (λ j. one (f j)) a.out.now i.i c.from-in-loop-i.result e,
    )

pub shape_of-out : goal.shape_of-out
shape_of-out c = ap length c.loop-i.invariant.2 ∙ length_splice _ 0 _

pub returns : goal.returns
returns c =
    let a = c.args in
    let i = c.loop-i in
    let e : i.i ≡ length a.days.now = omega arith in record { value = i.invariant.1 ∙ ap (count (settled a.days.now a.terms.now a.today a.map.now a.latest.now a.out.now)) e; out_after = i.invariant.2 ∙ ap (λ (n : ℕ). splice a.out.now 0 (settled_flags a.days.now a.terms.now a.today a.map.now a.latest.now a.out.now n)) e }
