use Prim.Native.Nat.{◌+◌, ◌*◌}
use mathlib.Core.Path.{◌≡◌, refl, sym, ap, ◌∙◌}
use native.Mathlib.Omega.{arith}
use Rattle.bounded.proofs.BelowLaws.{all_none, all_more, all_stopped, all_done}
use Rattle.keeping.specs.Keeping.{term_count}
use Rattle.keeping.proofs.TermLaws.{free_from, neat, free_next, neat_tells, not_free, not_ended, is_neat}
use Rattle.keeping.proofs.dates.in_order.Goals as goal

pub loop-t-init : goal.loop-t-init
loop-t-init c = (omega arith, refl, all_none _)

pub returns-then-first-free : goal.returns-then-first-free
returns-then-first-free c =
    let l = c.args.terms.now in
    let i = c.loop-t in
    let e : free_from l i.t ≡ i.free = sym i.invariant.1 in
    let f = c.from-first.ensures in
    all_stopped (neat l) (term_count l) i.t (omega arith) (not_free l i.t (omega arith)) ∙ neat_tells l

pub returns-then-last-first : goal.returns-then-last-first
returns-then-last-first c =
    let l = c.args.terms.now in
    let i = c.loop-t in
    let f = c.from-first.ensures in
    let g = c.from-last.ensures in
    all_stopped (neat l) (term_count l) i.t (omega arith) (not_ended l i.t (omega arith)) ∙ neat_tells l

pub overflow_add-free : goal.overflow_add-free
overflow_add-free c = let g = c.from-last.ensures in let k = c.type_inv.terms (2 * c.loop-t.t + 1) in omega arith

pub loop-t-preserved : goal.loop-t-preserved
loop-t-preserved c =
    let l = c.args.terms.now in
    let i = c.loop-t in
    let e : free_from l i.t ≡ i.free = sym i.invariant.1 in
    let f = c.from-first.ensures in
    let g = c.from-last.ensures in
    (omega arith, ap (◌+ 1) g ∙ sym (free_next l i.t), all_more (neat l) i.t i.invariant.2 (is_neat l i.t (omega arith) (omega arith)))

pub returns : goal.returns
returns c =
    let l = c.args.terms.now in
    all_done (neat l) (term_count l) c.loop-t.t (omega arith) (omega arith) c.loop-t.invariant.2 ∙ neat_tells l
