use Prim.Native.Nat.{ℕ}
use mathlib.Core.Path.{◌≡◌, subst}
use native.Mathlib.Omega.{arith}
use Rattle.bounded.proofs.TableLaws.{filled_none, filled_more}
use Rattle.keeping.specs.Keeping.{term_count, last_day}
use Rattle.keeping.specs.Call.{most_terms}
use Rattle.keeping.specs.Days.{latest_by, Latest}
use Rattle.keeping.proofs.rule.latest_days.Goals as goal

pub loop-t-init : goal.loop-t-init
loop-t-init c = (omega arith, filled_none _ most_terms _ c.requires.1)

pub loop-t-preserved : goal.loop-t-preserved
loop-t-preserved c =
    let a = c.args in
    let i = c.loop-t in
    (omega arith, filled_more (λ t. latest_by a.days.now (last_day a.terms.now t)) most_terms i.t _ i.latest (omega arith) c.latest_by.ensures i.invariant.1)

pub returns : goal.returns
returns c =
    let a = c.args in
    let e : c.loop-t.t ≡ term_count a.terms.now = omega arith in
    subst (λ (k : ℕ). Latest a.days.now a.terms.now k c.loop-t.latest) e c.loop-t.invariant.1
