use mathlib.Core.Path.{◌≡◌, refl, sym, ◌∙◌}
use native.Mathlib.Omega.{arith}
use Rattle.dealer.specs.Places.{running}
use Rattle.dealer.proofs.TurnLaws.{allowed_is, in_circle, refused_turn, dealt_turn, idle_last, idle_counts}
use Rattle.dealer.proofs.deal.Goals as goal

pub returns-then-not-allowed : goal.returns-then-not-allowed
returns-then-not-allowed c =
    let a = c.args in
    refused_turn a.flags a.steps a.last (sym c.allowed.ensures ∙ c.if-not-allowed.true)

pub returns-then-n-eq0 : goal.returns-then-n-eq0
returns-then-n-eq0 c =
    let a = c.args in
    let e = sym c.allowed.ensures ∙ c.if-not-allowed.false in
    let b = (allowed_is a.steps a.last e).bay in
    let z : running a.flags a.last 16 ≡ 0 = sym (c.running_count-n.ensures ∙ in_circle a.flags a.last b) ∙ c.if-n-eq0.true in
    dealt_turn a.flags a.steps a.last _ _ e (idle_last a.flags a.last b z a.steps) (sym (idle_counts a.flags a.last b z a.steps))

pub parted-requires : goal.parted-requires
parted-requires c =
    let a = c.args in
    let w = allowed_is a.steps a.last (sym c.allowed.ensures ∙ c.if-not-allowed.false) in
    (w, omega (arith, c.if-n-eq0.false), c.running_count-n.ensures ∙ in_circle a.flags a.last w.bay)

pub returns : goal.returns
returns c =
    let a = c.args in
    let e = sym c.allowed.ensures ∙ c.if-not-allowed.false in
    c.parted.ensures ∙ dealt_turn a.flags a.steps a.last _ _ e refl refl
