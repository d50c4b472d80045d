use Rattle.std.proofs.Common.{◌≤◌, refl, sym, ◌∙◌, eqb-true, arith}
use borrow.Author.Tests.{not-true, not-false}
use Rattle.std.proofs.lemmas.Grind.{common_steps}
use Rattle.bounded.proofs.BoolLaws.{clash}
use Rattle.blocks.specs.Free.{long_but}
use Rattle.transfer.proofs.NamedLaws.{own_further}
use Rattle.transfer.proofs.is_unnamed.Goals as goal
use Rattle.transfer.proofs.is_unnamed.Goals.{then-contains, else-contains}

pub returns-then-not-named_direct : goal.returns-then-not-named_direct
returns-then-not-named_direct c =
    let a = c.args in
    elim c.if-contains.branch [
      | then-contains w ↦
          let low : 1 ≤ a.c = grind (arith, common_steps) in
          let high : a.c ≤ a.b = grind (arith, common_steps) in
          own_further (long_but a.m.now a.l a.long) a.m.now a.n a.c a.b low high _ refl (eqb-true _ _ (not-false _ (sym w.named_direct.ensures ∙ not-true _ (sym w.value-is ∙ c.if-not-named_direct.true)))) _ c.named_further.ensures
      | else-contains w ↦ absurd (clash c.if-contains.value c.if-not-named_direct.true (w.value-is ∙ w.if-contains.false))
    ]
