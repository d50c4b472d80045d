use Rattle.std.proofs.Common.{not, sym, ap, ◌∙◌, eq-eqb, arith}
use Rattle.bounded.proofs.BoolLaws.{clash}
use Rattle.blocks.specs.Free.{long_but}
use Rattle.transfer.proofs.NamedLaws.{block_reached, behind_bare, behind_short, behind_counted}
use Rattle.transfer.proofs.named_behind.Goals as goal
use Rattle.transfer.proofs.named_behind.Goals.{then-a-ne0, else-a-ne0}

pub times_further-requires : goal.times_further-requires
times_further-requires c =
    let a = c.args in
    let p = c.requires in
    elim c.if-a-ne0.branch [
      | then-a-ne0 w ↦
          block_reached (long_but a.m.now a.l a.long) a.m.now a.n p.0 a.i p.1 p.2 _ c.kth_block-a.ensures (omega arith) (sym w.long_but.ensures ∙ sym w.value-is ∙ c.if-long_but.true)
      | else-a-ne0 w ↦ absurd (clash c.if-a-ne0.value c.if-long_but.true (w.value-is ∙ ap not (eq-eqb _ 0 w.if-a-ne0.false)))
    ]

pub returns-then-long_but : goal.returns-then-long_but
returns-then-long_but c =
    let a = c.args in
    let p = c.requires in
    elim c.if-a-ne0.branch [
      | then-a-ne0 w ↦
          behind_counted (long_but a.m.now a.l a.long) a.m.now a.n p.0 a.i p.1 p.2 _ c.kth_block-a.ensures a.c p.3 _ (sym w.long_but.ensures ∙ sym w.value-is ∙ c.if-long_but.true) c.times_further.ensures
      | else-a-ne0 w ↦ absurd (clash c.if-a-ne0.value c.if-long_but.true (w.value-is ∙ ap not (eq-eqb _ 0 w.if-a-ne0.false)))
    ]

pub returns-else-long_but : goal.returns-else-long_but
returns-else-long_but c =
    let a = c.args in
    let p = c.requires in
    c.if-long_but.false ∙ elim c.if-a-ne0.branch [
      | then-a-ne0 w ↦ behind_short (long_but a.m.now a.l a.long) a.m.now a.n p.0 a.i p.1 p.2 _ c.kth_block-a.ensures a.c p.3 (sym w.long_but.ensures ∙ sym w.value-is ∙ c.if-long_but.false)
      | else-a-ne0 w ↦ behind_bare (long_but a.m.now a.l a.long) a.m.now a.n p.0 a.i p.1 p.2 _ c.kth_block-a.ensures a.c p.3 (omega (arith, w.if-a-ne0.false))
    ]
