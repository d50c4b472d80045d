use mathlib.Core.Path.{sym, ◌∙◌}
use native.Mathlib.Omega.{arith}
use Rattle.preservation.proofs.StoreLaws.{kind_fits, kind_size}
use Rattle.ledger.proofs.BytesLaws.{used_up}
use Rattle.content.proofs.SizePlanLaws.{write_done}
use Rattle.content.proofs.plan.write_plan.Goals as goal

pub size-requires : goal.size-requires
size-requires c = kind_fits c.requires _ _ (sym c.is_kind.ensures ∙ c.if-not-is_kind.false)

pub overflow_sub-o : goal.overflow_sub-o
overflow_sub-o c =
    let w = kind_size c.requires _ _ (sym c.is_kind.ensures ∙ c.if-not-is_kind.false) in
    omega (arith, c.from-size.ensures, c.size.ensures)

pub overflow_sub-blocks_used : goal.overflow_sub-blocks_used
overflow_sub-blocks_used c =
    let m = used_up c.from-size.result c.max-end.result (omega (arith, c.max-end.ensures)) in
    omega (arith, c.blocks_used.ensures, c.blocks_used-2.ensures)

pub returns : goal.returns
returns c =
    let f = sym c.is_kind.ensures ∙ c.if-not-is_kind.false in
    let w = kind_size c.requires _ _ f in
    write_done _ _ _ _ _ _ f (c.from-size.ensures ∙ c.size.ensures)
    _ _ _ _ c.if-size-o.false c.if-o-k.false (omega (arith, c.from-size.ensures, c.size.ensures)) c.max-end.ensures
    c.blocks_used.ensures c.blocks_used-2.ensures c.read.ensures (omega (arith, c.from.ensures))
