use Rattle.std.proofs.Common.{sym, ap, ◌∙◌, arith, le-leb}
use Rattle.bounded.proofs.BoolLaws.{clash}
use Rattle.blocks.specs.Block.{blocks_used}
use Rattle.blocks.proofs.MapLaws.{map_as}
use Rattle.check_inodes.proofs.InodeLaws.{direct_stop, direct_then, direct_block, short_rest, short_passed, used_few, used_many}
use Rattle.check_inodes.proofs.addresses_right.Goals as goal

pub further_right-requires-clause-i_value : goal.further_right-requires-clause-i_value
further_right-requires-clause-i_value c =
    let p = c.requires in
    let f = used_many _ _ (c.blocks_used-used.ensures ∙ ap blocks_used c.size.ensures) (omega arith) in
    let r = direct_block _ _ _ _ (sym c.direct_right.ensures.0 ∙ c.if-direct_right.true) f in
    (p.2, f, r.0, r.1)

pub returns-then-used-le-ADDRESS_COUNT : goal.returns-then-used-le-ADDRESS_COUNT
returns-then-used-le-ADDRESS_COUNT c =
    let p = c.requires.1.low in
    let y = c.direct_right.ensures in
    let f = used_few _ _ (c.blocks_used-used.ensures ∙ ap blocks_used c.size.ensures) c.if-used-le-ADDRESS_COUNT.true in (
      direct_then _ _ _ _ (sym y.0 ∙ c.if-direct_right.true) _ (le-leb _ _ c.if-used-le-ADDRESS_COUNT.true ∙ short_rest _ _ _ _ p f),
      λ q. short_passed _ _ 0 _ p f _ (y.1 c.if-direct_right.true),
    )

pub returns-else-used-le-ADDRESS_COUNT : goal.returns-else-used-le-ADDRESS_COUNT
returns-else-used-le-ADDRESS_COUNT c =
    let y = c.further_right.ensures in
    (direct_then _ _ _ _ (sym c.direct_right.ensures.0 ∙ c.if-direct_right.true) _ y.0, λ q. map_as _ _ (omega (arith, c.requires.1.low)) (y.1 q))

pub returns-else-direct_right : goal.returns-else-direct_right
returns-else-direct_right c = (direct_stop _ _ _ _ _ c.direct_right.ensures.0 c.if-direct_right.false, λ t. absurd (clash _ t c.if-direct_right.false))
