use Rattle.std.proofs.Common.{◌+◌, ◌*◌, sym, ◌∙◌, arith}
use Rattle.blocks.specs.Map.{map_words}
use Rattle.check_inodes.proofs.InodeLaws.{blank_named, blank_tested}
use Rattle.check_inodes.proofs.block_blank.Goals as goal

pub returns-then-has_in : goal.returns-then-has_in
returns-then-has_in c =
    let p = c.requires in
    c.if-has_in.true ∙ sym (blank_named _ _ (map_words * c.args.row + c.args.k) _ p.1 (omega (arith, p.0.blocks, p.2)) (sym c.has_in.ensures ∙ c.if-has_in.true))

pub returns-else-has_in : goal.returns-else-has_in
returns-else-has_in c =
    let p = c.requires in
    c.all_zero.ensures
    ∙ blank_tested _ _ (map_words * c.args.row + c.args.k) _ p.1 (omega (arith, p.0.blocks, p.2)) _ (sym c.has_in.ensures ∙ c.if-has_in.false) c.block_at.ensures
