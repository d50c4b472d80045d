use Rattle.std.proofs.Common.{◌+◌, ◌*◌, ◌/◌, ◌%◌, sym, refl, ◌∙◌, arith, rules}
use Rattle.blocks.specs.Map.{map_words}
use Rattle.bounded.specs.Below.{all_below}
use Rattle.bounded.proofs.BoolLaws.{and_false_l, chain_end}
use Rattle.check_inodes.specs.Pass.{blank_if_free_b}
use Rattle.check_inodes.proofs.ChainLaws.{all_range}
use Rattle.check_inodes.proofs.InodeLaws.{rows_are}
use Rattle.check_inodes.proofs.blanks_right.Goals as goal

pub returns-then-all : goal.returns-then-all
returns-then-all c =
    let p = blank_if_free_b c.args.s.now c.args.n in
    let full = all_range (λ row. all_below (λ k. p (map_words * row + k + 1)) map_words) (c.args.b / map_words) _ _ _ _ refl c.all.ensures.ran (λ x b q k. (search rules, λ l. search rules)) in
    chain_end _ _ _ (sym full ∙ c.if-all.true) c.row_blank.ensures ∙ rows_are p (c.args.b / map_words) (c.args.b % map_words) c.args.b (omega arith)

pub returns-else-all : goal.returns-else-all
returns-else-all c =
    let p = blank_if_free_b c.args.s.now c.args.n in
    let full = all_range (λ row. all_below (λ k. p (map_words * row + k + 1)) map_words) (c.args.b / map_words) _ _ _ _ refl c.all.ensures.ran (λ x b q k. (search rules, λ l. search rules)) in
    c.if-all.false ∙ sym (and_false_l _ _ (sym full ∙ c.if-all.false)) ∙ rows_are p (c.args.b / map_words) (c.args.b % map_words) c.args.b (omega arith)
