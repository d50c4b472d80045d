use Rattle.std.proofs.Common.{◌+◌, ◌*◌, refl, rules}
use Rattle.blocks.specs.Map.{map_words}
use Rattle.check_inodes.specs.Pass.{blank_if_free_b}
use Rattle.check_inodes.proofs.ChainLaws.{all_range}
use Rattle.check_inodes.proofs.row_blank.Goals as goal

pub returns : goal.returns
returns c =
    all_range (λ k. blank_if_free_b c.args.s.now c.args.n (map_words * c.args.row + k + 1)) c.args.m _ _ _ _ refl c.all.ensures.ran
    (λ x b q k. (search rules, λ l. search rules))
