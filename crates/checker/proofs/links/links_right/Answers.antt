use Prim.Native.Nat.{◌+◌}
use mathlib.Core.Path.{refl}
use Rattle.std.proofs.Common.{rules}
use Rattle.sound.specs.Test.{counted_b}
use Rattle.check_inodes.proofs.ChainLaws.{all_range}
use Rattle.checker.proofs.links.links_right.Goals as goal

pub returns : goal.returns
returns c = all_range (λ k. counted_b c.args.s.now c.args.n (k + 1)) c.args.n _ _ _ _ refl c.all.ensures.ran (λ x b q k. (search rules, λ l. search rules))
