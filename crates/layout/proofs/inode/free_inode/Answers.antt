use Rattle.std.proofs.Common.{refl, ◌+◌, arith, rules}
use borrow.Author.Tests.{tests}
use Rattle.std.proofs.lemmas.Iterator.{YieldsList-from_range}
use Rattle.std.proofs.lemmas.Iterator.Search.{find_from_yields_List}
use Rattle.layout.specs.Inode.{free_inode, inode_free}
use Rattle.layout.proofs.RangeLaws.{found_listed}
use Rattle.layout.proofs.inode.free_inode.Goals as goal

pub returns : goal.returns
unfolding free_inode
returns c =
    found_listed (inode_free c.args.s.now) 1 c.args.n _
    (find_from_yields_List (inode_free c.args.s.now) _ _ c.find.result c.find.ensures.ran (YieldsList-from_range 1 (c.args.n + 1) c.args.n refl (omega arith))
    (λ x b q k. search (rules, tests)))
