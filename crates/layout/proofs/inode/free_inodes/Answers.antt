use Rattle.std.proofs.Common.{refl, ◌+◌, ◌∙◌, arith, rules, of_calls}
use borrow.Author.Tests.{tests}
use Rattle.std.specs.List.{range_with_len}
use Rattle.std.proofs.lemmas.Iterator.{YieldsList-from_range, YieldsList-from_map}
use Rattle.std.proofs.lemmas.Iterator.Consumers.{sum_by_from_yields_List, fits_by_from_yields_list}
use Rattle.std.specs.Int.{from_bool}
use Rattle.bounded.proofs.CountLaws.{count_le}
use Rattle.layout.specs.Inode.{inode_free}
use Rattle.layout.proofs.RangeLaws.{count_listed}
use Rattle.layout.proofs.inode.free_inodes.Goals as goal

pub sum-free-requires-clause-fits : goal.sum-free-requires-clause-fits
sum-free-requires-clause-fits c =
    let p = inode_free c.args.s.now in
    fits_by_from_yields_list (λ i. from_bool (p i)) (range_with_len 1 c.args.n) _ _
    (YieldsList-from_map _ (λ i. from_bool (p i)) (YieldsList-from_range 1 (c.args.n + 1) c.args.n (cc) (omega arith)) c.map.ensures.closure (λ x r q k. search (rules, tests)))
    (omega (arith, count_listed p c.args.n, count_le (λ k. p (k + 1)) c.args.n))

pub returns : goal.returns
returns c =
    let p = inode_free c.args.s.now in
    c.from.ensures ∙ sum_by_from_yields_List (λ i. from_bool (p i)) (range_with_len 1 c.args.n) _ _ c.sum-free.ensures.ran
    (YieldsList-from_map _ (λ i. from_bool (p i)) (YieldsList-from_range 1 (c.args.n + 1) c.args.n (cc) (omega arith)) c.map.ensures.closure (λ x r q k. search (rules, tests)))
    ∙ count_listed p c.args.n
