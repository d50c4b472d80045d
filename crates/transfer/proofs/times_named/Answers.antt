use Rattle.std.proofs.Common.{eqb, ◌*◌, ◌∙◌, arith, rules}
use borrow.Author.Tests.{tests}
use Rattle.std.specs.Int.{from_bool}
use Rattle.std.specs.List.{range_with_len}
use Rattle.std.proofs.lemmas.Iterator.{YieldsList-from_range, YieldsList-from_map}
use Rattle.std.proofs.lemmas.Iterator.Consumers.{sum_by_from_yields_List, fits_by_from_yields_list}
use Rattle.bounded.proofs.CountLaws.{tally_le}
use Rattle.layout.specs.Sizes.{address_count}
use Rattle.layout.specs.Inode.{address_of}
use Rattle.transfer.proofs.ChainLaws.{times_listed}
use Rattle.transfer.proofs.times_named.Goals as goal

pub sum-requires-clause-fits : goal.sum-requires-clause-fits
sum-requires-clause-fits c =
    let f = address_of c.args.m.now c.args.n in
    let k = address_count * c.args.n in
    fits_by_from_yields_list (λ i. from_bool (eqb (f i) c.args.c)) (range_with_len 0 k) _ _
    (YieldsList-from_map _ (λ i. from_bool (eqb (f i) c.args.c)) (YieldsList-from_range 0 k k (cc) (omega arith)) c.map.ensures.closure (λ x r q k. search (rules, tests)))
    (omega (arith, c.requires.0, times_listed f c.args.c k, tally_le f k c.args.c))

pub returns : goal.returns
returns c =
    let f = address_of c.args.m.now c.args.n in
    let k = address_count * c.args.n in
    sum_by_from_yields_List (λ i. from_bool (eqb (f i) c.args.c)) (range_with_len 0 k) _ _ c.sum.ensures.ran
    (YieldsList-from_map _ (λ i. from_bool (eqb (f i) c.args.c)) (YieldsList-from_range 0 k k (cc) (omega arith)) c.map.ensures.closure (λ x r q k. search (rules, tests)))
    ∙ times_listed f c.args.c k
