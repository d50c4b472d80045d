use Rattle.std.proofs.Common.{ℕ, ◌+◌, ◌*◌, ◌∙◌, arith, rules}
use borrow.Author.Tests.{tests}
use Rattle.std.specs.Int.{from_bool}
use Rattle.std.specs.List.{range_with_len}
use Rattle.std.proofs.lemmas.Iterator.{YieldsList-from_range, YieldsList-from_map}
use Rattle.std.proofs.lemmas.Iterator.Consumers.{sum_by_from_yields_List, fits_by_from_yields_list}
use Rattle.bounded.proofs.CountLaws.{count_le}
use Rattle.layout.proofs.RangeLaws.{below_listed}
use Rattle.blocks.specs.Map.{map_words, lacks}
use Rattle.blocks.proofs.map.free_in_row.Goals as goal

pub sum-free-requires-clause-fits : goal.sum-free-requires-clause-fits
sum-free-requires-clause-fits c =
    let p = λ (k : ℕ). lacks c.args.map.now (map_words * c.args.row + k + 1) in
    fits_by_from_yields_list (λ i. from_bool (p i)) (range_with_len 0 c.args.m) _ _
    (YieldsList-from_map _ (λ i. from_bool (p i)) (YieldsList-from_range 0 c.args.m c.args.m (cc) (omega arith)) c.map.ensures.closure (λ x r q k. search (rules, tests)))
    (omega (arith, below_listed p c.args.m, count_le p c.args.m))

pub returns : goal.returns
returns c =
    let p = λ (k : ℕ). lacks c.args.map.now (map_words * c.args.row + k + 1) in
    c.from.ensures ∙ sum_by_from_yields_List (λ i. from_bool (p i)) (range_with_len 0 c.args.m) _ _ c.sum-free.ensures.ran
    (YieldsList-from_map _ (λ i. from_bool (p i)) (YieldsList-from_range 0 c.args.m c.args.m (cc) (omega arith)) c.map.ensures.closure (λ x r q k. search (rules, tests)))
    ∙ below_listed p c.args.m
