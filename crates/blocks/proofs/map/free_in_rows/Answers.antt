use Rattle.std.proofs.Common.{ℕ, ◌+◌, ◌*◌, ◌∙◌, arith, rules}
use borrow.Author.Tests.{tests}
use Rattle.std.specs.List.{range_with_len}
use Rattle.std.proofs.lemmas.Iterator.{YieldsList-from_range, YieldsList-from_map}
use Rattle.std.proofs.lemmas.Iterator.Consumers.{sum_by_from_yields_List, fits_by_from_yields_list}
use Rattle.bounded.specs.Count.{count}
use Rattle.bounded.proofs.CountLaws.{count_le}
use Rattle.blocks.specs.Map.{map_words, lacks}
use Rattle.blocks.proofs.MapLaws.{rows_free}
use Rattle.blocks.proofs.map.free_in_rows.Goals as goal

pub sum-requires-clause-fits : goal.sum-requires-clause-fits
sum-requires-clause-fits c =
    let m = c.args.map.now in
    let n = c.args.rows in
    let h = λ (r : ℕ). count (λ k. lacks m (map_words * r + k + 1)) map_words in
    fits_by_from_yields_list h (range_with_len 0 n) _ _
    (YieldsList-from_map _ h (YieldsList-from_range 0 n n (cc) (omega arith)) c.map.ensures.closure (λ x r q k. search (rules, tests)))
    (omega (arith, rows_free m n, count_le (λ k. lacks m (k + 1)) (map_words * n)))

pub returns : goal.returns
returns c =
    let m = c.args.map.now in
    let n = c.args.rows in
    let h = λ (r : ℕ). count (λ k. lacks m (map_words * r + k + 1)) map_words in
    sum_by_from_yields_List h (range_with_len 0 n) _ _ c.sum.ensures.ran
    (YieldsList-from_map _ h (YieldsList-from_range 0 n n (cc) (omega arith)) c.map.ensures.closure (λ x r q k. search (rules, tests)))
    ∙ rows_free m n
