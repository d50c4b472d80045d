use Rattle.std.proofs.Common.{◌≡◌, ◌+◌, ◌*◌, ◌/◌, ◌%◌, ◌∙◌, ap, arith}
use Rattle.bounded.specs.Count.{count_to}
use Rattle.bounded.proofs.CountLaws.{count_le}
use Rattle.blocks.specs.Map.{map_words, lacks}
use Rattle.blocks.proofs.MapLaws.{row_free}
use Rattle.blocks.proofs.map.free_blocks.Goals as goal

pub overflow_add-result : goal.overflow_add-result
overflow_add-result c =
    let m = c.args.map.now in
    let n = c.args.count / 256 in
    omega (arith, c.free_in_rows.ensures, count_le (λ k. lacks m (k + 1)) (map_words * n), c.free_in_row.ensures, count_le (λ k. lacks m (map_words * n + k + 1)) (c.args.count % 256))

pub returns : goal.returns
returns c =
    let m = c.args.map.now in
    let n = c.args.count / 256 in
    let e : map_words * n + c.args.count % 256 ≡ c.args.count = omega arith in
    row_free m n (c.args.count % 256) _ _ c.free_in_rows.ensures c.free_in_row.ensures ∙ ap (count_to (lacks m)) e
