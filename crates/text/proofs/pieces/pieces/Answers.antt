use Rattle.std.proofs.Common.{rules, ◌≡◌, eqb, arith}
use Rattle.std.specs.List.{count_by}
use Rattle.text.proofs.ListLaws.{count_is}
use Rattle.text.specs.Pieces.{pieces}
use Rattle.text.proofs.pieces.pieces.Goals as goal

pub returns : goal.returns
unfolding pieces
returns c =
    let e : c.count.result ≡ count_by (λ b. eqb b c.args.x) c.args.s.now = search rules in
    omega (arith, e, count_is (λ b. eqb b c.args.x) c.args.s.now)
