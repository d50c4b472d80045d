use Rattle.std.proofs.Common.{ℕ, ap, ◌∙◌, replicate, arith}
use Rattle.octets.specs.Octets.{splice, zeroed}
use Rattle.octets.proofs.PartLaws.{lent, length_cut}
use Rattle.octets.proofs.zero_range.Goals as goal

pub returns : goal.returns
unfolding zeroed
returns c =
    let a = c.args in
    let n = length_cut a.s.now a.o a.k (omega arith) in
    lent a.s.now a.o a.k _ (c.fill.ensures.len ∙ n) (omega arith)
    ∙ ap (splice a.s.now a.o) (c.fill.ensures.after (λ y e. e) ∙ ap (λ (m : ℕ). replicate m 0) n)
