use Rattle.std.proofs.Common.{◌+◌, ◌*◌, ◌≤◌, ◌∙◌, sym, length, arith}
use Rattle.bounded.proofs.SearchLaws.{first_begin, first_turn, first_found, first_end}
use Rattle.octets.specs.Octets.{part}
use Rattle.octets.proofs.PartLaws.{cut_test, length_cut}
use Rattle.directory.proofs.first_in_block.Goals as goal

pub loop-j-init : goal.loop-j-init
loop-j-init g c = λ p t. first_begin _ 4

pub returns-then-passes-clause-lowest : goal.returns-then-passes-clause-lowest
returns-then-passes-clause-lowest g c = λ p t.
    let i = c.loop-j in
    let s = c.args.block.now in
    let o : 16 * i.j + 16 ≤ length s = omega (arith, c.requires.long) in
    sym (i.invariant p t ∙ first_found (λ k. p (part s (16 * k) 16)) i.j 4 (omega arith)
    (cut_test p s (16 * i.j) 16 (t.says _ _ (length_cut s (16 * i.j) 16 o) (record { met = c.passes.ensures })) c.if-passes.true))

pub loop-j-preserved : goal.loop-j-preserved
loop-j-preserved g c = λ p t.
    let i = c.loop-j in
    let s = c.args.block.now in
    let o : 16 * i.j + 16 ≤ length s = omega (arith, c.requires.long) in
    i.invariant p t ∙ first_turn (λ k. p (part s (16 * k) 16)) i.j 4 (omega arith)
    (cut_test p s (16 * i.j) 16 (t.says _ _ (length_cut s (16 * i.j) 16 o) (record { met = c.passes.ensures })) c.if-passes.false)

pub returns-clause-lowest : goal.returns-clause-lowest
returns-clause-lowest g c = λ p t. let i = c.loop-j in sym (i.invariant p t ∙ first_end _ i.j 4 (omega arith))
