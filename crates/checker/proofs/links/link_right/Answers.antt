use mathlib.Core.Path.{sym, ◌∙◌}
use native.Mathlib.Omega.{arith}
use borrow.Author.Tests.{eq-eqb, ne_eqb}
use Rattle.checker.proofs.LinkLaws.{count_wrong, count_free, count_root, count_dir, count_file}
use Rattle.checker.proofs.links.link_right.Goals as goal

pub returns-else-links-count : goal.returns-else-links-count
returns-else-links-count c = ne_eqb _ _ c.if-links-count.false ∙ sym (count_wrong _ _ _ _ _ c.requires.1 c.links.ensures c.if-links-count.false)

pub returns-then-i-eq-ROOT : goal.returns-then-i-eq-ROOT
returns-then-i-eq-ROOT c = eq-eqb _ _ c.if-i-eq-ROOT.true ∙ count_root _ _ _ _ _ c.requires.1 c.links.ensures c.if-links-count.true c.if-i-eq-ROOT.true

pub returns-in-0 : goal.returns-in-0
returns-in-0 c = count_free _ _ _ _ _ c.requires.1 c.links.ensures _ c.if-links-count.true c.kind.ensures c.in-0.is

pub returns-in-2 : goal.returns-in-2
returns-in-2 c = count_dir _ _ _ _ _ c.requires.1 c.links.ensures _ c.if-links-count.true c.kind.ensures c.if-i-eq-ROOT.false c.in-2.is

pub returns-in_default : goal.returns-in_default
returns-in_default c =
    count_file _ _ _ _ _ c.requires.1 c.links.ensures _ c.if-links-count.true c.kind.ensures (λ e. omega arith) c.if-i-eq-ROOT.false (λ e. omega arith)
