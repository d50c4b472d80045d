use Rattle.check_inodes.proofs.InodeLaws.{tail_none, last_there, tail_tested}
use Rattle.std.proofs.Common.{sym, ◌∙◌, arith, rules}
use Rattle.check_inodes.proofs.zero_tail.Goals as goal

pub returns-then-kind-ne-FILE : goal.returns-then-kind-ne-FILE
returns-then-kind-ne-FILE c = tail_none _ _ _ (λ z. c.if-kind-ne-FILE.true (c.kind.ensures ∙ z))

pub block_at-requires : goal.block_at-requires
block_at-requires c =
    let p = c.requires in
    let r = last_there _ _ _ _ c.size-size.ensures (omega arith) _ p.2 p.3 in
    (p.0.inodes, omega (arith, c.last_block-last.ensures, r.0), search rules)

pub all_zero-requires : goal.all_zero-requires
all_zero-requires c =
    let p = c.requires in
    let r = last_there _ _ _ _ c.size-size.ensures (omega arith) _ p.2 p.3 in
    omega (arith, c.block_at.ensures, c.last_block-last.ensures, r.0, r.1, p.0.long)

pub returns : goal.returns
returns c =
    c.all_zero.ensures
    ∙ tail_tested _ _ _ _ c.size-size.ensures (omega arith) _ _
    (sym c.kind.ensures ∙ c.if-kind-ne-FILE.false)
    c.last_block-last.ensures
    c.block_at.ensures
