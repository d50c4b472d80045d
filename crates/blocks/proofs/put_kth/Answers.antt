use mathlib.Core.Path.{ap, ◌∙◌}
use native.Mathlib.Omega.{arith}
use borrow.Author.Tests.{lt-ltb, le-ltb}
use Rattle.octets.specs.Octets.{put_num}
use Rattle.blocks.specs.Block.{block_at, put_in_block, put_kth}
use Rattle.blocks.proofs.put_kth.Goals as goal

pub returns-then-k-lt-ADDRESS_COUNT : goal.returns-then-k-lt-ADDRESS_COUNT
unfolding put_kth
returns-then-k-lt-ADDRESS_COUNT c = let a = c.args in rw (lt-ltb a.k 12 c.if-k-lt-ADDRESS_COUNT.true) c.put_address.ensures

pub block_at-requires : goal.block_at-requires
block_at-requires c = let b = (c.requires.2 (omega arith)).low in (c.requires.0.few, omega (arith, (c.from-a.ensures ∙ c.address.ensures)), omega arith)

pub put_16-requires : goal.put_16-requires
put_16-requires c =
    let b = c.requires.2 (omega arith) in
    omega (arith, c.requires.1, b.low, b.inside, c.block_at.ensures, (c.from-a.ensures ∙ c.address.ensures))

pub returns : goal.returns
unfolding put_kth put_in_block put_num
returns c =
    let a = c.args in
    let o = c.block_at.ensures ∙ ap (block_at a.n) (c.from-a.ensures ∙ c.address.ensures) in
    rw (le-ltb a.k 12 (omega arith), ← o) c.put_16.ensures
