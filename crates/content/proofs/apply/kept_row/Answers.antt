use Rattle.std.proofs.Common.{rules}
use Rattle.blocks.specs.Block.{kth_block}
use Rattle.ledger.specs.Change.{kept}
use Rattle.content.proofs.FromFnLaws.{from_fn_table}
use Rattle.content.proofs.apply.kept_row.Goals as goal

pub returns : goal.returns
returns c = let a = c.args in from_fn_table (kept a.crosses (kth_block a.s.now a.n a.i) a.count) 44 _ _ (λ i r q k. (search rules, λ l. search rules)) c.from_fn.ensures.items
