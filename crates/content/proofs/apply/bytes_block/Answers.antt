use mathlib.Core.Path.{◌∙◌}
use native.Mathlib.Omega.{arith}
use Rattle.content.proofs.PlaceLaws.{bytes_low}
use Rattle.content.proofs.ReadLaws.{fits_holds, fits_inode, block_short, block_high, block_few}
use borrow.Author.Rules.{rules}
use Rattle.content.proofs.apply.bytes_block.Goals as goal

pub kth_block-requires : goal.kth_block-requires
kth_block-requires c = let p = c.requires in (fits_inode p.0, (block_short _ p.0 _ p.1 c.if-not-long.true).0)

pub returns-then-not-long : goal.returns-then-not-long
returns-then-not-long c = let p = c.requires in c.kth_block.ensures ∙ (block_short _ p.0 _ p.1 c.if-not-long.true).1

pub kth_block-requires-then-p-lt-ADDRESS_PLACE : goal.kth_block-requires-then-p-lt-ADDRESS_PLACE
kth_block-requires-then-p-lt-ADDRESS_PLACE c = (fits_inode c.requires.0, omega arith)

pub returns-then-p-lt-ADDRESS_PLACE : goal.returns-then-p-lt-ADDRESS_PLACE
returns-then-p-lt-ADDRESS_PLACE c = c.kth_block-then-p-lt-ADDRESS_PLACE.ensures ∙ bytes_low _ _ _ _ c.if-p-lt-ADDRESS_PLACE.true

pub overflow_add-p : goal.overflow_add-p
overflow_add-p c = let w = block_few _ c.requires.0 in search rules

pub kth_used-requires : goal.kth_used-requires
kth_used-requires c =
    let p = c.requires in
    let h = fits_holds p.0 in
    (p.0.sound, h.low, h.high, (block_high _ p.0 _ p.1 c.if-not-long.false c.if-p-lt-ADDRESS_PLACE.false).0)

pub returns : goal.returns
returns c = let p = c.requires in c.kth_used.ensures ∙ (block_high _ p.0 _ p.1 c.if-not-long.false c.if-p-lt-ADDRESS_PLACE.false).1
