use Rattle.content.proofs.ReadLaws.{fits_inode, block_some, byte_is}
use borrow.Author.Rules.{rules}
use Rattle.content.proofs.apply.byte_at.Goals as goal

pub block_at-requires : goal.block_at-requires
block_at-requires c = let f = c.requires.0 in ((fits_inode f).few, block_some _ f _ c.bytes_block.ensures, search rules)

pub returns : goal.returns
returns c = byte_is _ _ _ _ _ _ c.bytes_block.ensures c.block_at.ensures
