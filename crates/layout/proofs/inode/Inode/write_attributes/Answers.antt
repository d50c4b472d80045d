use Rattle.layout.specs.Inode.{put_attributes, attributes_at}
use Rattle.layout.proofs.InodeLaws.{attribute_chain}
use Rattle.layout.proofs.inode.Inode.write_attributes.Goals as goal

pub returns : goal.returns
unfolding put_attributes
returns c = let a = c.args in cc (attribute_chain a.s.now (attributes_at a.i) a.self)
