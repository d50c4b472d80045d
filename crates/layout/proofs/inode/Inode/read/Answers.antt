use Rattle.layout.specs.Inode.{inode_of}
use Rattle.layout.proofs.inode.Inode.read.Goals as goal

pub returns : goal.returns
unfolding inode_of
returns c = cc
