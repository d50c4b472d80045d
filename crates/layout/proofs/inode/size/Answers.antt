use Rattle.layout.specs.Inode.{size_of}
use Rattle.layout.proofs.inode.size.Goals as goal

pub returns : goal.returns
unfolding size_of
returns c = cc
