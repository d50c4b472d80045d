use Rattle.layout.specs.Inode.{parent_of}
use Rattle.layout.proofs.inode.parent.Goals as goal

pub returns : goal.returns
unfolding parent_of
returns c = cc
