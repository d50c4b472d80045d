use Rattle.layout.specs.Inode.{spare_of}
use Rattle.layout.proofs.inode.spare.Goals as goal

pub returns : goal.returns
unfolding spare_of
returns c = cc
