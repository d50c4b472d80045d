use Rattle.layout.specs.Inode.{kind_of}
use Rattle.layout.proofs.inode.kind.Goals as goal

pub returns : goal.returns
unfolding kind_of
returns c = cc
