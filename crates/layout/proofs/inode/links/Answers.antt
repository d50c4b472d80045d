use Rattle.layout.specs.Inode.{links_of}
use Rattle.layout.proofs.inode.links.Goals as goal

pub returns : goal.returns
unfolding links_of
returns c = cc
