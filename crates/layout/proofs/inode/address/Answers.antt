use Rattle.layout.specs.Inode.{address_of}
use Rattle.layout.proofs.inode.address.Goals as goal

pub returns : goal.returns
unfolding address_of
returns c = cc
