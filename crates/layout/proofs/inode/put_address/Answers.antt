use Rattle.layout.specs.Inode.{put_address}
use Rattle.layout.proofs.inode.put_address.Goals as goal

pub returns : goal.returns
unfolding put_address
returns c = cc
