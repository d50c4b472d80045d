use Rattle.names.specs.Entry.{entry_inode}
use Rattle.names.proofs.entry_inode.Goals as goal

pub returns : goal.returns
unfolding entry_inode
returns c = c.get_16.ensures
