use Rattle.layout.specs.Inode.{put_links}
use Rattle.layout.proofs.inode.put_links.Goals as goal

pub returns : goal.returns
unfolding put_links
returns c = cc
