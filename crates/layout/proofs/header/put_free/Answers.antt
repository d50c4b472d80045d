use Rattle.layout.specs.Header.{put_free}
use Rattle.layout.proofs.header.put_free.Goals as goal

pub returns : goal.returns
unfolding put_free
returns c = cc
