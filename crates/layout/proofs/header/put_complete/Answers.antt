use Rattle.layout.specs.Header.{put_complete}
use Rattle.layout.proofs.header.put_complete.Goals as goal

pub returns : goal.returns
unfolding put_complete
returns c = cc
