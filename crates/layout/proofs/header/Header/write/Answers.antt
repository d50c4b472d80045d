use Rattle.layout.specs.Header.{put_header}
use Rattle.layout.proofs.header.Header.write.Goals as goal

pub returns : goal.returns
unfolding put_header
returns c = cc
