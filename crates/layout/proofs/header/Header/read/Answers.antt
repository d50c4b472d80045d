use Rattle.layout.specs.Header.{header_of}
use Rattle.layout.proofs.header.Header.read.Goals as goal

pub returns : goal.returns
unfolding header_of
returns c = cc
