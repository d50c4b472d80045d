use Rattle.names.specs.Words.{words_at}
use Rattle.names.proofs.Name.at.Goals as goal

pub returns : goal.returns
unfolding words_at
returns c = cc
