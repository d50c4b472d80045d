use Rattle.keeping.specs.Days.{noted}
use Rattle.keeping.proofs.days.noted.Goals as goal

pub returns : goal.returns
unfolding noted
returns c = c.marked.ensures
