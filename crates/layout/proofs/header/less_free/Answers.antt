use mathlib.Core.Path.{◌∙◌}
use Rattle.layout.specs.Header.{less_free}
use Rattle.layout.proofs.header.less_free.Goals as goal

pub returns : goal.returns
unfolding less_free
returns c = c.put_free.ensures ∙ rw c.read-h.ensures
