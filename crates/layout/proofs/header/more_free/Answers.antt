use mathlib.Core.Path.{◌∙◌}
use Rattle.layout.specs.Header.{more_free}
use borrow.Author.Rules.{rules}
use Rattle.layout.proofs.header.more_free.Goals as goal

pub returns : goal.returns
unfolding more_free
returns c = c.put_free.ensures ∙ rw c.read-h.ensures
