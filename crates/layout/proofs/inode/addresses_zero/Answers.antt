use mathlib.Core.Path.{◌∙◌}
use Rattle.layout.proofs.InodeLaws.{addresses_words}
use Rattle.layout.proofs.inode.addresses_zero.Goals as goal

pub returns : goal.returns
returns c = c.words_zero.ensures ∙ addresses_words _ _ _ _ c.address_at.ensures
