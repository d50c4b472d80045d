use mathlib.Core.Path.{◌∙◌}
use Rattle.layout.proofs.InodeLaws.{addresses_bytes}
use Rattle.layout.proofs.inode.no_addresses.Goals as goal

pub returns : goal.returns
returns c = c.all_zero.ensures ∙ addresses_bytes _ _ _ _ _ c.address_at.ensures
