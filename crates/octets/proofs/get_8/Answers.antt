use mathlib.Core.Path.{refl}
use Rattle.octets.specs.Octets.{num_at}
use Rattle.octets.proofs.get_8.Goals as goal

pub returns : goal.returns
unfolding num_at
returns c = refl
