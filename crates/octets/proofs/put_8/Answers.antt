use mathlib.Core.Path.{refl}
use Rattle.octets.specs.Octets.{splice, put_num, to_bytes}
use Rattle.octets.proofs.put_8.Goals as goal

pub returns : goal.returns
unfolding splice put_num to_bytes
returns c = refl
