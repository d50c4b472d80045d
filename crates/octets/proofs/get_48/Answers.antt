use Rattle.octets.proofs.NumLaws.{num_join}
use Rattle.octets.proofs.get_48.Goals as goal

pub returns : goal.returns
returns c = let a = c.args in cc (num_join 4 2 a.s.now a.o)
