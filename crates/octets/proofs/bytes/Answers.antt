use Rattle.std.proofs.Common.{rules}
use Rattle.octets.proofs.PartLaws.{cut}
use Rattle.octets.proofs.bytes.Goals as goal

pub returns : goal.returns
returns g c = search (rules, cut)
