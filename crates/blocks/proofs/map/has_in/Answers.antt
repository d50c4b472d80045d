use Rattle.blocks.proofs.MapLaws.{has_bit}
use Rattle.blocks.proofs.map.has_in.Goals as goal

pub returns : goal.returns
returns c = has_bit c.args.map.now c.args.row c.args.k c.requires.1
