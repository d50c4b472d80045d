use Rattle.std.proofs.Common.{ap, ◌∙◌}
use Rattle.std.specs.Int.{w64, from_le_bytes}
use Rattle.octets.proofs.NumLaws.{num_le_8}
use Rattle.octets.proofs.get_64.Goals as goal

pub returns : goal.returns
returns c = c.from_le_bytes.ensures ∙ ap (from_le_bytes w64) c.bytes.ensures ∙ num_le_8 c.args.s.now c.args.o
