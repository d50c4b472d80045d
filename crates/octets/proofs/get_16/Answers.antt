use Rattle.std.proofs.Common.{ap, ◌∙◌}
use Rattle.std.specs.Int.{w16, from_le_bytes}
use Rattle.octets.proofs.NumLaws.{num_le_2}
use Rattle.octets.proofs.get_16.Goals as goal

pub returns : goal.returns
returns c = c.from_le_bytes.ensures ∙ ap (from_le_bytes w16) c.bytes.ensures ∙ num_le_2 c.args.s.now c.args.o
