use Rattle.std.proofs.Common.{ap, ◌∙◌}
use Rattle.std.specs.Int.{w32, from_le_bytes}
use Rattle.octets.proofs.NumLaws.{num_le_4}
use Rattle.octets.proofs.get_32.Goals as goal

pub returns : goal.returns
returns c = c.from_le_bytes.ensures ∙ ap (from_le_bytes w32) c.bytes.ensures ∙ num_le_4 c.args.s.now c.args.o
