use Rattle.std.proofs.Common.{ap, ◌∙◌}
use Rattle.octets.specs.Octets.{splice, put_num}
use Rattle.octets.proofs.NumLaws.{le_num_2}
use Rattle.octets.proofs.put_16.Goals as goal

pub returns : goal.returns
unfolding put_num
returns c = let a = c.args in c.put_bytes.ensures ∙ ap (splice a.s.now a.o) (c.to_le_bytes.ensures ∙ le_num_2 a.v c.ranges.v.fits)
