use mathlib.Core.Path.{◌∙◌}
use Rattle.growth.specs.Extend.{put_size}
use Rattle.content.proofs.apply.put_size.Goals as goal

pub returns : goal.returns
unfolding put_size
returns c = c.write_attributes.ensures ∙ rw (c.with_size.ensures, c.read-old.ensures)
