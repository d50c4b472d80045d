use mathlib.Core.Path.{◌∙◌}
use Rattle.content.specs.Content.{cut_to}
use Rattle.content.proofs.FileLaws.{holds_of}
use Rattle.content.proofs.ReadLaws.{holds_fits}
use Rattle.content.proofs.ShortenLaws.{trimmed_holds}
use Rattle.content.proofs.apply.shorten_file.Goals as goal

pub cut_blocks-requires : goal.cut_blocks-requires
cut_blocks-requires c = let p = c.requires in rw c.zero_rest.ensures (holds_fits (trimmed_holds _ _ _ _ _ (holds_of p.0 p.1 p.2)))

pub returns : goal.returns
unfolding cut_to
returns c = c.cut_blocks.ensures ∙ rw c.zero_rest.ensures
