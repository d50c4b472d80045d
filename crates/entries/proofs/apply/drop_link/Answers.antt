use mathlib.Core.Path.{◌∙◌}
use native.Mathlib.Omega.{arith}
use Rattle.entries.proofs.EnterLaws.{other_link}
use Rattle.entries.proofs.apply.drop_link.Goals as goal

pub returns : goal.returns
returns c = c.put_links.ensures ∙ other_link _ _ _ _ c.links-links.ensures (omega arith)
