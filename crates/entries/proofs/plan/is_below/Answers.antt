use native.Mathlib.Omega.{arith}
use Rattle.preservation.proofs.StoreLaws.{fits}
use Rattle.entries.proofs.TakePlanLaws.{below_directory}
use Rattle.entries.proofs.plan.is_below.Goals as goal

pub kind-requires : goal.kind-requires
kind-requires c = fits c.requires.0 _ c.requires.2 c.requires.3

pub returns : goal.returns
returns c = below_directory _ _ _ _ _ (omega arith) c.leads_to.ensures
