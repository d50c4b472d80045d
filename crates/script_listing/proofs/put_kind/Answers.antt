use native.Mathlib.Omega.{arith}
use Rattle.script_listing.proofs.TextLaws.{directory_text, file_text}
use Rattle.text.proofs.PutLaws.{put_same}
use Rattle.script_listing.proofs.put_kind.Goals as goal

pub returns-then-kind-eq-DIRECTORY : goal.returns-then-kind-eq-DIRECTORY
returns-then-kind-eq-DIRECTORY c = record { put = put_same _ _ _ _ _ _ (directory_text _ c.if-kind-eq-DIRECTORY.true) c.put.ensures; upper_bound = omega (arith, c.put.ensures.ends) }

pub returns-else-kind-eq-DIRECTORY : goal.returns-else-kind-eq-DIRECTORY
returns-else-kind-eq-DIRECTORY c = record { put = put_same _ _ _ _ _ _ (file_text _ c.if-kind-eq-DIRECTORY.false) c.put-else-kind-eq-DIRECTORY.ensures; upper_bound = omega (arith, c.put-else-kind-eq-DIRECTORY.ensures.ends) }
