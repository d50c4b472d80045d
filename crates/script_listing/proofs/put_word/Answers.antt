use native.Mathlib.Omega.{arith}
use Rattle.script_listing.proofs.TextLaws.{ok_word, no_word}
use Rattle.text.proofs.PutLaws.{put_same}
use Rattle.script_listing.proofs.put_word.Goals as goal

pub returns-in-Ok : goal.returns-in-Ok
returns-in-Ok c = record { put = put_same _ _ _ _ _ _ (ok_word _ _ c.in-Ok.is) c.put_numbered.ensures.put; upper_bound = omega (arith, c.put_numbered.ensures.upper_bound) }

pub returns-in-Err : goal.returns-in-Err
returns-in-Err c = record { put = put_same _ _ _ _ _ _ (no_word _ _ c.in-Err.is) c.put_numbered-in-Err.ensures.put; upper_bound = omega (arith, c.put_numbered-in-Err.ensures.upper_bound) }
