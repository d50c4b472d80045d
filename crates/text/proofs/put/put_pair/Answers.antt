use native.Mathlib.Omega.{arith}
use Rattle.text.proofs.PutLaws.{put_on}
use Rattle.text.specs.Put.{pair_text}
use Rattle.text.proofs.put.put_pair.Goals as goal

pub returns : goal.returns
unfolding pair_text
returns c = let x = c.put_numbered-e.ensures in let y = c.put_numbered.ensures in record { put = put_on _ _ _ _ _ _ _ _ x.put y.put; upper_bound = omega (arith, x.upper_bound, y.upper_bound) }
