use Rattle.script_listing.specs.Listing.{place_text}
use Rattle.text.proofs.PutLaws.{put_on}
use native.Mathlib.Omega.{arith}
use Rattle.script_listing.proofs.put_place.Goals as goal

pub returns : goal.returns
unfolding place_text
returns c = let x = c.put_pair-a.ensures in let y = c.put_numbered.ensures in record { put = put_on _ _ _ _ _ _ _ _ x.put y.put; upper_bound = omega (arith, x.upper_bound, y.upper_bound) }
