use native.Mathlib.Omega.{arith}
use Rattle.script_listing.proofs.TextLaws.{inode_text_lem}
use Rattle.text.proofs.PutLaws.{put_same, put_on}
use Rattle.script_listing.proofs.put_inode.Goals as goal

pub returns : goal.returns
returns c = let x = c.put_kind-a.ensures in let y = c.put_pair.ensures in record { put = put_same _ _ _ _ _ _ (inode_text_lem _ _ _ _ _ c.kind.ensures c.size-size.ensures c.links-links.ensures) (put_on _ _ _ _ _ _ _ _ x.put y.put); upper_bound = omega (arith, x.upper_bound, y.upper_bound) }
