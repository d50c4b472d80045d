use Rattle.text.proofs.PutLaws.{put_lent}
use Rattle.std.proofs.Common.{arith}
use Rattle.text.proofs.put.put.Goals as goal

pub returns : goal.returns
returns c = put_lent _ _ _ _ c.copy_from_slice.ensures.after (omega arith)
