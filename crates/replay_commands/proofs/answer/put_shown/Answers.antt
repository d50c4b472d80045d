use Rattle.text.proofs.PutLaws.{put_on}
use Rattle.std.proofs.Common.{arith}
use Rattle.replay_commands.proofs.answer.put_shown.Goals as goal

pub returns : goal.returns
returns c = record { put = put_on _ _ _ _ _ _ _ _ c.put_said-e.ensures.put (put_on _ _ _ _ _ _ _ _ c.put-f.ensures c.put_bytes.ensures.put); upper_bound = omega (arith, c.put_said-e.ensures.upper_bound, c.put-f.ensures.ends, c.put_bytes.ensures.upper_bound) }
