use Rattle.text.proofs.PutLaws.{put_on}
use Rattle.replay_commands.specs.Line.{sums_text}
use native.Mathlib.Omega.{arith}
use Rattle.replay_commands.proofs.answer.put_sums.Goals as goal

pub returns : goal.returns
unfolding sums_text
returns c = record {
  put = put_on _ _ _ _ _ _ _ _ c.put-a.ensures (put_on _ _ _ _ _ _ _ _ c.put_hex-b.ensures.put (put_on _ _ _ _ _ _ _ _ c.put-c.ensures (put_on _ _ _ _ _ _ _ _ c.put_hex-d.ensures.put
      (put_on _ _ _ _ _ _ _ _ c.put-e.ensures (put_on _ _ _ _ _ _ _ _ c.put_hex-f.ensures.put c.put.ensures)))));
  upper_bound = omega (arith, c.put-a.ensures.ends, c.put_hex-b.ensures.value, c.put-c.ensures.ends, c.put_hex-d.ensures.value, c.put-e.ensures.ends, c.put_hex-f.ensures.value, c.put.ensures.ends);
}
