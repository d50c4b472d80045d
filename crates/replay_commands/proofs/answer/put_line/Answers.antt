use Rattle.replay_commands.proofs.LineLaws.{error_line, said_line}
use Rattle.text.proofs.PutLaws.{put_on, put_same}
use native.Mathlib.Omega.{arith}
use Rattle.replay_commands.proofs.answer.put_line.Goals as goal

pub returns-in-Error-clause-put : goal.returns-in-Error-clause-put
returns-in-Error-clause-put c = put_same _ _ _ _ _ _ (error_line _ _ c.args.sums c.in-Error.is) (put_on _ _ _ _ _ _ _ _ c.put_reply-e.ensures.put c.put.ensures)

pub returns : goal.returns
returns c = let x = c.put_reply-e.ensures in let y = c.put_sums.ensures in record { put = put_same _ _ _ _ _ _ (said_line _ _ c.args.sums c.in_default.not-Error) (put_on _ _ _ _ _ _ _ _ x.put y.put); upper_bound = omega (arith, x.upper_bound, y.upper_bound) }
