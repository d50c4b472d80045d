use Rattle.replay_commands.proofs.LineLaws.{done_reply, refused_reply}
use Rattle.replay_commands.proofs.answer.reply.Goals as goal

pub returns-in-Ok : goal.returns-in-Ok
returns-in-Ok c = done_reply _ _ c.in-Ok.is

pub returns-in-Err : goal.returns-in-Err
returns-in-Err c = refused_reply _ _ _ c.in-Err.is c.from.ensures
