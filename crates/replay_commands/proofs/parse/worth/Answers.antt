use Rattle.replay_commands.proofs.CommandLaws.{worth_or}
use Rattle.replay_commands.proofs.parse.worth.Goals as goal

pub returns : goal.returns
returns c = worth_or _ _ _ _ _ _ _ c.value_at.ensures c.unwrap_or.ensures
