use Rattle.replay_commands.proofs.CommandLaws.{asked_all, parsed_none, parsed_at}
use Rattle.replay_commands.specs.Command.{forms, parse_command}
use Rattle.replay_commands.proofs.parse.parse.Goals as goal

pub returns-in_default : goal.returns-in_default
unfolding parse_command forms
returns-in_default c = parsed_none _ _ _ _ _ c.form_of.ensures c.in_default.is

pub returns : goal.returns
unfolding parse_command forms
returns c = parsed_at _ _ _ _ _ c.form_of.ensures _ _ _ _ _ _ _ c.in-Some.is c.piece-form.ensures c.bytes_at.ensures c.take_hex.ensures c.bytes_at-2.ensures c.take_hex-2.ensures (asked_all _ _ _ _ _ _ _ _ _ _ c.worth-x.ensures c.worth-y.ensures c.worth-z.ensures c.worth.ensures c.asked.ensures)
