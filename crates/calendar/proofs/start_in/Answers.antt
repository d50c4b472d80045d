use Rattle.std.proofs.Common.{◌∙◌, rules}
use Rattle.calendar.proofs.start_in.Goals as goal

pub returns : goal.returns
returns c = c.from.ensures ∙ c.requires.0.each c.args.month (search rules)
