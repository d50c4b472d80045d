use Rattle.names.proofs.EntryLaws.{words_filled}
use Rattle.names.proofs.Name.of.Goals as goal

pub returns : goal.returns
returns c =
    cc (words_filled c.args.name.now c.requires)
